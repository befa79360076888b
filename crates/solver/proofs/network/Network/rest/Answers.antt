-- Each turn fires the lowest rule that waits.
use Rattle.std.proofs.Common.{◌≡◌, ℕ, ◌-◌, ◌^◌, ◌<◌, List, length, Some, Ok, sym, ap, ◌∙◌, subst, ⊎_elim, arith, rules}
use lib.Bits.{bit_and, bit_or}
use Rattle.places.specs.Members.{minus}
use Rattle.places.specs.Lowest.{First, lowest}
use Rattle.engine.specs.Rows.{item}
use Rattle.engine.specs.Fires.{Fires}
use Rattle.engine.proofs.Rows.{item-here}
use Rattle.meaning.specs.Resting.{Widest, NoneRests}
use Rattle.rules.specs.Listed.{listed}
use Rattle.solver.specs.Waking.{set_at, Sharers}
use Rattle.solver.specs.Fixpoint.{OfRules, OthersRest}
use Rattle.solver.proofs.Resting.{Holding, total, inside-falls, holding-start, holding-end, narrowed-holds, refuted, contradicted, others-same, others-woken, fewer, fewer-rules, more-rules, among-rules, others-among, turns-fall}
use Rattle.solver.proofs.network.Network.rest.Goals as goal

pub loop-place-init : goal.loop-place-init
loop-place-init g c =
    let rules = c.as_slice-rules.result.now in
    let w = c.args.waits.bits in
    let among : c.intersection-waiting.result.bits ≡ bit_and w (2 ^ length rules - 1) = c.intersection-waiting.ensures ∙ ap (bit_and w) c.all.ensures in (
      subst (OfRules rules) (sym among) (among-rules rules w),
      λ others. (holding-start _ _ _ rules c.args.row.now, subst (λ m. OthersRest g.C.Domain g.R.Propagator c.args.self.now.book.now rules m c.args.row.now) (sym among) (others-among g.C.Domain g.R.Propagator c.args.self.now.book.now rules w c.args.row.now others)),
    )

-- the set without its lowest place
left : (n l m : ℕ) → m ≡ minus n l → l ≡ lowest n → m ≡ minus n (lowest n)
left n l m e f = e ∙ ap (minus n) f

pub loop-place-smaller : goal.loop-place-smaller
loop-place-smaller g c =
    let said = subst (λ b. Fires (g.R.Propagator.narrowed c.args.self.now.book.now c.index-rules-k.result c.loop-place.row) c.loop-place.row c.narrow.new.row (Ok b)) c.if-branch.false c.in_ok-narrow.ensures in
    let f = fewer c.loop-place.waiting.bits (c.in-Some.place - 1) c.in-Some.ensures.1 in
    let same : total g.C.Domain.height c.narrow.new.row ≡ total g.C.Domain.height c.loop-place.row = ap (total g.C.Domain.height) said.1 in
    let e = left c.loop-place.waiting.bits c.lowest.result.bits c.without-waiting.result.bits c.without-waiting.ensures c.lowest.ensures in
    omega arith

pub loop-place-preserved : goal.loop-place-preserved
loop-place-preserved g c =
    let kind = g.C.Domain in
    let rule = g.R.Propagator in
    let book = c.args.self.now.book.now in
    let rules = c.as_slice-rules.result.now in
    let row = c.loop-place.row in
    let w = c.loop-place.waiting.bits in
    let k = c.in-Some.place - 1 in
    let first : First k w = c.in-Some.ensures.1 in
    let r = c.index-rules-k.result in
    let here : item rules k ≡ Some r = item-here rules k r (c.loop-place.invariant.0 k first.0) c.index-rules-k.is in
    let law = g.met.R.Propagator.narrowing book in
    let e = left w c.lowest.result.bits c.without-waiting.result.bits c.without-waiting.ensures c.lowest.ensures in
    let said = subst (λ b. Fires (rule.narrowed book r row) row c.narrow.new.row (Ok b)) c.if-branch.false c.in_ok-narrow.ensures in
    let same : c.narrow.new.row ≡ row = said.1 in (
      subst (OfRules rules) (sym e) (fewer-rules rules w c.loop-place.invariant.0),
      λ others. let t = c.loop-place.invariant.1 others in (
        subst (Holding kind rule book rules c.args.row.now) (sym same) t.0,
        subst (λ m. OthersRest kind rule book rules m c.narrow.new.row) (sym e)
            (subst (OthersRest kind rule book rules (minus w (lowest w))) (sym same) (others-same kind rule book law rules row w k r first here t.1 said.0)),
      ),
    )

pub loop-place-smaller-then-branch : goal.loop-place-smaller-then-branch
loop-place-smaller-then-branch g c =
    let law = g.met.R.Propagator.narrowing c.args.self.now.book.now in
    let said = subst (λ b. Fires (g.R.Propagator.narrowed c.args.self.now.book.now c.index-rules-k.result c.loop-place.row) c.loop-place.row c.narrow.new.row (Ok b)) c.if-branch.true c.in_ok-narrow.ensures in
    let fall : total g.C.Domain.height c.narrow.new.row < total g.C.Domain.height c.loop-place.row =
    ⊎_elim (λ e. absurd (said.1 e)) (λ h. h) (inside-falls g.met.C.Domain.bounds g.met.C.Domain.heights _ _ ((law c.index-rules-k.result).inside c.loop-place.row c.narrow.new.row said.0)) in
    let fits : c.woken-waiting.result.bits < 2 ^ 64 = search rules in
    turns-fall _ _ _ _ fall fits

pub loop-place-preserved-then-branch : goal.loop-place-preserved-then-branch
loop-place-preserved-then-branch g c =
    let kind = g.C.Domain in
    let rule = g.R.Propagator in
    let self = c.args.self.now in
    let book = self.book.now in
    let rules = c.as_slice-rules.result.now in
    let row = c.loop-place.row in
    let row' = c.narrow.new.row in
    let w = c.loop-place.waiting.bits in
    let k = c.in-Some.place - 1 in
    let first : First k w = c.in-Some.ensures.1 in
    let r = c.index-rules-k.result in
    let here : item rules k ≡ Some r = item-here rules k r (c.loop-place.invariant.0 k first.0) c.index-rules-k.is in
    let law = g.met.R.Propagator.narrowing book in
    let said = subst (λ b. Fires (rule.narrowed book r row) row row' (Ok b)) c.if-branch.true c.in_ok-narrow.ensures in
    let wake = set_at self.by_rule k in
    let e : c.woken-waiting.result.bits ≡ bit_or (minus w (lowest w)) wake =
    c.woken-waiting.ensures ∙ ap (λ m. bit_or m wake) (left w c.lowest.result.bits c.without-waiting.result.bits c.without-waiting.ensures c.lowest.ensures) in
    let long : self.naming.cells ≡ length row = sym c.requires ∙ sym c.loop-place.auto.row in
    let same = c.as_slice-rules.ensures.listed in
    let sharers : Sharers rule.names rules (length row) r wake =
    subst (λ n. Sharers rule.names rules n r wake) long
    (subst (λ rs. Sharers rule.names rs self.naming.cells r wake) (sym same) (self.wired k r (subst (λ rs. item rs k ≡ Some r) same here))) in (
      subst (OfRules rules) (sym e) (more-rules rules (minus w (lowest w)) wake (fewer-rules rules w c.loop-place.invariant.0) sharers.only),
      λ others. let t = c.loop-place.invariant.1 others in (
        narrowed-holds kind rule book law rules c.args.row.now row k r here t.0 row' said.0,
        subst (λ m. OthersRest kind rule book rules m row') (sym e) (others-woken kind rule book law rules row w k r first here t.1 row' wake sharers said.0 said.1),
      ),
    )

pub returns-in_err-narrow : goal.returns-in_err-narrow
returns-in_err-narrow g c =
    let kind = g.C.Domain in
    let rule = g.R.Propagator in
    let book = c.args.self.now.book.now in
    let rules = c.as_slice-rules.result.now in
    let k = c.in-Some.place - 1 in
    let r = c.index-rules-k.result in
    let here : item rules k ≡ Some r = item-here rules k r (c.loop-place.invariant.0 k c.in-Some.ensures.1.0) c.index-rules-k.is in
    let Ends : List g.row.R.Denot → Type 0 = λ rs. OthersRest kind rule book rs c.args.waits.bits c.args.row.now → NoneRests kind rule book rs c.args.row.now in
    let none = subst Ends c.as_slice-rules.ensures.listed
    (λ others. refuted kind rule book (g.met.R.Propagator.narrowing book) rules c.args.row.now c.loop-place.row k r here (c.loop-place.invariant.1 others).0 c.in_err-narrow.ensures.0) in
    λ others. contradicted kind rule book (listed c.args.self.now.naming.rules.now) c.args.row.now c.narrow.new.row c.from_residual.result c.from_residual.ensures.0 (none others)

pub returns : goal.returns
returns g c =
    let kind = g.C.Domain in
    let rule = g.R.Propagator in
    let book = c.args.self.now.book.now in
    let rules = c.as_slice-rules.result.now in
    let Ends : List g.row.R.Denot → Type 0 = λ rs. OthersRest kind rule book rs c.args.waits.bits c.args.row.now → Widest kind rule book rs c.args.row.now c.loop-place.row in
    subst Ends c.as_slice-rules.ensures.listed
    (λ others. let t = c.loop-place.invariant.1 others in
    holding-end kind rule book rules c.args.row.now c.loop-place.row t.0 (subst (λ m. OthersRest kind rule book rules m c.loop-place.row) c.in_default.ensures t.1))
