-- The root rests already, so that no rule waits there.
use Rattle.std.proofs.Common.{◌≡◌, ℕ, ◌++◌, length, take, drop, sym, ap, ◌∙◌, subst, arith}
use Rattle.std.proofs.lemmas.List.{take_at}
use Rattle.rules.specs.Listed.{listed}
use Rattle.meaning.specs.Resting.{Rests}
use Rattle.meaning.specs.Search.{Searched}
use Rattle.solver.specs.Endings.{ending, Sought}
use Rattle.solver.proofs.Steps.{of-half, all-rest, stays, at-rest}
use Rattle.solver.proofs.search.search_from.Goals as goal

pub returns : goal.returns
returns g c =
    let kind = g.C.Domain in
    let halves = g.C.Halves in
    let rule = g.R.Propagator in
    let book = c.args.book.now in
    let rules = listed c.args.rules.now in
    let cells = c.args.cells.now in
    let n = length cells in
    let bounds = g.met.C.Domain.bounds in
    let set = c.empty.result.bits in
    let net = c.new.result in
    let start = c.new-2.result in
    let laid-stack = c.copy_from_slice.new.self ++ drop n c.args.stack.now in
    let out = c.seek.new.stack in
    let laid : take n laid-stack ≡ cells = take_at c.copy_from_slice.new.self (drop n c.args.stack.now) n (ap length c.copy_from_slice.ensures.after) ∙ c.copy_from_slice.ensures.after in
    let at-book = subst (λ b. Sought kind halves rule b (listed net.naming.rules.now) start.limits start.at set (take net.naming.cells laid-stack) (take net.naming.cells out) c.seek.result) c.new.ensures.book c.seek.ensures in
    let at-rules = subst (λ rs. Sought kind halves rule book rs start.limits start.at set (take net.naming.cells laid-stack) (take net.naming.cells out) c.seek.result) c.new.ensures.rules at-book in
    let at-cells = subst (λ m. Sought kind halves rule book rules start.limits start.at set (take m laid-stack) (take m out) c.seek.result) c.new.ensures.cells at-rules in
    let told = subst (λ l. Sought kind halves rule book rules l start.at set (take n laid-stack) (take n out) c.seek.result) c.new-2.ensures.limits at-cells in
    let Found : ℕ → Type 0 = λ rows. Searched kind halves rule book rules c.args.cut_limit rows cells (ending c.seek.result.end (take n out)) c.seek.result.cuts in
    record {
      room = c.requires.room;
      searched = λ rests. subst Found c.rows_above.ensures (at-rest kind halves rule book rules c.args.cut_limit c.rows_above.result bounds rests
          (of-half kind halves rule book rules c.args.cut_limit c.rows_above.result set 0 _ 0 _ _ cells _ _ c.new-2.ensures.cuts c.new-2.ensures.depth laid (all-rest kind rule book rules set cells rests) told.ended));
      kept = λ rests e.
          let rests' : Rests kind rule book rules (take n laid-stack) = subst (Rests kind rule book rules) (sym laid) rests in
          stays kind rule book rules bounds _ _ rests' (told.kept (all-rest kind rule book rules set _ rests') e) ∙ laid;
      empty = λ e. absurd (let p = c.requires.some in omega arith);
    }
