-- All rules wait, so that nothing is asked of the row.
use Rattle.std.proofs.Common.{◌≡◌, ℕ, List, length, sym, ap, ◌∙◌, subst}
use Rattle.places.specs.Members.{up_to}
use Rattle.rules.specs.Listed.{listed}
use Rattle.solver.specs.Fixpoint.{OthersRest, Fixpoint}
use Rattle.solver.proofs.Resting.{all-wait}
use Rattle.solver.proofs.fixpoint.rest.Goals as goal

pub returns : goal.returns
returns g c =
    let kind = g.C.Domain in
    let rule = g.R.Propagator in
    let book = c.new.result.book.now in
    let rules = listed c.new.result.naming.rules.now in
    let row = c.args.row.now in
    let all : c.all.result.bits ≡ up_to (length rules) = c.all.ensures ∙ ap up_to (c.len.ensures ∙ ap length (sym c.new.ensures.rules)) in
    let Waits : ℕ → Type 0 = λ n. OthersRest kind rule book rules n row in
    let Comes : List g.row.R.Denot → Type 0 = λ rs. Fixpoint kind rule c.args.book.now rs row c.rest.new.row c.rest.result in
    let Reads : g.row.B.Denot → Type 0 = λ b. Fixpoint kind rule b rules row c.rest.new.row c.rest.result in
    subst Comes c.new.ensures.rules (subst Reads c.new.ensures.book (c.rest.ensures (subst Waits (sym all) (all-wait kind rule book rules row))))
