-- The newest rule waits, and the others rest.
use Rattle.std.proofs.Common.{◌≡◌, ◌≤◌, List, length, sym, ap, ◌∙◌, subst}
use Rattle.places.specs.Members.{one}
use Rattle.meaning.specs.Resting.{Rests}
use Rattle.rules.specs.Listed.{listed, but_newest}
use Rattle.solver.specs.Fixpoint.{Fixpoint}
use Rattle.solver.proofs.Resting.{newest-waits}
use Rattle.solver.proofs.fixpoint.rest_newest.Goals as goal

pub returns : goal.returns
returns g c = λ rests.
    let kind = g.C.Domain in
    let rule = g.R.Propagator in
    let book = c.new.result.book.now in
    let rules = listed c.new.result.naming.rules.now in
    let row = c.args.row.now in
    let count : c.len.result ≡ length rules = c.len.ensures ∙ ap length (sym c.new.ensures.rules) in
    let Older : List g.row.R.Denot → Type 0 = λ rs. Rests kind rule c.args.book.now (but_newest rs) row in
    let Reads : g.row.B.Denot → Type 0 = λ b. Rests kind rule b (but_newest rules) row in
    let older = subst Reads (sym c.new.ensures.book) (subst Older (sym c.new.ensures.rules) rests) in
    let waits = newest-waits kind rule book rules row c.newest.result.bits (λ h. c.newest.ensures.some (subst (λ n. 1 ≤ n) (sym count) h) ∙ ap one count) older in
    let Comes : List g.row.R.Denot → Type 0 = λ rs. Fixpoint kind rule c.args.book.now rs row c.rest.new.row c.rest.result in
    let Comes-of : g.row.B.Denot → Type 0 = λ b. Fixpoint kind rule b rules row c.rest.new.row c.rest.result in
    subst Comes c.new.ensures.rules (subst Comes-of c.new.ensures.book (c.rest.ensures waits))
