-- A row is copied up, and one cell of the copy is changed.
use Rattle.std.proofs.Common.{◌≡◌, ◌+◌, get_or, take, drop, ap, set, ◌∙◌, arith}
use Rattle.std.proofs.lemmas.List.{drop-set-add}
use Rattle.solver.proofs.Rows.{part-same, take-set-in}
use Rattle.solver.proofs.stack.put_cell.Goals as goal

pub returns-clause-put : goal.returns-clause-put
returns-clause-put g c =
    let u = c.copy_within.new.self in
    let s = c.args.stack.now in
    let n = c.args.n in
    let i = c.args.i in
    let copied : take n (drop n u) ≡ take n s =
    part-same n n 0 u s (omega arith) (omega arith) (λ k h d. c.copy_within.ensures.by_index.0 (n + k) d (omega arith) (omega arith) ∙ ap (λ m. get_or s m d) (omega arith)) in
    ap (take n) (drop-set-add n u i c.args.cell) ∙ take-set-in n i (drop n u) c.args.cell c.requires.within ∙ ap (λ r. set r i c.args.cell) copied
