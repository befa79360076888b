-- No cells: all of them are single.
use Rattle.rules.specs.Listed.{listed}
use Rattle.solver.proofs.Steps.{no-cells}
use Rattle.solver.proofs.search.settle.Goals as goal

pub returns-then-n-eq0 : goal.returns-then-n-eq0
returns-then-n-eq0 g c =
    no-cells g.C.Domain g.C.Halves g.R.Propagator c.args.book.now (listed c.args.rules.now) c.args.cells.now c.args.cut_limit c.args.stack.now c.if-n-eq0.true
