-- The table is right for the cells seen so far.
use Rattle.std.proofs.Common.{◌≡◌, length}
use Rattle.rules.specs.Listed.{listed}
use Rattle.solver.specs.Waking.{CellTable}
use Rattle.solver.proofs.naming.table_of_cells.Given as goal

abbrev pub invariant-loop-cell : goal.invariant-loop-cell
invariant-loop-cell g l = CellTable g.R.Propagator.names (listed l.rules) l.cell l.table × (length l.table ≡ 64)
