-- The rules below k that name the cell are in the set, and no others.
use Rattle.solver.proofs.Sharing.{NamersBelow}
use Rattle.solver.proofs.naming.find_namers.Given as goal

abbrev pub invariant-loop-k : goal.invariant-loop-k
invariant-loop-k g l = NamersBelow g.R.Propagator.names l.rule-items l.cell l.k l.set.bits
