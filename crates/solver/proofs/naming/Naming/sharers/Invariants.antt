-- The set has the rules that share one of the cells seen so far.
use Rattle.rules.specs.Listed.{listed}
use Rattle.solver.specs.Waking.{Sharers}
use Rattle.solver.proofs.naming.Naming.sharers.Given as goal

abbrev pub invariant-loop-cell : goal.invariant-loop-cell
invariant-loop-cell g l = Sharers g.R.Propagator.names (listed l.self.rules.now) l.cell l.rule l.set.bits
