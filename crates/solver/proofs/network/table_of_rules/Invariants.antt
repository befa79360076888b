-- The table is right for the rules seen so far.
use Rattle.std.proofs.Common.{◌≡◌, ℕ, ◌<◌, length, Some}
use Rattle.engine.specs.Rows.{item}
use Rattle.rules.specs.Listed.{listed}
use Rattle.solver.specs.Waking.{Sharers, set_at}
use Rattle.solver.proofs.network.table_of_rules.Given as goal

abbrev pub invariant-loop-k : goal.invariant-loop-k
invariant-loop-k g l =
    ((j : ℕ) (r : g.row.R.Denot) → j < l.k → item l.rule-items j ≡ Some r → Sharers g.R.Propagator.names (listed l.naming.rules.now) l.naming.cells r (set_at l.table j)) × (length l.table ≡ 64)
