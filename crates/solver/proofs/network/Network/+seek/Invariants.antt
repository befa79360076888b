-- Each call is one row deeper.
use Rattle.std.proofs.Common.{◌-◌}
use Rattle.solver.proofs.network.Network.+seek.Given as goal

abbrev pub decreases-seek : goal.decreases-seek
decreases-seek g l = l.budget.limits.rows - l.budget.at.depth
