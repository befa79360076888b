-- What is summed and what is left weigh as much as the set; each place left has room in the sum.
use Rattle.std.proofs.Common.{◌≡◌, ◌+◌, ◌*◌, ◌^◌, ◌<◌, ◌≤◌}
use lib.Count.{ones}
use Rattle.places.specs.Sums.{weigh}
use Rattle.places.proofs.scales.weight_of.Given as goal

abbrev pub invariant-loop-rest : goal.invariant-loop-rest
invariant-loop-rest l = (l.sum + weigh l.weights l.rest ≡ weigh l.weights l.initial.rest) × (l.sum + 65535 * ones l.rest ≤ 65535 * 64) × (l.rest < 2 ^ 64)

abbrev pub decreases-loop-rest : goal.decreases-loop-rest
decreases-loop-rest l = l.rest
