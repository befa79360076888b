-- A turn moves the weight of the lowest place into the sum.
use Rattle.std.proofs.Common.{◌≡◌, ◌+◌, ◌-◌, ◌≤◌, get_or, ap, arith, rules}
use lib.Bits.{bit_and, and_le_r}
use lib.Count.{ones, count_trailing_zeros}
use Rattle.places.specs.Sums.{weigh}
use Rattle.places.proofs.Sums.{weigh-none, weigh-clear}
use Rattle.places.proofs.Counts.{ones-clear}
use Rattle.places.proofs.scales.weight_of.Goals as goal

module _ (c : goal.After-sum-1) where
  here : get_or c.args.weights.now (count_trailing_zeros 64 c.loop-rest.rest) 0 ≤ 65535
  here = search rules

  counted : 1 + ones (bit_and c.loop-rest.rest (c.loop-rest.rest - 1)) ≡ ones c.loop-rest.rest
  counted = ones-clear 64 c.loop-rest.rest (omega arith) (omega arith)

pub loop-rest-preserved : goal.loop-rest-preserved
loop-rest-preserved c = (
  omega (arith, weigh-clear c.args.weights.now 64 c.loop-rest.rest (omega arith) (omega arith)),
  let h = here c in let o = counted c in omega arith,
  omega (arith, and_le_r c.loop-rest.rest (c.loop-rest.rest - 1)),
)

pub returns : goal.returns
returns c = record {
  sum = omega (arith, ap (weigh c.args.weights.now) c.loop-rest-test.false, weigh-none c.args.weights.now);
  small = omega arith;
}
