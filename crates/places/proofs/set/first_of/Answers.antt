-- As many places as there are zeros stand below the lowest place.
use Rattle.std.proofs.Common.{◌≡◌, ◌+◌, ◌-◌, subst, arith}
use lib.Count.{count_trailing_zeros}
use Rattle.places.specs.Lowest.{First}
use Rattle.places.proofs.Lowest.{lowest-in, none-lower}
use Rattle.places.proofs.set.first_of.Goals as goal

pub returns : goal.returns
returns c =
    let n = c.args.set in
    let e : count_trailing_zeros 64 n ≡ (count_trailing_zeros 64 n + 1) - 1 = omega arith in
    (omega arith, subst (λ k. First k n) e (lowest-in 64 n (omega arith) (omega arith), λ j. none-lower 64 n j))
