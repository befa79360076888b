-- Each law of sets by its lemma.
use Rattle.std.proofs.Common.{◌-◌}
use Rattle.places.proofs.Members.{same-places, holds-up-to, has-none, has-or, has-and, has-minus, subset-only, subset-each}
use Rattle.places.proofs.Lowest.{has-one-place, lowest-first, first-lowest}
use Rattle.places.proofs.Sums.{has-sieve, weigh-one, weigh-part}
use Rattle.places.proofs.Counts.{ones-weigh}
use Rattle.places.proofs.set.set_laws.Goals as goal

pub returns : goal.returns
returns c = record {
  same = same-places;
  in-none = has-none;
  in-one = has-one-place;
  in-up-to = holds-up-to;
  in-union = has-or;
  in-intersection = has-and;
  in-minus = has-minus;
  in-lowest = λ k n. (lowest-first k n, first-lowest k n);
  in-sieve = has-sieve;
  subsets = λ a b. (subset-only a b, subset-each a b);
  counts = ones-weigh;
  weighs-one = λ ws p. weigh-one ws (p - 1);
  weighs-parts = weigh-part;
}
