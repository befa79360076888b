-- Who is in each of the sets that a program can make, place by place.
use Rattle.std.specs.Prelude.{◌≡◌, ℕ, ◌+◌, ◌-◌, ◌^◌, ◌<◌, ◌≤◌, Bool, false, not, ◌&&◌, ◌||◌, T, List, replicate, ◌==◌, nat_le, slice_index}
use Rattle.places.specs.Members.{has, holds, Sub, none, one, up_to, union, intersection, minus, subset, count}
use Rattle.places.specs.Lowest.{First, lowest}
use Rattle.places.specs.Sums.{weigh, sieve}

pub record SetLaws : Type 0 where
  -- sets with the same places are one
  pub same : (a b : ℕ) → ((k : ℕ) → has k a ≡ has k b) → a ≡ b
  pub in-none : (k : ℕ) → has k none ≡ false
  pub in-one : (p q : ℕ) → 1 ≤ p → holds q (one p) ≡ (q == p)
  pub in-up-to : (p n : ℕ) → 1 ≤ p → holds p (up_to n) ≡ nat_le p n
  pub in-union : (k a b : ℕ) → has k (union a b) ≡ (has k a || has k b)
  pub in-intersection : (k a b : ℕ) → has k (intersection a b) ≡ (has k a && has k b)
  pub in-minus : (k a b : ℕ) → has k (minus a b) ≡ (has k a && not (has k b))
  pub in-lowest : (k n : ℕ) → (T (has k (lowest n)) → First k n) × (First k n → T (has k (lowest n)))
  pub in-sieve : (f : ℕ → Bool) (ws : List ℕ) (k n : ℕ) → has k (sieve f ws n) ≡ (has k n && f (slice_index ws k))
  -- the test for subsets says that each place of a is one of b
  pub subsets : (a b : ℕ) → (T (subset a b) → Sub a b) × (Sub a b → T (subset a b))
  -- a count is the weight of a set where each place weighs 1
  pub counts : (w n : ℕ) → n < 2 ^ w → count n ≡ weigh (replicate w 1) n
  -- a place alone weighs what the table says, and a set what a part of it and the rest weigh together
  pub weighs-one : (ws : List ℕ) (p : ℕ) → weigh ws (one p) ≡ slice_index ws (p - 1)
  pub weighs-parts : (ws : List ℕ) (a b : ℕ) → Sub a b → weigh ws a + weigh ws (minus b a) ≡ weigh ws b
