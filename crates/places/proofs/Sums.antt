-- Weights added up over the places of a set, and the places whose weight passes a test.
use Rattle.std.proofs.Common.{◌≡◌, ℕ, zero, suc, ◌+◌, ◌-◌, ◌*◌, ◌/◌, ◌%◌, ◌^◌, ◌<◌, ◌≤◌, Bool, true, false, cond, not, ◌&&◌, ◌||◌, T, eqb, ltb, List, [], ◌∷◌, ◌++◌, get_or, replicate, sym, refl, ap, ◌∙◌, subst, ap₂, add-zero, pow-suc, zero-add, arith, eqb→eq, ltb→lt, lt→ltb}
use native.Mathlib.Decide.{dec_lt}
use lib.Bits.{bit_and, bit_or}
use lib.Count.{count_trailing_zeros}
use lib.Dec.{not_T}
use Rattle.places.specs.Members.{has, minus, Sub}
use Rattle.places.specs.Lowest.{lowest}
use Rattle.places.specs.Sums.{weigh, sieve}
use Rattle.places.proofs.Tables.{and-left, and-right, and-both, and-true, and-false, both-ways}
use Rattle.places.proofs.Members.{has-or, has-minus, has-none, has-above, same-places, union-minus, union-assoc, minus-only, minus-each}
use Rattle.places.proofs.Lowest.{has-one, lowest-is, lowest-sub, clear-is}

-- a place of c is a place of just one of a and b
pub joins : Bool → Bool → Bool → Bool
joins true true c = false
joins true false c = c
joins false true c = c
joins false false c = not c

pub Join : ℕ → ℕ → ℕ → Type 0
Join a b c = (k : ℕ) → T (joins (has k a) (has k b) (has k c))

join-digit : (a b c : Bool) (w : ℕ) → T (joins a b c) → cond a w 0 + cond b w 0 ≡ cond c w 0
unfolding joins
join-digit true true c w t = absurd t
join-digit true false true w t = omega arith
join-digit true false false w t = absurd t
join-digit false true true w t = omega arith
join-digit false true false w t = absurd t
join-digit false false true w t = absurd t
join-digit false false false w t = refl

pub weigh-join : (ws : List ℕ) (a b c : ℕ) → Join a b c → weigh ws a + weigh ws b ≡ weigh ws c
unfolding Join
weigh-join [] a b c j = refl
weigh-join (w ∷ ws) a b c j =
    let lo : cond (has 0 a) w 0 + cond (has 0 b) w 0 ≡ cond (has 0 c) w 0 = join-digit (has 0 a) (has 0 b) (has 0 c) w (j 0) in
    let hi : weigh ws (a / 2) + weigh ws (b / 2) ≡ weigh ws (c / 2) = weigh-join ws (a / 2) (b / 2) (c / 2) (λ k. j (suc k)) in
    omega arith

-- b is what is in a and what is in b besides
part-digit : (a b : Bool) → (T a → T b) → T (joins a (b && not a) b)
unfolding joins
part-digit true true f = tt
part-digit true false f = f tt
part-digit false true f = tt
part-digit false false f = tt

pub sub-join : (a b : ℕ) → Sub a b → Join a (minus b a) b
unfolding Join
sub-join a b s k = subst (λ x. T (joins (has k a) x (has k b))) (sym (has-minus k b a)) (part-digit (has k a) (has k b) (s k))

pub weigh-part : (ws : List ℕ) (a b : ℕ) → Sub a b → weigh ws a + weigh ws (minus b a) ≡ weigh ws b
weigh-part ws a b s = weigh-join ws a (minus b a) b (sub-join a b s)

pub weigh-mono : (ws : List ℕ) (a b : ℕ) → Sub a b → weigh ws a ≤ weigh ws b
weigh-mono ws a b s = omega (arith, weigh-part ws a b s)

pub weigh-none : (ws : List ℕ) → weigh ws 0 ≡ 0
weigh-none [] = refl
weigh-none (w ∷ ws) = zero-add (weigh ws 0) ∙ weigh-none ws

-- the weight of a place is in the sum
pub weigh-at : (ws : List ℕ) (k n : ℕ) → T (has k n) → get_or ws k 0 ≤ weigh ws n
weigh-at [] k n t = omega arith
weigh-at (w ∷ ws) zero n t = at-low (has 0 n) t
  where
    at-low : (b : Bool) → T b → w ≤ cond b w 0 + weigh ws (n / 2)
    at-low true t = omega arith
    at-low false t = absurd t
weigh-at (w ∷ ws) (suc k) n t = omega (arith, weigh-at ws k (n / 2) t)

-- a place of b that a lacks
pub weigh-lacks : (ws : List ℕ) (a b k : ℕ) → Sub a b → T (has k b) → (T (has k a) → ⊥) → weigh ws a + get_or ws k 0 ≤ weigh ws b
weigh-lacks ws a b k s t n =
    omega (arith, weigh-part ws a b s, weigh-at ws k (minus b a) (subst T (sym (has-minus k b a)) (and-both _ _ t (not_T _ n))))

-- one place alone
pub weigh-one : (ws : List ℕ) (k : ℕ) → weigh ws (2 ^ k) ≡ get_or ws k 0
weigh-one [] k = refl
weigh-one (w ∷ ws) zero = ap (λ x. w + x) (weigh-none ws) ∙ add-zero w
weigh-one (w ∷ ws) (suc k) =
    let s = pow-suc 2 k in
    let e : (2 ^ suc k) / 2 ≡ 2 ^ k = omega arith in
    let z : (2 ^ suc k) % 2 ≡ 0 = omega arith in
    ap (λ x. cond (eqb x 1) w 0 + weigh ws ((2 ^ suc k) / 2)) z ∙ zero-add _ ∙ ap (weigh ws) e ∙ weigh-one ws k

-- the lowest place and what a loop goes on with
pub weigh-clear : (ws : List ℕ) (w n : ℕ) → 0 < n → n < 2 ^ w → get_or ws (count_trailing_zeros w n) 0 + weigh ws (bit_and n (n - 1)) ≡ weigh ws n
weigh-clear ws w n p h =
    ap₂ ◌+◌ (sym (ap (weigh ws) (lowest-is w n p h) ∙ weigh-one ws (count_trailing_zeros w n))) (ap (weigh ws) (clear-is n)) ∙ weigh-part ws (lowest n) n (lowest-sub n)

-- ---- the places whose weight passes a test

low-bit : (b : Bool) (m : ℕ) → eqb ((cond b 1 0 + 2 * m) % 2) 1 ≡ b
low-bit true m = let e : (1 + 2 * m) % 2 ≡ 1 = omega arith in ap (λ x. eqb x 1) e
low-bit false m = let e : (0 + 2 * m) % 2 ≡ 0 = omega arith in ap (λ x. eqb x 1) e

high-bits : (b : Bool) (m : ℕ) → (cond b 1 0 + 2 * m) / 2 ≡ m
high-bits true m = omega arith
high-bits false m = omega arith

pub has-all-or-none : (b : Bool) (k n : ℕ) → has k (cond b n 0) ≡ (has k n && b)
has-all-or-none true k n = sym (and-true (has k n))
has-all-or-none false k n = has-none k ∙ sym (and-false (has k n))

pub has-sieve : (f : ℕ → Bool) (ws : List ℕ) (k n : ℕ) → has k (sieve f ws n) ≡ (has k n && f (get_or ws k 0))
has-sieve f [] k n = has-all-or-none (f 0) k n
has-sieve f (w ∷ ws) zero n = low-bit (has 0 n && f w) (sieve f ws (n / 2))
has-sieve f (w ∷ ws) (suc k) n = ap (has k) (high-bits (has 0 n && f w) (sieve f ws (n / 2))) ∙ has-sieve f ws k (n / 2)

pub sieve-none : (f : ℕ → Bool) (ws : List ℕ) → sieve f ws 0 ≡ 0
sieve-none f ws = same-places _ _ (λ k. has-sieve f ws k 0 ∙ ap (λ x. x && f (get_or ws k 0)) (has-none k) ∙ sym (has-none k))

pub sieve-sub : (f : ℕ → Bool) (ws : List ℕ) (n : ℕ) → Sub (sieve f ws n) n
sieve-sub f ws n k t = and-left _ _ (subst T (has-sieve f ws k n) t)

-- two sets that make up a third, sieved apart
pub sieve-union : (f : ℕ → Bool) (ws : List ℕ) (a b : ℕ) → bit_or (sieve f ws a) (sieve f ws b) ≡ sieve f ws (bit_or a b)
sieve-union f ws a b = same-places _ _ (λ k.
    has-or k (sieve f ws a) (sieve f ws b) ∙ ap₂ ◌||◌ (has-sieve f ws k a) (has-sieve f ws k b) ∙ shared (has k a) (has k b) (f (get_or ws k 0))
    ∙ ap (λ x. x && f (get_or ws k 0)) (sym (has-or k a b)) ∙ sym (has-sieve f ws k (bit_or a b)))
  where
    shared : (x y z : Bool) → ((x && z) || (y && z)) ≡ ((x || y) && z)
    shared true true true = refl
    shared true true false = refl
    shared true false true = refl
    shared true false false = refl
    shared false y z = refl

-- a place alone passes as a whole
pub sieve-one : (f : ℕ → Bool) (ws : List ℕ) (k : ℕ) → sieve f ws (2 ^ k) ≡ cond (f (get_or ws k 0)) (2 ^ k) 0
sieve-one f ws k = same-places _ _ (λ j. has-sieve f ws j (2 ^ k) ∙ ap (λ x. x && f (get_or ws j 0)) (has-one j k) ∙ at j (eqb j k) refl
    ∙ ap (λ x. x && f (get_or ws k 0)) (sym (has-one j k)) ∙ sym (has-all-or-none (f (get_or ws k 0)) j (2 ^ k)))
  where
    at : (j : ℕ) (b : Bool) → eqb j k ≡ b → (eqb j k && f (get_or ws j 0)) ≡ (eqb j k && f (get_or ws k 0))
    at j true e = ap (λ x. eqb j k && f (get_or ws x 0)) (eqb→eq j k (subst T (sym e) tt))
    at j false e = ap (λ x. x && f (get_or ws j 0)) e ∙ sym (ap (λ x. x && f (get_or ws k 0)) e)

-- a loop that takes the lowest place away, and has found some places already
module _ (f : ℕ → Bool) (ws : List ℕ) (w n found : ℕ) (some : 0 < n) (fits : n < 2 ^ w) where
  sieve-apart : bit_or (cond (f (get_or ws (count_trailing_zeros w n) 0)) (lowest n) 0) (sieve f ws (bit_and n (n - 1))) ≡ sieve f ws n
  sieve-apart =
      let e = lowest-is w n some fits in
      ap₂ bit_or (ap (λ x. cond (f (get_or ws (count_trailing_zeros w n) 0)) x 0) e ∙ sym (sieve-one f ws (count_trailing_zeros w n)) ∙ ap (sieve f ws) (sym e)) (ap (sieve f ws) (clear-is n))
      ∙ sieve-union f ws (lowest n) (minus n (lowest n)) ∙ ap (sieve f ws) (union-minus (lowest n) n (lowest-sub n))

  pub sieve-pass : f (get_or ws (count_trailing_zeros w n) 0) ≡ true → bit_or (bit_or found (lowest n)) (sieve f ws (bit_and n (n - 1))) ≡ bit_or found (sieve f ws n)
  sieve-pass e = union-assoc found (lowest n) (sieve f ws (bit_and n (n - 1)))
      ∙ ap (bit_or found) (ap (λ b. bit_or (cond b (lowest n) 0) (sieve f ws (bit_and n (n - 1)))) (sym e) ∙ sieve-apart)

  pub sieve-fail : f (get_or ws (count_trailing_zeros w n) 0) ≡ false → bit_or found (sieve f ws (bit_and n (n - 1))) ≡ bit_or found (sieve f ws n)
  sieve-fail e = ap (bit_or found) (ap (λ b. bit_or (cond b (lowest n) 0) (sieve f ws (bit_and n (n - 1)))) (sym e) ∙ sieve-apart)

-- ---- a table with one weight for all

at-same : (n k w : ℕ) → k < n → get_or (replicate n w) k 0 ≡ w
at-same zero k w h = absurd (omega arith)
at-same (suc n) zero w h = refl
at-same (suc n) (suc k) w h = at-same n k w (omega arith)

pub sieve-same : (f : ℕ → Bool) (n w m : ℕ) → m < 2 ^ n → sieve f (replicate n w) m ≡ cond (f w) m 0
sieve-same f n w m h = same-places _ _ (λ k. has-sieve f (replicate n w) k m ∙ each k ∙ sym (has-all-or-none (f w) k m))
  where
    each : (k : ℕ) → (has k m && f (get_or (replicate n w) k 0)) ≡ (has k m && f w)
    each k = elim (dec_lt k n) [
      | yes l ↦ ap (λ x. has k m && f x) (at-same n k w l)
      | no g ↦ (let l : n ≤ k = omega arith in let e = has-above n k m l h in ap (λ x. x && f (get_or (replicate n w) k 0)) e ∙ sym (ap (λ x. x && f w) e))
    ]

-- ---- the places of p that s lacks and whose weight, added to b, is above a

module _ (a b : ℕ) (ws : List ℕ) (k p s : ℕ) where
  pub above-only : T (has k (sieve (λ w. ltb a (b + w)) ws (minus p s))) → T (has k p) × (T (has k s) → ⊥) × (a < b + get_or ws k 0)
  above-only t =
      let x = subst T (has-sieve (λ w. ltb a (b + w)) ws k (minus p s)) t in
      let m = minus-only k p s (and-left _ _ x) in
      (m.0, m.1, ltb→lt _ _ (and-right (has k (minus p s)) _ x))

  pub above-each : T (has k p) → (T (has k s) → ⊥) → a < b + get_or ws k 0 → T (has k (sieve (λ w. ltb a (b + w)) ws (minus p s)))
  above-each t n l = subst T (sym (has-sieve (λ w. ltb a (b + w)) ws k (minus p s))) (and-both _ _ (minus-each k p s t n) (lt→ltb _ _ l))

-- ---- a table that goes on with 0

at-all : (n k w : ℕ) → get_or (replicate n w) k w ≡ w
at-all zero k w = refl
at-all (suc n) zero w = refl
at-all (suc n) (suc k) w = at-all n k w

at-padded : (ws : List ℕ) (n k : ℕ) → get_or (ws ++ replicate n 0) k 0 ≡ get_or ws k 0
at-padded [] n k = at-all n k 0
at-padded (w ∷ ws) n zero = refl
at-padded (w ∷ ws) n (suc k) = at-padded ws n k

weigh-zeros : (n m : ℕ) → weigh (replicate n 0) m ≡ 0
weigh-zeros zero m = refl
weigh-zeros (suc n) m = let e = weigh-zeros n (m / 2) in nothing (has 0 m) e
  where
    nothing : (b : Bool) → weigh (replicate n 0) (m / 2) ≡ 0 → cond b 0 0 + weigh (replicate n 0) (m / 2) ≡ 0
    nothing true e = omega arith
    nothing false e = omega arith

pub weigh-padded : (ws : List ℕ) (n m : ℕ) → weigh (ws ++ replicate n 0) m ≡ weigh ws m
weigh-padded [] n m = weigh-zeros n m
weigh-padded (w ∷ ws) n m = ap (λ x. cond (has 0 m) w 0 + x) (weigh-padded ws n (m / 2))

pub sieve-padded : (f : ℕ → Bool) (ws : List ℕ) (n m : ℕ) → sieve f (ws ++ replicate n 0) m ≡ sieve f ws m
sieve-padded f ws n m = same-places _ _ (λ k.
    has-sieve f (ws ++ replicate n 0) k m ∙ ap (λ w. has k m && f w) (at-padded ws n k) ∙ sym (has-sieve f ws k m))

-- ---- tests that agree on the places of a set

pub sieve-alike : (f g : ℕ → Bool) (ws : List ℕ) (m : ℕ) → ((k : ℕ) → T (has k m) → f (get_or ws k 0) ≡ g (get_or ws k 0)) → sieve f ws m ≡ sieve g ws m
sieve-alike f g ws m h = same-places _ _ (λ k. has-sieve f ws k m ∙ both (has k m) (f (get_or ws k 0)) (g (get_or ws k 0)) (h k) ∙ sym (has-sieve g ws k m))
  where
    both : (x y z : Bool) → (T x → y ≡ z) → (x && y) ≡ (x && z)
    both true y z e = e tt
    both false y z e = refl

-- the places of p that s lacks, and without whose weight p weighs less than a: a and their weight are above the weight of p
pub missed-above : (ws : List ℕ) (a p s : ℕ) → sieve (λ w. ltb (weigh ws p) (a + w)) ws (minus p s) ≡ sieve (λ w. ltb (weigh ws p - w) a) ws (minus p s)
missed-above ws a p s = sieve-alike (λ w. ltb (weigh ws p) (a + w)) (λ w. ltb (weigh ws p - w) a) ws (minus p s) (λ k t.
    let l = weigh-at ws k p (minus-only k p s t).0 in
    both-ways (ltb (weigh ws p) (a + get_or ws k 0)) (ltb (weigh ws p - get_or ws k 0) a)
    (λ x. let y = ltb→lt (weigh ws p) (a + get_or ws k 0) x in lt→ltb _ _ (omega arith))
    (λ x. let y = ltb→lt (weigh ws p - get_or ws k 0) a x in lt→ltb _ _ (omega arith)))
