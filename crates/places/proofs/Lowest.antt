-- The lowest place of a set, alone and taken away; the set of one place.
use Rattle.std.proofs.Common.{◌≡◌, ℕ, zero, suc, ◌-◌, ◌/◌, ◌%◌, ◌^◌, ◌<◌, ◌≤◌, Bool, true, false, not, ◌&&◌, T, eqb, sym, refl, ap, ◌∙◌, subst, inl, inr, le_of_suc-le-suc, not-suc-le-zero, mod-lt, zero-lt-suc, eq-zero-or-pos, pow-suc, arith, eqb→eq, T_not}
use native.Mathlib.Decide.{dec_lt}
use lib.Count.{count_trailing_zeros, under}
use lib.Dec.{not_T, eqb-zero-suc, eqb-suc-zero, eqb-suc-suc}
use lib.Bits.{bit_and, bit_or, and_self, and_shr}
use lib.Dec.{eqb_refl}
use Rattle.places.specs.Members.{has, holds, one, minus, Sub}
use Rattle.places.specs.Lowest.{First, lowest}
use Rattle.places.specs.Tables.{◌⇒◌, agree}
use Rattle.places.proofs.Tables.{table, agree-eq, eq-agree, follows, and-right, and-both, and-true, both-ways}
use Rattle.places.proofs.Members.{has-none, has-and, has-minus, same-places, sub-of, of-sub, minus-sub, sub-union}

-- what `trailing_zeros` finds, by the lowest digit d
low-in : (d k n : ℕ) → d < 2 → d ≡ n % 2 → (0 < n / 2 → T (has (count_trailing_zeros k (n / 2)) (n / 2))) → 0 < n → T (has (under d (count_trailing_zeros k (n / 2))) n)
low-in zero k n h e f p = f (omega arith)
low-in (suc zero) k n h e f p = subst (λ x. T (eqb x 1)) e tt
low-in (suc (suc d)) k n h e f p = absurd (not-suc-le-zero (le_of_suc-le-suc (le_of_suc-le-suc h)))

pub lowest-in : (w n : ℕ) → 0 < n → n < 2 ^ w → T (has (count_trailing_zeros w n) n)
unfolding count_trailing_zeros
lowest-in zero n p h = absurd (not-suc-le-zero (let q : 1 ≤ 0 = omega arith in q))
lowest-in (suc w) n p h =
    let s = pow-suc 2 w in
    let g : n / 2 < 2 ^ w = omega arith in
    low-in (n % 2) w n (mod-lt n (zero-lt-suc 1)) refl (λ q. lowest-in w (n / 2) q g) p

none-under : (d t j n : ℕ) → d < 2 → d ≡ n % 2 → ((i : ℕ) → i < t → has i (n / 2) ≡ false) → j < under d t → has j n ≡ false
none-under zero t zero n h e f l = ap (λ x. eqb x 1) (sym e)
none-under zero t (suc j) n h e f l = f j (le_of_suc-le-suc l)
none-under (suc d) t j n h e f l = absurd (not-suc-le-zero l)

pub none-lower : (w n j : ℕ) → j < count_trailing_zeros w n → has j n ≡ false
unfolding count_trailing_zeros
none-lower zero n j l = absurd (not-suc-le-zero l)
none-lower (suc w) n j l = none-under (n % 2) (count_trailing_zeros w (n / 2)) j n (mod-lt n (zero-lt-suc 1)) refl (λ i. none-lower w (n / 2) i) l

-- the set of the one place k
pub has-one : (j k : ℕ) → has j (2 ^ k) ≡ eqb j k
has-one zero zero = refl
has-one zero (suc k) =
    let s = pow-suc 2 k in
    let e : (2 ^ suc k) % 2 ≡ 0 = omega arith in
    ap (λ x. eqb x 1) e ∙ sym (eqb-zero-suc k)
has-one (suc j) zero = has-none j ∙ sym (eqb-suc-zero j)
has-one (suc j) (suc k) =
    let s = pow-suc 2 k in
    let e : (2 ^ suc k) / 2 ≡ 2 ^ k = omega arith in
    ap (has j) e ∙ has-one j k ∙ sym (eqb-suc-suc j k)

pub has-one-place : (p q : ℕ) → 1 ≤ p → holds q (one p) ≡ eqb q p
has-one-place zero q h = absurd (not-suc-le-zero h)
has-one-place (suc k) zero h = sym (eqb-zero-suc k)
has-one-place (suc k) (suc j) h = let e : suc k - 1 ≡ k = omega arith in ap (λ x. has j (2 ^ x)) e ∙ has-one j k ∙ sym (eqb-suc-suc j k)

-- ---- `n & (n - 1)`: all of n but its lowest place

clear-by : (d t n j : ℕ) → d < 2 → d ≡ n % 2 → 0 < n
    → (0 < n / 2 → (i : ℕ) → has i (bit_and (n / 2) (n / 2 - 1)) ≡ (has i (n / 2) && not (eqb i t)))
    → has j (bit_and n (n - 1)) ≡ (has j n && not (eqb j (under d t)))
clear-by zero t n zero h e p f =
    has-and 0 n (n - 1) ∙ ap (λ x. eqb x 1 && has 0 (n - 1)) (sym e) ∙ ap (λ x. eqb x 1 && not (eqb 0 (suc t))) e
clear-by zero t n (suc j) h e p f =
    let z : (n - 1) / 2 ≡ n / 2 - 1 = omega arith in
    ap (has j) (and_shr n (n - 1) 1) ∙ ap (λ x. has j (bit_and (n / 2) x)) z ∙ f (omega arith) j
    ∙ ap (λ x. has j (n / 2) && not x) (sym (eqb-suc-suc j t))
clear-by (suc zero) t n zero h e p f =
    let z : (n - 1) % 2 ≡ 0 = omega arith in
    has-and 0 n (n - 1) ∙ ap (λ x. has 0 n && eqb x 1) z
clear-by (suc zero) t n (suc j) h e p f =
    let z : (n - 1) / 2 ≡ n / 2 = omega arith in
    ap (has j) (and_shr n (n - 1) 1) ∙ ap (λ x. has j (bit_and (n / 2) x)) z ∙ ap (has j) (and_self (n / 2))
    ∙ sym (and-true (has j (n / 2))) ∙ ap (λ x. has j (n / 2) && not x) (sym (eqb-suc-zero j))
clear-by (suc (suc d)) t n j h e p f = absurd (not-suc-le-zero (le_of_suc-le-suc (le_of_suc-le-suc h)))

pub has-clear : (w n j : ℕ) → 0 < n → n < 2 ^ w → has j (bit_and n (n - 1)) ≡ (has j n && not (eqb j (count_trailing_zeros w n)))
unfolding count_trailing_zeros
has-clear zero n j p h = absurd (not-suc-le-zero (let q : 1 ≤ 0 = omega arith in q))
has-clear (suc w) n j p h =
    let s = pow-suc 2 w in
    let g : n / 2 < 2 ^ w = omega arith in
    clear-by (n % 2) (count_trailing_zeros w (n / 2)) n j (mod-lt n (zero-lt-suc 1)) refl p (λ q i. has-clear w (n / 2) i q g)

other-side : (a b e : Bool) → T (agree (a && b) (a && not e) ⇒ agree (a && not b) (a && e))
other-side = table 3 (λ a b e. agree (a && b) (a && not e) ⇒ agree (a && not b) (a && e)) tt

pub has-lowest : (w n j : ℕ) → 0 < n → n < 2 ^ w → has j (lowest n) ≡ eqb j (count_trailing_zeros w n)
has-lowest w n j p h =
    has-minus j n (n - 1)
    ∙ agree-eq _ _ (follows _ _ (other-side (has j n) (has j (n - 1)) (eqb j (count_trailing_zeros w n))) (eq-agree _ _ (sym (has-and j n (n - 1)) ∙ has-clear w n j p h)))
    ∙ both-ways _ _ (and-right (has j n) _) (λ t. and-both _ _ (subst (λ x. T (has x n)) (sym (eqb→eq j _ t)) (lowest-in w n p h)) t)

-- the lowest place and no other
pub lowest-is : (w n : ℕ) → 0 < n → n < 2 ^ w → lowest n ≡ 2 ^ count_trailing_zeros w n
lowest-is w n p h = same-places _ _ (λ j. has-lowest w n j p h ∙ sym (has-one j (count_trailing_zeros w n)))

pub lowest-sub : (n : ℕ) → Sub (lowest n) n
lowest-sub n = minus-sub n (n - 1)

-- what a loop goes on with
pub clear-is : (n : ℕ) → bit_and n (n - 1) ≡ minus n (lowest n)
clear-is n = same-places _ _ (λ k. has-and k n (n - 1) ∙ cleared (has k n) (has k (n - 1)) ∙ sym (has-minus k n (lowest n) ∙ ap (λ x. has k n && not x) (has-minus k n (n - 1))))
  where
    cleared : (a b : Bool) → (a && b) ≡ (a && not (a && not b))
    cleared true true = refl
    cleared true false = refl
    cleared false b = refl

pub below-pow : (n : ℕ) → n < 2 ^ n
below-pow zero = zero-lt-suc 0
below-pow (suc n) = let s = pow-suc 2 n in omega (arith, below-pow n)

first-is : (n k : ℕ) → 0 < n → First k n → k ≡ count_trailing_zeros n n
first-is n k p (t, none) = elim (dec_lt k (count_trailing_zeros n n)) [
  | yes l ↦ absurd (subst T (none-lower n n k l) t)
  | no g ↦ elim (dec_lt (count_trailing_zeros n n) k) [
    | yes l ↦ absurd (subst T (none (count_trailing_zeros n n) l) (lowest-in n n p (below-pow n)))
    | no g' ↦ omega arith
  ]
]

pub lowest-first : (k n : ℕ) → T (has k (lowest n)) → First k n
lowest-first k n t = elim (eq-zero-or-pos n) [
  | inl e ↦ absurd (subst T (ap (λ x. has k (lowest x)) e ∙ has-none k) t)
  | inr p ↦ (let e = eqb→eq k (count_trailing_zeros n n) (subst T (has-lowest n n k p (below-pow n)) t) in
      (lowest-sub n k t, λ j l. none-lower n n j (subst (λ x. j < x) e l)))
]

pub first-lowest : (k n : ℕ) → First k n → T (has k (lowest n))
first-lowest k n f = elim (eq-zero-or-pos n) [
  | inl e ↦ absurd (subst T (ap (has k) e ∙ has-none k) f.0)
  | inr p ↦ subst T (sym (has-lowest n n k p (below-pow n) ∙ ap (λ x. eqb k x) (sym (first-is n k p f)))) (eqb_refl k)
]

-- ---- the lowest place of p that s lacks, where s lies within p

pub with-lowest : (s p : ℕ) → bit_and s p ≡ s → bit_and (bit_or s (lowest (minus p s))) p ≡ bit_or s (lowest (minus p s))
with-lowest s p e = of-sub _ _ (sub-union s (lowest (minus p s)) p (sub-of s p e) (λ k t. minus-sub p s k (lowest-sub (minus p s) k t)))

pub without-lowest : (s p : ℕ) → bit_and s p ≡ s → bit_and s (minus p (lowest (minus p s))) ≡ s
without-lowest s p e = of-sub _ _ (λ k t. subst T (sym (has-minus k p (lowest (minus p s)))) (and-both _ _ (sub-of s p e k t)
    (not_T _ (λ l. T_not _ (and-right (has k p) _ (subst T (has-minus k p s) (lowest-sub (minus p s) k l))) t))))
