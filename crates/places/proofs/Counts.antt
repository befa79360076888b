-- How many places a set has.
use Rattle.std.proofs.Common.{◌≡◌, ℕ, zero, suc, ◌+◌, ◌-◌, ◌/◌, ◌%◌, ◌^◌, ◌<◌, ◌≤◌, Bool, true, false, cond, not, ◌&&◌, T, eqb, replicate, sym, refl, ap, ◌∙◌, subst, ap₂, le_of_suc-le-suc, not-suc-le-zero, mod-lt, zero-lt-suc, pow-suc, arith, eqb-true}
use native.Mathlib.Decide.{dec_lt}
use lib.Arith.{bin_ind}
use lib.Bits.{bit_and}
use lib.Count.{ones, ones_step, count_trailing_zeros}
use borrow.Author.Tests.{eqb-false}
use Rattle.places.specs.Members.{has, minus, Sub}
use Rattle.places.specs.Lowest.{lowest}
use Rattle.places.specs.Sums.{weigh}
use Rattle.places.proofs.Members.{has-minus, has-none, sub-le, sub-both, minus-sub}
use Rattle.places.proofs.Lowest.{below-pow, lowest-is, lowest-sub, clear-is}
use Rattle.places.proofs.Sums.{weigh-part}

one-digit : (x : ℕ) → x < 2 → x ≡ cond (eqb x 1) 1 0
one-digit zero h = refl
one-digit (suc zero) h = refl
one-digit (suc (suc x)) h = absurd (not-suc-le-zero (le_of_suc-le-suc (le_of_suc-le-suc h)))

-- `count_ones` of a number of w bits
pub ones-weigh : (w n : ℕ) → n < 2 ^ w → ones n ≡ weigh (replicate w 1) n
unfolding ones
ones-weigh zero n h = let e : n ≡ 0 = omega arith in ap ones e
ones-weigh (suc w) n h =
    let p = pow-suc 2 w in
    let g : n / 2 < 2 ^ w = omega arith in
    ones_step n ∙ ap₂ ◌+◌ (one-digit (n % 2) (mod-lt n (zero-lt-suc 1))) (ones-weigh w (n / 2) g)

pub ones-part : (a b : ℕ) → Sub a b → ones a + ones (minus b a) ≡ ones b
ones-part a b s =
    let x = below-pow b in
    let ha : a < 2 ^ b = omega (arith, sub-le a b s) in
    let hm : minus b a < 2 ^ b = omega (arith, sub-le (minus b a) b (minus-sub b a)) in
    ap₂ ◌+◌ (ones-weigh b a ha) (ones-weigh b (minus b a) hm) ∙ weigh-part (replicate b 1) a b s ∙ sym (ones-weigh b b x)

pub ones-mono : (a b : ℕ) → Sub a b → ones a ≤ ones b
ones-mono a b s = omega (arith, ones-part a b s)

-- none counted, none there
pub ones-none : (n : ℕ) → ones n ≡ 0 → n ≡ 0
ones-none n e = bin_ind (λ n. ones n ≡ 0 → n ≡ 0) (λ e. refl)
    (λ n ih e. let s = ones_step n in let q : ones (n / 2) ≡ 0 = omega arith in omega (arith, ih q)) n e

pub ones-of-none : ones 0 ≡ 0
unfolding ones
ones-of-none = refl

-- with a place that a lacks, b counts more
pub ones-more : (a b : ℕ) → Sub a b → (a ≡ b → ⊥) → ones a < ones b
ones-more a b s n = elim (dec_lt (ones a) (ones b)) [
  | yes l ↦ l
  | no g ↦ (let e = ones-part a b s in
      let z : ones (minus b a) ≡ 0 = omega arith in
      absurd (n (sub-both a b s (back (ones-none (minus b a) z)))))
]
  where
    last : (x y : Bool) → (y && not x) ≡ false → T y → T x
    last true y e t = tt
    last false true e t = subst T e tt
    last false false e t = t

    back : minus b a ≡ 0 → Sub b a
    back e k = last (has k a) (has k b) (sym (has-minus k b a) ∙ ap (has k) e ∙ has-none k)

pub ones-one : (k : ℕ) → ones (2 ^ k) ≡ 1
unfolding ones
ones-one zero = refl
ones-one (suc k) =
    let s = pow-suc 2 k in
    let e : (2 ^ suc k) / 2 ≡ 2 ^ k = omega arith in
    let z : (2 ^ suc k) % 2 ≡ 0 = omega arith in
    ones_step (2 ^ suc k) ∙ ap₂ (λ x y. x + ones y) z e ∙ ap (λ x. 0 + x) (ones-one k)

-- the lowest place and what a loop goes on with
pub ones-clear : (w n : ℕ) → 0 < n → n < 2 ^ w → 1 + ones (bit_and n (n - 1)) ≡ ones n
ones-clear w n p h =
    ap₂ ◌+◌ (sym (ap ones (lowest-is w n p h) ∙ ones-one (count_trailing_zeros w n))) (ap ones (clear-is n)) ∙ ones-part (lowest n) n (lowest-sub n)

-- a part that counts as many is the whole
pub ones-same : (a b : ℕ) → Sub a b → ones b ≤ ones a → a ≡ b
ones-same a b s l = elim (eqb a b) as (λ v. eqb a b ≡ v → a ≡ b) [
  | true ↦ λ e. eqb-true a b e
  | false ↦ λ e. absurd (let m = ones-more a b s (eqb-false a b e) in omega arith)
] refl
