-- What is in a set that a program makes by `&`, `|` and `^`.
use Rattle.std.proofs.Common.{◌≡◌, ℕ, zero, suc, ◌-◌, ◌/◌, ◌%◌, ◌^◌, ◌<◌, ◌≤◌, Bool, true, false, not, ◌&&◌, ◌||◌, T, eqb, ltb, leb, ◌⊎◌, sym, refl, ap, ◌∙◌, subst, inl, inr, le_of_suc-le-suc, not-suc-le-zero, mod-lt, zero-lt-suc, pow-suc, one-add, arith, eqb→eq, T_not, pow_pos, shr-shr, le-ltb, lt-ltb}
use lib.Arith.{bin_ind}
use lib.Bits.{bit_and, bit_or, bit_xor, and_le_r, and_shr, or_shr, xor_shr, and_mod, or_mod, xor_mod}
use lib.Dec.{leb-suc-suc, not_T, eqb_refl}
use native.Mathlib.Decide.{dec_lt}
use Rattle.places.specs.Members.{has, holds, minus, Sub, subset}
use Rattle.places.specs.Tables.{differ}
use Rattle.places.proofs.Tables.{and-left, and-right, and-both, and-true, or-left, or-right, or-cases, both-ways}

low-digit : (n : ℕ) → n % 2 < 2
low-digit n = mod-lt n (zero-lt-suc 1)

over {ℓ} : {A : Type ℓ} {x : ℕ} → suc (suc x) < 2 → A
over h = absurd (not-suc-le-zero (le_of_suc-le-suc (le_of_suc-le-suc h)))

and-digit : (x y : ℕ) → x < 2 → y < 2 → eqb (bit_and x y) 1 ≡ (eqb x 1 && eqb y 1)
and-digit zero y hx hy = refl
and-digit (suc zero) zero hx hy = refl
and-digit (suc zero) (suc zero) hx hy = refl
and-digit (suc zero) (suc (suc y)) hx hy = over hy
and-digit (suc (suc x)) y hx hy = over hx

or-digit : (x y : ℕ) → x < 2 → y < 2 → eqb (bit_or x y) 1 ≡ (eqb x 1 || eqb y 1)
or-digit zero y hx hy = refl
or-digit (suc zero) zero hx hy = refl
or-digit (suc zero) (suc zero) hx hy = refl
or-digit (suc zero) (suc (suc y)) hx hy = over hy
or-digit (suc (suc x)) y hx hy = over hx

xor-digit : (x y : ℕ) → x < 2 → y < 2 → eqb (bit_xor x y) 1 ≡ differ (eqb x 1) (eqb y 1)
xor-digit zero y hx hy = refl
xor-digit (suc zero) zero hx hy = refl
xor-digit (suc zero) (suc zero) hx hy = refl
xor-digit (suc zero) (suc (suc y)) hx hy = over hy
xor-digit (suc (suc x)) y hx hy = over hx

bit-inj : (x y : ℕ) → x < 2 → y < 2 → eqb x 1 ≡ eqb y 1 → x ≡ y
bit-inj zero zero hx hy e = refl
bit-inj zero (suc zero) hx hy e = absurd (subst T (sym e) tt)
bit-inj zero (suc (suc y)) hx hy e = over hy
bit-inj (suc zero) zero hx hy e = absurd (subst T e tt)
bit-inj (suc zero) (suc zero) hx hy e = refl
bit-inj (suc zero) (suc (suc y)) hx hy e = over hy
bit-inj (suc (suc x)) y hx hy e = over hx

pub has-and : (k a b : ℕ) → has k (bit_and a b) ≡ (has k a && has k b)
has-and zero a b = ap (λ (x : ℕ). eqb x 1) (and_mod a b 1) ∙ and-digit (a % 2) (b % 2) (low-digit a) (low-digit b)
has-and (suc k) a b = ap (has k) (and_shr a b 1) ∙ has-and k (a / 2) (b / 2)

pub has-or : (k a b : ℕ) → has k (bit_or a b) ≡ (has k a || has k b)
has-or zero a b = ap (λ (x : ℕ). eqb x 1) (or_mod a b 1) ∙ or-digit (a % 2) (b % 2) (low-digit a) (low-digit b)
has-or (suc k) a b = ap (has k) (or_shr a b 1) ∙ has-or k (a / 2) (b / 2)

pub has-xor : (k a b : ℕ) → has k (bit_xor a b) ≡ differ (has k a) (has k b)
has-xor zero a b = ap (λ (x : ℕ). eqb x 1) (xor_mod a b 1) ∙ xor-digit (a % 2) (b % 2) (low-digit a) (low-digit b)
has-xor (suc k) a b = ap (has k) (xor_shr a b 1) ∙ has-xor k (a / 2) (b / 2)

differ-and : (x y : Bool) → differ x (x && y) ≡ (x && not y)
differ-and true y = refl
differ-and false y = refl

pub has-minus : (k a b : ℕ) → has k (minus a b) ≡ (has k a && not (has k b))
has-minus k a b = has-xor k a (bit_and a b) ∙ ap (differ (has k a)) (has-and k a b) ∙ differ-and (has k a) (has k b)

pub has-none : (k : ℕ) → has k 0 ≡ false
has-none zero = refl
has-none (suc k) = has-none k

-- a set with no place is 0
pub none-is : (n : ℕ) → ((k : ℕ) → has k n ≡ false) → n ≡ 0
none-is =
    bin_ind (λ n. ((k : ℕ) → has k n ≡ false) → n ≡ 0) (λ h. refl)
    (λ n ih h.
    let hi : n / 2 ≡ 0 = ih (λ k. h (suc k)) in
    let lo : n % 2 ≡ 0 = bit-inj (n % 2) 0 (low-digit n) (zero-lt-suc 1) (h zero) in
    omega arith)

-- two sets with the same places are one number
pub same-places : (a b : ℕ) → ((k : ℕ) → has k a ≡ has k b) → a ≡ b
same-places =
    bin_ind (λ n. (b : ℕ) → ((k : ℕ) → has k n ≡ has k b) → n ≡ b)
    (λ b h. sym (none-is b (λ k. sym (h k) ∙ has-none k)))
    (λ n ih b h.
    let hi : n / 2 ≡ b / 2 = ih (b / 2) (λ k. h (suc k)) in
    let lo : n % 2 ≡ b % 2 = bit-inj (n % 2) (b % 2) (low-digit n) (low-digit b) (h zero) in
    omega arith)

-- a number of w bits has no place from w on
pub has-above : (w k n : ℕ) → w ≤ k → n < 2 ^ w → has k n ≡ false
has-above zero k n h f = let e : n ≡ 0 = omega arith in ap (has k) e ∙ has-none k
has-above (suc w) zero n h f = absurd (not-suc-le-zero h)
has-above (suc w) (suc k) n h f =
    let p = pow-suc 2 w in
    let g : n / 2 < 2 ^ w = omega arith in
    has-above w k (n / 2) (le_of_suc-le-suc h) g

-- so a place of a number of w bits is below w
pub place-below : (w k n : ℕ) → n < 2 ^ w → T (has k n) → k < w
place-below w k n f t = elim (dec_lt k w) [ yes l ↦ l | no g ↦ (let l : w ≤ k = omega arith in absurd (subst T (has-above w k n l f) t)) ]

-- ---- subsets: an equation that a program tests, and what it says of each place

and-fact : (x y : Bool) → (x && y) ≡ x → T x → T y
and-fact true y e t = subst T (sym e) tt
and-fact false y e t = absurd t

fact-and : (x y : Bool) → (T x → T y) → (x && y) ≡ x
fact-and true true f = refl
fact-and true false f = absurd (f tt)
fact-and false y f = refl

pub sub-of : (a b : ℕ) → bit_and a b ≡ a → Sub a b
sub-of a b e k = and-fact (has k a) (has k b) (sym (has-and k a b) ∙ ap (has k) e)

pub of-sub : (a b : ℕ) → Sub a b → bit_and a b ≡ a
of-sub a b s = same-places _ _ (λ k. has-and k a b ∙ fact-and (has k a) (has k b) (s k))

pub sub-le : (a b : ℕ) → Sub a b → a ≤ b
sub-le a b s = subst (λ x. x ≤ b) (of-sub a b s) (and_le_r a b)

-- two sets, each within the other
pub sub-both : (a b : ℕ) → Sub a b → Sub b a → a ≡ b
sub-both a b f g = same-places a b (λ k. both-ways (has k a) (has k b) (f k) (g k))

pub and-sub : (a b : ℕ) → Sub (bit_and a b) a
and-sub a b k t = and-left (has k a) (has k b) (subst T (has-and k a b) t)

pub minus-sub : (a b : ℕ) → Sub (minus a b) a
minus-sub a b k t = and-left (has k a) (not (has k b)) (subst T (has-minus k a b) t)

pub sub-union : (a b c : ℕ) → Sub a c → Sub b c → Sub (bit_or a b) c
sub-union a b c f g k t = or-cases (has k a) (has k b) (f k) (g k) (subst T (has-or k a b) t)

pub union-left : (a b c : ℕ) → Sub (bit_or a b) c → Sub a c
union-left a b c f k t = f k (subst T (sym (has-or k a b)) (or-left _ _ t))

pub union-right : (a b c : ℕ) → Sub (bit_or a b) c → Sub b c
union-right a b c f k t = f k (subst T (sym (has-or k a b)) (or-right _ _ t))

pub sub-intersection : (a b c : ℕ) → Sub c a → Sub c b → Sub c (bit_and a b)
sub-intersection a b c f g k t = subst T (sym (has-and k a b)) (and-both _ _ (f k t) (g k t))

pub intersection-left : (a b c : ℕ) → Sub c (bit_and a b) → Sub c a
intersection-left a b c f k t = and-left _ _ (subst T (has-and k a b) (f k t))

pub intersection-right : (a b c : ℕ) → Sub c (bit_and a b) → Sub c b
intersection-right a b c f k t = and-right (has k a) _ (subst T (has-and k a b) (f k t))

-- the test of a program
pub subset-only : (a b : ℕ) → T (subset a b) → Sub a b
subset-only a b t = sub-of a b (eqb→eq _ _ t)

pub eq-test : (m n : ℕ) → m ≡ n → T (eqb m n)
eq-test m n e = subst (λ x. T (eqb m x)) e (eqb_refl m)

pub subset-each : (a b : ℕ) → Sub a b → T (subset a b)
subset-each a b s = eq-test _ _ (of-sub a b s)

-- a digit, as a program shifts it down
pub has-shift : (k n : ℕ) → eqb ((n / 2 ^ k) % 2) 1 ≡ has k n
has-shift zero n = let e : n / 2 ^ 0 ≡ n = omega arith in ap (λ x. eqb (x % 2) 1) e
has-shift (suc k) n = ap (λ (x : ℕ). eqb (x % 2) 1) (ap (λ x. n / 2 ^ x) (sym (one-add k)) ∙ sym (shr-shr n 1 k)) ∙ has-shift k (n / 2)

pub holds-shift : (p n : ℕ) → 1 ≤ p → eqb ((n / 2 ^ (p - 1)) % 2) 1 ≡ holds p n
holds-shift zero n h = absurd (not-suc-le-zero h)
holds-shift (suc k) n h = let e : suc k - 1 ≡ k = omega arith in ap (λ x. eqb ((n / 2 ^ x) % 2) 1) e ∙ has-shift k n

pub holds-outside : (w p n : ℕ) → n < 2 ^ w → (p < 1) ⊎ (w < p) → false ≡ holds p n
holds-outside w zero n h o = refl
holds-outside w (suc k) n h (inl l) = absurd (omega arith)
holds-outside w (suc k) n h (inr l) = sym (has-above w k n (omega arith) h)

-- a part and the rest
pub union-minus : (a b : ℕ) → Sub a b → bit_or a (minus b a) ≡ b
union-minus a b s = same-places _ _ (λ k. has-or k a (minus b a) ∙ ap (λ x. has k a || x) (has-minus k b a) ∙ whole (has k a) (has k b) (s k))
  where
    whole : (x y : Bool) → (T x → T y) → (x || (y && not x)) ≡ y
    whole true true f = refl
    whole true false f = absurd (f tt)
    whole false true f = refl
    whole false false f = refl

pub union-assoc : (a b c : ℕ) → bit_or (bit_or a b) c ≡ bit_or a (bit_or b c)
union-assoc a b c = same-places _ _ (λ k.
    has-or k (bit_or a b) c ∙ ap (λ x. x || has k c) (has-or k a b) ∙ moved (has k a) (has k b) (has k c) ∙ ap (λ x. has k a || x) (sym (has-or k b c)) ∙ sym (has-or k a (bit_or b c)))
  where
    moved : (x y z : Bool) → ((x || y) || z) ≡ (x || (y || z))
    moved true y z = refl
    moved false y z = refl

-- the places up to n
pub has-up-to : (k n : ℕ) → has k (2 ^ n - 1) ≡ ltb k n
has-up-to k zero = has-none k ∙ sym (le-ltb k 0 (omega arith))
has-up-to zero (suc n) =
    let s = pow-suc 2 n in let q = pow_pos n in
    let e : (2 ^ suc n - 1) % 2 ≡ 1 = omega arith in
    ap (λ (x : ℕ). eqb x 1) e ∙ sym (lt-ltb 0 (suc n) (omega arith))
has-up-to (suc k) (suc n) =
    let s = pow-suc 2 n in let q = pow_pos n in
    let e : (2 ^ suc n - 1) / 2 ≡ 2 ^ n - 1 = omega arith in
    ap (has k) e ∙ has-up-to k n ∙ sym (leb-suc-suc (suc k) n)

pub holds-up-to : (p n : ℕ) → 1 ≤ p → holds p (2 ^ n - 1) ≡ leb p n
holds-up-to zero n h = absurd (not-suc-le-zero h)
holds-up-to (suc k) n h = has-up-to k n

-- what is left of a set without a part, and without nothing
pub minus-part : (a b : ℕ) → Sub a b → minus b (minus b a) ≡ a
minus-part a b s = same-places _ _ (λ k. has-minus k b (minus b a) ∙ ap (λ x. has k b && not x) (has-minus k b a) ∙ part (has k a) (has k b) (s k))
  where
    part : (x y : Bool) → (T x → T y) → (y && not (y && not x)) ≡ x
    part true true f = refl
    part true false f = absurd (f tt)
    part false true f = refl
    part false false f = refl

pub minus-none : (n : ℕ) → minus n 0 ≡ n
minus-none n = same-places _ _ (λ k. has-minus k n 0 ∙ ap (λ x. has k n && not x) (has-none k) ∙ and-true (has k n))

-- the places of a that b lacks
pub minus-only : (k a b : ℕ) → T (has k (minus a b)) → T (has k a) × (T (has k b) → ⊥)
minus-only k a b t = let x = subst T (has-minus k a b) t in (and-left _ _ x, T_not _ (and-right (has k a) _ x))

pub minus-each : (k a b : ℕ) → T (has k a) → (T (has k b) → ⊥) → T (has k (minus a b))
minus-each k a b t n = subst T (sym (has-minus k a b)) (and-both _ _ t (not_T _ n))
