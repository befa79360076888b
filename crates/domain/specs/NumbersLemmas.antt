-- Numbers show the laws of a kind of cell.
use Rattle.std.specs.Prelude.{◌≡◌, ℕ, ◌+◌, ◌-◌, ◌<◌, ◌≤◌, min, max, Bool, true, false, ◌⊎◌, Some, None, ◌≢◌, nat_le, nat_lt}
use Rattle.std.proofs.Math.Path.{refl}
use Rattle.std.proofs.Common.{sym, ap, inl, inr, le_refl, arith, leb→le, le→leb, ltb-true, ltb-false}
use mathlib.Core.HLevel.{is_prop→PathP, ×_prop}
use Rattle.std.proofs.Math.Bridge.{le_prop}
use Rattle.std.proofs.Math.Decide.{dec_lt, dec_le}
use Rattle.places.proofs.Tables.{and-left, and-right, and-both}
use Rattle.domain.specs.declared.bounds.Number.{Number, ok-type}
use Rattle.domain.specs.declared.bounds.NumberTell.{NumberTell}
use Rattle.domain.specs.Laws.{Within, BoundsLaws, HeightLaws, HalvesLaws}
use Rattle.domain.specs.Tells.{TellLaws}
use Rattle.domain.specs.Numbers.{NumberAllows, number_sample, number_inside, number_height, NumberPasses, number_if, number_of, number_meet, middle, number_first, number_second}
use Rattle.std.proofs.lemmas.Option.{none-some, same_Some}

pub number-eq : (p q : Number) → p.low ≡ q.low → p.high ≡ q.high → p ≡ q
number-eq p q e f = λ i. record {
  low = e i;
  high = f i;
  ok = is_prop→PathP (λ j. ok-type (e j) (f j)) (λ j. ×_prop le_prop le_prop) p.ok q.ok i;
}

-- p lies between the ends of q
abbrev pub Over : Number → Number → Type 0
Over p q = (q.low ≤ p.low) × (p.high ≤ q.high)

pub over : (p q : Number) → Within NumberAllows p q → Over p q
over p q f = ((f p.low (le_refl p.low, p.ok.0)).0, (f p.high (p.ok.0, le_refl p.high)).1)

pub number-bounds : BoundsLaws NumberAllows number_sample number_inside
number-bounds = record {
  some = λ p. (le_refl p.low, p.ok.0);
  inside-only = λ p q t v a.
      let x : q.low ≤ p.low = leb→le q.low p.low (and-left (nat_le q.low p.low) (nat_le p.high q.high) t) in
      let y : p.high ≤ q.high = leb→le p.high q.high (and-right (nat_le q.low p.low) (nat_le p.high q.high) t) in
      (omega arith, omega arith);
  inside-each = λ p q f. let o = over p q f in and-both _ _ (le→leb _ _ o.0) (le→leb _ _ o.1);
  same = λ p q f g. let o = over p q f in let r = over q p g in number-eq p q (omega arith) (omega arith);
}

lower : (p q : Number) → Within NumberAllows p q → (p ≢ q) → number_height p < number_height q
lower p q f n = elim (dec_lt (number_height p) (number_height q)) [
  | yes l ↦ l
  | no g ↦ (let o = over p q f in absurd (n (number-eq p q (omega arith) (omega arith))))
]

pub number-heights : HeightLaws NumberAllows number_height
number-heights = record {
  lower = lower;
  single-only = λ p h u v a b. omega arith;
  single-each = λ p f. let e = f p.low p.high (le_refl p.low, p.ok.0) (p.ok.0, le_refl p.high) in omega arith;
}

trichotomy : (u v : ℕ) → (u < v) ⊎ ((u ≡ v) ⊎ (v < u))
trichotomy u v = elim (dec_lt u v) [ yes l ↦ inl l | no n ↦ elim (dec_lt v u) [ yes l ↦ inr (inr l) | no m ↦ inr (inl (omega arith)) ] ]

pub number-halves : HalvesLaws NumberAllows number_height ◌<◌ number_first number_second
number-halves = record {
  irreflexive = λ v b. omega arith;
  transitive = λ u v w b c. omega arith;
  total = trichotomy;
  first-inside = λ p h v a. (omega arith, omega arith);
  second-inside = λ p h v a. (omega arith, omega arith);
  covered = λ p h v a. elim (dec_le v (middle p)) [ yes l ↦ inl (a.0, l) | no n ↦ inr (omega arith, a.1) ];
  ordered = λ p h u v a b. omega arith;
}

-- ---- what a number is told

if-some : (l e : ℕ) (h : e ≤ 1000001) (b : Bool) (f : nat_lt l e ≡ b) (n : Number) → number_if l e h b f ≡ Some n → (n.low ≡ l) × (n.high + 1 ≡ e)
if-some l e h true f n g =
    let x = ap (λ (z : Number). z.low) (same_Some _ _ g) in
    let y = ap (λ (z : Number). z.high) (same_Some _ _ g) in
    let lt = ltb-true l e f in (sym x, omega arith)
if-some l e h false f n g = absurd (none-some _ g)

if-none : (l e : ℕ) (h : e ≤ 1000001) (b : Bool) (f : nat_lt l e ≡ b) → number_if l e h b f ≡ None → e ≤ l
if-none l e h true f g = absurd (none-some _ (sym g))
if-none l e h false f g = ltb-false l e f

some-if : (l e : ℕ) (h : e ≤ 1000001) (b : Bool) (f : nat_lt l e ≡ b) (n : Number) → l < e → n.low ≡ l → n.high ≡ e - 1 → Some n ≡ number_if l e h b f
some-if l e h true f n lt x y = ap Some (number-eq _ _ x y)
some-if l e h false f n lt x y = let ge = ltb-false l e f in absurd (omega arith)

none-if : (l e : ℕ) (h : e ≤ 1000001) (b : Bool) (f : nat_lt l e ≡ b) → e ≤ l → None ≡ number_if l e h b f
none-if l e h true f ge = let lt = ltb-true l e f in absurd (omega arith)
none-if l e h false f ge = refl

-- an answer with these ends, or nothing where no value is left
pub number-some : (l e : ℕ) (n : Number) → e ≤ 1000001 → l < e → n.low ≡ l → n.high ≡ e - 1 → Some n ≡ number_of l e
unfolding number_of
number-some l e n h lt x y = some-if _ _ _ _ refl n (omega arith) x (omega arith)

pub number-none : (l e : ℕ) → e ≤ l → None ≡ number_of l e
unfolding number_of
number-none l e ge = none-if _ _ _ _ refl (omega arith)

module _ (t : NumberTell) (p q : Number) (e : number_meet t p ≡ Some q) where
  ends : (q.low ≡ max p.low t.raise) × (q.high + 1 ≡ min (p.high + 1) t.below)
  unfolding number_of
  ends = let x = if-some _ _ _ _ refl q e in (x.0, omega arith)

  told-only : (v : ℕ) → NumberAllows q v → NumberAllows p v
  told-only v a = let f = ends in (omega arith, omega arith)

  told-passed : (v : ℕ) → NumberAllows q v → NumberPasses t v
  told-passed v a = let f = ends in (omega arith, omega arith)

  told-each : (v : ℕ) → NumberAllows p v → NumberPasses t v → NumberAllows q v
  told-each v a h = let f = ends in (omega arith, omega arith)

told-none : (t : NumberTell) (p : Number) → number_meet t p ≡ None → (v : ℕ) → NumberAllows p v → NumberPasses t v → ⊥
unfolding number_of
told-none t p e v a h = let f = if-none _ _ _ _ refl e in omega arith

pub number-tells : TellLaws NumberAllows NumberPasses number_meet
number-tells = record { only = told-only; passed = told-passed; each = told-each; none = told-none }
