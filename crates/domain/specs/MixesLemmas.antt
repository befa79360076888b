-- Cells of either of two kinds show the laws of a kind of cell.
use Rattle.std.specs.Prelude.{◌≡◌, ℕ, ◌<◌, Bool, T, ◌⊎◌, Some, None, Option, ◌≢◌}
use Rattle.std.proofs.Common.{sym, ap, subst, inl, inr}
use Rattle.domain.specs.declared.mixed.Mixed.{Mixed}
use Rattle.domain.specs.declared.mixed.Mixed.TheVariants.{First, Second}
use Rattle.domain.specs.declared.mixed.Either.{Either}
use Rattle.domain.specs.declared.mixed.Either.TheVariants.{Left, Right}
use Rattle.domain.specs.Laws.{Within, OneValue, BoundsLaws, HeightLaws, HalvesLaws}
use Rattle.domain.specs.Tells.{TellLaws}
use Rattle.domain.specs.Mixes.{MixAllows, mix_sample, mix_inside, mix_height, MixBefore, mix_half, MixPasses, mix_meet}
use Rattle.std.proofs.lemmas.Option.{none-some, same_Some}
use Rattle.domain.specs.Options.{onto-some, onto-none}

left-is : {U V : Type 0} {u v : U} → ◌≡◌ {A = Either U V} (Left u) (Left v) → u ≡ v
left-is e = cc

right-is : {U V : Type 0} {u v : V} → ◌≡◌ {A = Either U V} (Right u) (Right v) → u ≡ v
right-is e = cc

module _ {P U : Type 0} {allows : P → U → Type 0} {sample : P → U} {inside : P → P → Bool}
    {Q V : Type 0} {allows' : Q → V → Type 0} {sample' : Q → V} {inside' : Q → Q → Bool}
    (l : BoundsLaws allows sample inside) (m : BoundsLaws allows' sample' inside') where
  some : (p : Mixed P Q) → MixAllows allows allows' p (mix_sample sample sample' p)
  some (First a) = l.some a
  some (Second b) = m.some b

  inside-only : (p q : Mixed P Q) → T (mix_inside inside inside' p q) → Within (MixAllows allows allows') p q
  inside-only (First a) (First b) t (Left v) w = l.inside-only a b t v w
  inside-only (First a) (First b) t (Right v) w = w
  inside-only (First a) (Second b) t v w = absurd t
  inside-only (Second a) (First b) t v w = absurd t
  inside-only (Second a) (Second b) t (Left v) w = w
  inside-only (Second a) (Second b) t (Right v) w = m.inside-only a b t v w

  inside-each : (p q : Mixed P Q) → Within (MixAllows allows allows') p q → T (mix_inside inside inside' p q)
  inside-each (First a) (First b) f = l.inside-each a b (λ v. f (Left v))
  inside-each (First a) (Second b) f = f (Left (sample a)) (l.some a)
  inside-each (Second a) (First b) f = f (Right (sample' a)) (m.some a)
  inside-each (Second a) (Second b) f = m.inside-each a b (λ v. f (Right v))

  same : (p q : Mixed P Q) → Within (MixAllows allows allows') p q → Within (MixAllows allows allows') q p → p ≡ q
  same (First a) (First b) f g = ap First (l.same a b (λ v. f (Left v)) (λ v. g (Left v)))
  same (First a) (Second b) f g = absurd (f (Left (sample a)) (l.some a))
  same (Second a) (First b) f g = absurd (f (Right (sample' a)) (m.some a))
  same (Second a) (Second b) f g = ap Second (m.same a b (λ v. f (Right v)) (λ v. g (Right v)))

  pub mix-bounds : BoundsLaws (MixAllows allows allows') (mix_sample sample sample') (mix_inside inside inside')
  mix-bounds = record { some = some; inside-only = inside-only; inside-each = inside-each; same = same }

  module _ {height : P → ℕ} {height' : Q → ℕ} (h : HeightLaws allows height) (k : HeightLaws allows' height') where
    lower : (p q : Mixed P Q) → Within (MixAllows allows allows') p q → (p ≢ q) → mix_height height height' p < mix_height height height' q
    lower (First a) (First b) f n = h.lower a b (λ v. f (Left v)) (λ e. n (ap First e))
    lower (First a) (Second b) f n = absurd (f (Left (sample a)) (l.some a))
    lower (Second a) (First b) f n = absurd (f (Right (sample' a)) (m.some a))
    lower (Second a) (Second b) f n = k.lower a b (λ v. f (Right v)) (λ e. n (ap Second e))

    single-only : (p : Mixed P Q) → mix_height height height' p ≡ 0 → OneValue (MixAllows allows allows') p
    single-only (First a) z (Left u) (Left v) x y = ap Left (h.single-only a z u v x y)
    single-only (First a) z (Left u) (Right v) x y = absurd y
    single-only (First a) z (Right u) v x y = absurd x
    single-only (Second b) z (Left u) v x y = absurd x
    single-only (Second b) z (Right u) (Left v) x y = absurd y
    single-only (Second b) z (Right u) (Right v) x y = ap Right (k.single-only b z u v x y)

    single-each : (p : Mixed P Q) → OneValue (MixAllows allows allows') p → mix_height height height' p ≡ 0
    single-each (First a) f = h.single-each a (λ u v x y. left-is (f (Left u) (Left v) x y))
    single-each (Second b) f = k.single-each b (λ u v x y. right-is (f (Right u) (Right v) x y))

    pub mix-heights : HeightLaws (MixAllows allows allows') (mix_height height height')
    mix-heights = record { lower = lower; single-only = single-only; single-each = single-each }

module _ {P U : Type 0} {allows : P → U → Type 0} {height : P → ℕ} {before : U → U → Type 0} {first second : P → P}
    {Q V : Type 0} {allows' : Q → V → Type 0} {height' : Q → ℕ} {before' : V → V → Type 0} {first' second' : Q → Q}
    (s : HalvesLaws allows height before first second) (t : HalvesLaws allows' height' before' first' second') where
  irreflexive : (v : Either U V) → MixBefore before before' v v → ⊥
  irreflexive (Left u) b = s.irreflexive u b
  irreflexive (Right v) b = t.irreflexive v b

  transitive : (u v w : Either U V) → MixBefore before before' u v → MixBefore before before' v w → MixBefore before before' u w
  transitive (Left u) (Left v) (Left w) p q = s.transitive u v w p q
  transitive (Left u) (Left v) (Right w) p q = tt
  transitive (Left u) (Right v) (Left w) p q = absurd q
  transitive (Left u) (Right v) (Right w) p q = tt
  transitive (Right u) (Left v) w p q = absurd p
  transitive (Right u) (Right v) (Left w) p q = q
  transitive (Right u) (Right v) (Right w) p q = t.transitive u v w p q

  total : (u v : Either U V) → MixBefore before before' u v ⊎ ((u ≡ v) ⊎ MixBefore before before' v u)
  total (Left u) (Left v) = elim (s.total u v) [ inl b ↦ inl b | inr o ↦ elim o [ inl e ↦ inr (inl (ap Left e)) | inr b ↦ inr (inr b) ] ]
  total (Left u) (Right v) = inl tt
  total (Right u) (Left v) = inr (inr tt)
  total (Right u) (Right v) = elim (t.total u v) [ inl b ↦ inl b | inr o ↦ elim o [ inl e ↦ inr (inl (ap Right e)) | inr b ↦ inr (inr b) ] ]

  first-inside : (p : Mixed P Q) → 0 < mix_height height height' p → Within (MixAllows allows allows') (mix_half first first' p) p
  first-inside (First a) o (Left v) w = s.first-inside a o v w
  first-inside (First a) o (Right v) w = w
  first-inside (Second a) o (Left v) w = w
  first-inside (Second a) o (Right v) w = t.first-inside a o v w

  second-inside : (p : Mixed P Q) → 0 < mix_height height height' p → Within (MixAllows allows allows') (mix_half second second' p) p
  second-inside (First a) o (Left v) w = s.second-inside a o v w
  second-inside (First a) o (Right v) w = w
  second-inside (Second a) o (Left v) w = w
  second-inside (Second a) o (Right v) w = t.second-inside a o v w

  covered : (p : Mixed P Q) → 0 < mix_height height height' p → (v : Either U V) → MixAllows allows allows' p v
      → MixAllows allows allows' (mix_half first first' p) v ⊎ MixAllows allows allows' (mix_half second second' p) v
  covered (First a) o (Left v) w = s.covered a o v w
  covered (First a) o (Right v) w = inl w
  covered (Second a) o (Left v) w = inl w
  covered (Second a) o (Right v) w = t.covered a o v w

  ordered : (p : Mixed P Q) → 0 < mix_height height height' p → (u v : Either U V) → MixAllows allows allows' (mix_half first first' p) u
      → MixAllows allows allows' (mix_half second second' p) v → MixBefore before before' u v
  ordered (First a) o (Left u) (Left v) x y = s.ordered a o u v x y
  ordered (First a) o (Left u) (Right v) x y = tt
  ordered (First a) o (Right u) v x y = absurd x
  ordered (Second a) o (Left u) v x y = absurd x
  ordered (Second a) o (Right u) (Left v) x y = y
  ordered (Second a) o (Right u) (Right v) x y = t.ordered a o u v x y

  pub mix-halves : HalvesLaws (MixAllows allows allows') (mix_height height height') (MixBefore before before') (mix_half first first') (mix_half second second')
  mix-halves = record {
    irreflexive = irreflexive;
    transitive = transitive;
    total = total;
    first-inside = first-inside;
    second-inside = second-inside;
    covered = covered;
    ordered = ordered;
  }

-- ---- what a cell of either kind is told

module _ {P U J : Type 0} {allows : P → U → Type 0} {passes : J → U → Type 0} {meet : J → P → Option P}
    {Q V K : Type 0} {allows' : Q → V → Type 0} {passes' : K → V → Type 0} {meet' : K → Q → Option Q}
    (l : TellLaws allows passes meet) (m : TellLaws allows' passes' meet') where
  abbrev A : Mixed P Q → Either U V → Type 0
  A = MixAllows allows allows'

  abbrev F : Either J K → Either U V → Type 0
  F = MixPasses passes passes'

  abbrev M : Either J K → Mixed P Q → Option (Mixed P Q)
  M = mix_meet meet meet'

  only : (t : Either J K) (p q : Mixed P Q) → M t p ≡ Some q → (v : Either U V) → A q v → A p v
  only (Left t) (First a) q e v h =
      let w = onto-some First (meet t a) q e in
      let h' : A (First w.0) v = subst (λ x. A x v) w.2 h in
      elim v as (λ x. A (First w.0) x → A (First a) x) [ Left u ↦ λ z. l.only t a w.0 w.1 u z | Right u ↦ λ z. z ] h'
  only (Left t) (Second b) q e v h = subst (λ x. A x v) (sym (same_Some _ _ e)) h
  only (Right t) (First a) q e v h = subst (λ x. A x v) (sym (same_Some _ _ e)) h
  only (Right t) (Second b) q e v h =
      let w = onto-some Second (meet' t b) q e in
      let h' : A (Second w.0) v = subst (λ x. A x v) w.2 h in
      elim v as (λ x. A (Second w.0) x → A (Second b) x) [ Left u ↦ λ z. z | Right u ↦ λ z. m.only t b w.0 w.1 u z ] h'

  passed : (t : Either J K) (p q : Mixed P Q) → M t p ≡ Some q → (v : Either U V) → A q v → F t v
  passed (Left t) (First a) q e v h =
      let w = onto-some First (meet t a) q e in
      let h' : A (First w.0) v = subst (λ x. A x v) w.2 h in
      elim v as (λ x. A (First w.0) x → F (Left t) x) [ Left u ↦ λ z. l.passed t a w.0 w.1 u z | Right u ↦ λ z. tt ] h'
  passed (Left t) (Second b) q e (Left u) h = absurd (subst (λ x. A x (Left u)) (sym (same_Some _ _ e)) h)
  passed (Left t) (Second b) q e (Right u) h = tt
  passed (Right t) (First a) q e (Left u) h = tt
  passed (Right t) (First a) q e (Right u) h = absurd (subst (λ x. A x (Right u)) (sym (same_Some _ _ e)) h)
  passed (Right t) (Second b) q e v h =
      let w = onto-some Second (meet' t b) q e in
      let h' : A (Second w.0) v = subst (λ x. A x v) w.2 h in
      elim v as (λ x. A (Second w.0) x → F (Right t) x) [ Left u ↦ λ z. tt | Right u ↦ λ z. m.passed t b w.0 w.1 u z ] h'

  each : (t : Either J K) (p q : Mixed P Q) → M t p ≡ Some q → (v : Either U V) → A p v → F t v → A q v
  each (Left t) (First a) q e (Left u) h f =
      let w = onto-some First (meet t a) q e in
      subst (λ x. A x (Left u)) (sym w.2) (l.each t a w.0 w.1 u h f)
  each (Left t) (First a) q e (Right u) h f = absurd h
  each (Left t) (Second b) q e v h f = subst (λ x. A x v) (same_Some _ _ e) h
  each (Right t) (First a) q e v h f = subst (λ x. A x v) (same_Some _ _ e) h
  each (Right t) (Second b) q e (Left u) h f = absurd h
  each (Right t) (Second b) q e (Right u) h f =
      let w = onto-some Second (meet' t b) q e in
      subst (λ x. A x (Right u)) (sym w.2) (m.each t b w.0 w.1 u h f)

  none : (t : Either J K) (p : Mixed P Q) → M t p ≡ None → (v : Either U V) → A p v → F t v → ⊥
  none (Left t) (First a) e (Left u) h f = l.none t a (onto-none First (meet t a) e) u h f
  none (Left t) (First a) e (Right u) h f = h
  none (Left t) (Second b) e v h f = none-some _ (sym e)
  none (Right t) (First a) e v h f = none-some _ (sym e)
  none (Right t) (Second b) e (Left u) h f = h
  none (Right t) (Second b) e (Right u) h f = m.none t b (onto-none Second (meet' t b) e) u h f

  pub mix-tells : TellLaws A F M
  mix-tells = record { only = only; passed = passed; each = each; none = none }
