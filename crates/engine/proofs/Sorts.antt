-- How each kind sits in a mixed cell, and how a kind sits in itself.
use Rattle.std.proofs.Common.{◌≡◌, ℕ, Bool, true, Some, None, Option, sym, refl, ◌∙◌, subst}
use Rattle.domain.specs.declared.mixed.Mixed.{Mixed}
use Rattle.domain.specs.declared.mixed.Mixed.TheVariants.{First, Second}
use Rattle.domain.specs.declared.mixed.Either.{Either}
use Rattle.domain.specs.declared.mixed.Either.TheVariants.{Left, Right}
use Rattle.domain.specs.Mixes.{MixAllows, mix_height, MixPasses}
use Rattle.domain.specs.Laws.{Within, BoundsLaws}
use Rattle.std.specs.Option.{is_some}
use Rattle.std.proofs.lemmas.Option.{none-some, same_Some}
use Rattle.engine.specs.Parts.{PartLaws, of_kind, first_of, second_of, left_of, right_of}

module _ {A U J B V K : Type 0} (allows : A → U → Type 0) (height : A → ℕ) (passes : J → U → Type 0) (allows' : B → V → Type 0) (height' : B → ℕ) (passes' : K → V → Type 0) where
  first-some : (p : Mixed A B) (x : A) (v : Either U V) → first_of p ≡ Some x → MixAllows allows allows' p v → (u : U) × (left_of v ≡ Some u) × allows x u
  first-some (First a) x (Left u) e h = (u, refl, subst (λ y. allows y u) (same_Some _ _ e) h)
  first-some (First a) x (Right v) e h = absurd h
  first-some (Second b) x v e h = absurd (none-some _ e)

  first-none : (p : Mixed A B) (v : Either U V) → first_of p ≡ None → MixAllows allows allows' p v → left_of v ≡ None
  first-none (First a) v e h = absurd (none-some _ (sym e))
  first-none (Second b) (Left u) e h = absurd h
  first-none (Second b) (Right v) e h = refl

  first-whole : (p : Mixed A B) (x : A) (u : U) → first_of p ≡ Some x → allows x u → MixAllows allows allows' p (Left u)
  first-whole (First a) x u e h = subst (λ y. allows y u) (sym (same_Some _ _ e)) h
  first-whole (Second b) x u e h = absurd (none-some _ e)

  first-single : (p : Mixed A B) (x : A) → first_of p ≡ Some x → mix_height height height' p ≡ 0 → height x ≡ 0
  first-single (First a) x e h = subst (λ y. height y ≡ 0) (same_Some _ _ e) h
  first-single (Second b) x e h = absurd (none-some _ e)

  first-pass : (j : J) (v : Either U V) (u : U) → left_of v ≡ Some u → passes j u → MixPasses passes passes' (Left j) v
  first-pass j (Left u') u e h = subst (passes j) (sym (same_Some _ _ e)) h
  first-pass j (Right v) u e h = tt

  first-passed : (j : J) (v : Either U V) (u : U) → left_of v ≡ Some u → MixPasses passes passes' (Left j) v → passes j u
  first-passed j (Left u') u e h = subst (passes j) (same_Some _ _ e) h
  first-passed j (Right v) u e h = absurd (none-some _ e)

  pub first-part : PartLaws (MixAllows allows allows') (mix_height height height') (MixPasses passes passes') allows height passes first_of left_of Left Left
  first-part = record { value-kin = λ u. refl; some = first-some; none = first-none; whole = first-whole; single = first-single; pass = first-pass; passed = first-passed }

  second-some : (p : Mixed A B) (x : B) (v : Either U V) → second_of p ≡ Some x → MixAllows allows allows' p v → (u : V) × (right_of v ≡ Some u) × allows' x u
  second-some (Second a) x (Right u) e h = (u, refl, subst (λ y. allows' y u) (same_Some _ _ e) h)
  second-some (Second a) x (Left v) e h = absurd h
  second-some (First b) x v e h = absurd (none-some _ e)

  second-none : (p : Mixed A B) (v : Either U V) → second_of p ≡ None → MixAllows allows allows' p v → right_of v ≡ None
  second-none (Second a) v e h = absurd (none-some _ (sym e))
  second-none (First b) (Right u) e h = absurd h
  second-none (First b) (Left v) e h = refl

  second-whole : (p : Mixed A B) (x : B) (u : V) → second_of p ≡ Some x → allows' x u → MixAllows allows allows' p (Right u)
  second-whole (Second a) x u e h = subst (λ y. allows' y u) (sym (same_Some _ _ e)) h
  second-whole (First b) x u e h = absurd (none-some _ e)

  second-single : (p : Mixed A B) (x : B) → second_of p ≡ Some x → mix_height height height' p ≡ 0 → height' x ≡ 0
  second-single (Second a) x e h = subst (λ y. height' y ≡ 0) (same_Some _ _ e) h
  second-single (First b) x e h = absurd (none-some _ e)

  second-pass : (j : K) (v : Either U V) (u : V) → right_of v ≡ Some u → passes' j u → MixPasses passes passes' (Right j) v
  second-pass j (Right u') u e h = subst (passes' j) (sym (same_Some _ _ e)) h
  second-pass j (Left v) u e h = tt

  second-passed : (j : K) (v : Either U V) (u : V) → right_of v ≡ Some u → MixPasses passes passes' (Right j) v → passes' j u
  second-passed j (Right u') u e h = subst (passes' j) (same_Some _ _ e) h
  second-passed j (Left v) u e h = absurd (none-some _ e)

  pub second-part : PartLaws (MixAllows allows allows') (mix_height height height') (MixPasses passes passes') allows' height' passes' second_of right_of Right Right
  second-part = record { value-kin = λ u. refl; some = second-some; none = second-none; whole = second-whole; single = second-single; pass = second-pass; passed = second-passed }

-- a kind sits in itself
pub whole-part : {A U J : Type 0} (allows : A → U → Type 0) (height : A → ℕ) (passes : J → U → Type 0) → PartLaws allows height passes allows height passes Some Some (λ u. u) (λ j. j)
whole-part allows height passes = record {
  value-kin = λ u. refl;
  some = λ p x v e h. (v, refl, subst (λ y. allows y v) (same_Some _ _ e) h);
  none = λ p v e h. absurd (none-some _ (sym e));
  whole = λ p x u e h. subst (λ y. allows y u) (sym (same_Some _ _ e)) h;
  single = λ p x e h. subst (λ y. height y ≡ 0) (same_Some _ _ e) h;
  pass = λ j v u e h. subst (passes j) (sym (same_Some _ _ e)) h;
  passed = λ j v u e h. subst (passes j) (same_Some _ _ e) h;
}

-- what lies within a cell of a kind is of that kind
module _ {C V K X U J : Type 0} {allows : C → V → Type 0} {inside : C → C → Bool} {sample : C → V} {height : C → ℕ} {passes : K → V → Type 0}
    {allows' : X → U → Type 0} {height' : X → ℕ} {passes' : J → U → Type 0} {part : C → Option X} {kin : V → Option U} {value : U → V} {tell : J → K}
    (bounds : BoundsLaws allows sample inside) (kind : PartLaws allows height passes allows' height' passes' part kin value tell) where
  still-of-kind : (p q : C) → Within allows q p → (o o' : Option X) → part p ≡ o → part q ≡ o' → is_some o ≡ true → is_some o' ≡ true
  still-of-kind p q w o (Some y) e f h = refl
  still-of-kind p q w None None e f h = h
  still-of-kind p q w (Some x) None e f h =
      let a = bounds.some q in
      absurd (none-some _ (sym (kind.none q (sample q) f a) ∙ (kind.some p x (sample q) e (w (sample q) a)).1))

  pub kind-lasts : (p q : C) → Within allows q p → of_kind part p ≡ true → of_kind part q ≡ true
  kind-lasts p q w h = still-of-kind p q w (part p) (part q) refl refl h
