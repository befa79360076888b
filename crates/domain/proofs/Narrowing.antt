-- What follows from the laws of bounds, of heights and of what is told, for every kind of cell.
use Rattle.std.proofs.Common.{◌≡◌, ℕ, ◌<◌, Bool, true, false, T, ◌⊎◌, Some, Option, sym, refl, ap, ◌∙◌, subst, inl, inr}
use Rattle.domain.specs.Laws.{Within, BoundsLaws, HeightLaws}
use Rattle.domain.specs.Tells.{TellLaws}
use Rattle.domain.specs.Options.{answered}

module _ {P V : Type 0} {allows : P → V → Type 0} {sample : P → V} {inside : P → P → Bool} (l : BoundsLaws allows sample inside) where
  -- each inside the other
  pub inside-both : (p q : P) → T (inside p q) → T (inside q p) → p ≡ q
  inside-both p q s t = l.same p q (l.inside-only p q s) (l.inside-only q p t)

  pub inside-self : (p q : P) → p ≡ q → T (inside q p)
  inside-self p q e = l.inside-each q p (λ v a. subst (λ r. allows r v) (sym e) a)

  -- bounds within others are the same, or lower
  pub falls : {height : P → ℕ} → HeightLaws allows height → (p q : P) → Within allows p q → (p ≡ q) ⊎ (height p < height q)
  falls {height} h p q w = told (inside q p) refl
    where
      told : (b : Bool) → inside q p ≡ b → (p ≡ q) ⊎ (height p < height q)
      told true e = inl (l.same p q w (l.inside-only q p (subst T (sym e) tt)))
      told false e = inr (h.lower p q w (λ s. subst T e (inside-self p q s)))

-- ---- what follows from the laws of what is told

module _ {P V K : Type 0} {allows : P → V → Type 0} {sample : P → V} {inside : P → P → Bool} {passes : K → V → Type 0} {meet : K → P → Option P}
    (l : BoundsLaws allows sample inside) (t : TellLaws allows passes meet) where
  pub told-inside : (k : K) (p q : P) → meet k p ≡ Some q → T (inside q p)
  told-inside k p q e = l.inside-each q p (t.only k p q e)

  -- the answer depends only on which values are allowed and pass
  pub told-alike : (j k : K) (p q : P)
      → ((v : V) → allows p v → passes j v → allows q v × passes k v) → ((v : V) → allows q v → passes k v → allows p v × passes j v) → meet j p ≡ meet k q
  told-alike j k p q f g = elim (answered (meet j p)) [
    | inl x ↦ elim (answered (meet k q)) [
      | inl y ↦ x ∙ sym y
      | inr b ↦ absurd (let a = l.some b.0 in
          let h = g (sample b.0) (t.only k q b.0 b.1 _ a) (t.passed k q b.0 b.1 _ a) in t.none j p x _ h.0 h.1)
    ]
    | inr a ↦ elim (answered (meet k q)) [
      | inl y ↦ absurd (let b = l.some a.0 in
          let h = f (sample a.0) (t.only j p a.0 a.1 _ b) (t.passed j p a.0 a.1 _ b) in t.none k q y _ h.0 h.1)
      | inr b ↦ a.1 ∙ ap Some (l.same a.0 b.0
          (λ v x. let h = f v (t.only j p a.0 a.1 v x) (t.passed j p a.0 a.1 v x) in t.each k q b.0 b.1 v h.0 h.1)
          (λ v x. let h = g v (t.only k q b.0 b.1 v x) (t.passed k q b.0 b.1 v x) in t.each j p a.0 a.1 v h.0 h.1)) ∙ sym b.1
    ]
  ]

  -- bounds whose values all pass stay as they are
  pub told-nothing : (k : K) (p : P) → ((v : V) → allows p v → passes k v) → meet k p ≡ Some p
  told-nothing k p f = elim (answered (meet k p)) [
    | inl x ↦ absurd (t.none k p x (sample p) (l.some p) (f _ (l.some p)))
    | inr a ↦ a.1 ∙ ap Some (l.same a.0 p (t.only k p a.0 a.1) (λ v x. t.each k p a.0 a.1 v x (f v x)))
  ]

  -- of two things told, it does not matter which comes first
  pub told-swapped : (j k : K) (p q r : P) → meet j p ≡ Some q → meet k p ≡ Some r → meet k q ≡ meet j r
  told-swapped j k p q r e f = told-alike k j q r
      (λ v a b. (t.each k p r f v (t.only j p q e v a) b, t.passed j p q e v a))
      (λ v a b. (t.each j p q e v (t.only k p r f v a) b, t.passed k p r f v a))

  -- wider bounds told no more keep what narrower ones keep
  pub told-monotone : (j k : K) (p q a : P) → Within allows p q → ((v : V) → allows a v → passes j v → passes k v) → meet j p ≡ Some a
      → (b : P) × (meet k q ≡ Some b) × Within allows a b
  told-monotone j k p q a w f e = elim (answered (meet k q)) [
    | inl x ↦ absurd (let s = l.some a in t.none k q x (sample a) (w _ (t.only j p a e _ s)) (f _ s (t.passed j p a e _ s)))
    | inr b ↦ (b.0, b.1, λ v x. t.each k q b.0 b.1 v (w v (t.only j p a e v x)) (f v x (t.passed j p a e v x)))
  ]
