-- The two halves of a row: their order, and how many choices of values they have.
use Rattle.std.proofs.Common.{◌≡◌, ℕ, zero, suc, ◌+◌, ◌*◌, ◌<◌, ◌≤◌, ◌⊎◌, List, [], ◌∷◌, sym, refl, ap, ◌∙◌, subst, ap₂, inl, inr, add-mul, mul-le-mul, mul-pos, mul-add, arith}
use Rattle.domain.specs.declared.kind.Domain as Domain
use Rattle.domain.specs.declared.kind.Halves as Halves
use Rattle.domain.proofs.Counts.{joined, counted, no-more, count-unique, some-counted}
use Rattle.engine.specs.declared.propagator.Propagator as Propagator
use Rattle.engine.specs.Rows.{Inside, Chosen}
use Rattle.meaning.specs.Search.{change, FirstOpen}
use Rattle.meaning.specs.Matches.{Earlier, Choices}
use Rattle.meaning.proofs.Laws.{LawfulHalves}

module _ {C V T B R : Type 0} {kind : Domain.Ghosts C V T} {halves : Halves.Ghosts C V T} {rule : Propagator.Ghosts R C B V T} {book : B} (l : LawfulHalves kind halves rule book) where
  -- each choice is in one half
  pub one-half : (P : List C) (i : ℕ) (vs : List V) → FirstOpen kind.height P i → Chosen kind.allows P vs →
      Chosen kind.allows (change halves.first P i) vs ⊎ Chosen kind.allows (change halves.second P i) vs
  one-half [] i vs o c = absurd o
  one-half (p ∷ ps) i [] o c = absurd c
  one-half (p ∷ ps) zero (v ∷ vs) o c = elim (l.split.covered p o v c.0) [ inl a ↦ inl (a, c.1) | inr b ↦ inr (b, c.1) ]
  one-half (p ∷ ps) (suc i) (v ∷ vs) o c = elim (one-half ps i vs o.1 c.1) [ inl a ↦ inl (c.0, a) | inr b ↦ inr (c.0, b) ]

  -- all choices of the first half come before all of the second
  pub first-earlier : (P : List C) (i : ℕ) (vs ws : List V) → FirstOpen kind.height P i →
      Chosen kind.allows (change halves.first P i) vs → Chosen kind.allows (change halves.second P i) ws → Earlier halves.before vs ws
  first-earlier [] i vs ws o a b = absurd o
  first-earlier (p ∷ ps) zero [] ws o a b = absurd a
  first-earlier (p ∷ ps) (suc i) [] ws o a b = absurd a
  first-earlier (p ∷ ps) zero (v ∷ vs) [] o a b = absurd b
  first-earlier (p ∷ ps) (suc i) (v ∷ vs) [] o a b = absurd b
  first-earlier (p ∷ ps) zero (v ∷ vs) (w ∷ ws) o a b = inl (l.split.ordered p o v w a.0 b.0)
  first-earlier (p ∷ ps) (suc i) (v ∷ vs) (w ∷ ws) o a b = inr (l.lawful.heights.single-only p o.0 v w a.0 b.0, first-earlier ps i vs ws o.1 a.1 b.1)

  -- ---- how many choices

  pub choices-counted : (P : List C) → (n : ℕ) × Choices kind halves P n
  choices-counted [] = (1, refl)
  choices-counted (p ∷ ps) = let c = counted l.lawful.bounds l.lawful.heights l.split p in let t = choices-counted ps in (c.0 * t.0, (c.0, t.0, c.1, t.1, refl))

  pub choices-once : (P : List C) (m n : ℕ) → Choices kind halves P m → Choices kind halves P n → m ≡ n
  choices-once [] m n a b = a ∙ sym b
  choices-once (p ∷ ps) m n a b =
      a.4 ∙ ap₂ ◌*◌ (count-unique l.lawful.bounds l.lawful.heights l.split p a.0 b.0 a.2 b.2) (choices-once ps a.1 b.1 a.3 b.3) ∙ sym b.4

  pub some-choices : (P : List C) (n : ℕ) → Choices kind halves P n → 0 < n
  some-choices [] n a = omega arith
  some-choices (p ∷ ps) n a = subst (λ x. 0 < x) (sym a.4) (mul-pos (some-counted l.lawful.bounds l.lawful.heights l.split p a.0 a.2) (some-choices ps a.1 a.3))

  -- bounds inside others have no more
  pub fewer-choices : (P Q : List C) (m n : ℕ) → Inside kind.allows P Q → Choices kind halves P m → Choices kind halves Q n → m ≤ n
  fewer-choices [] [] m n i a b = omega arith
  fewer-choices [] (q ∷ qs) m n i a b = absurd i
  fewer-choices (p ∷ ps) [] m n i a b = absurd i
  fewer-choices (p ∷ ps) (q ∷ qs) m n i a b =
      let h = mul-le-mul (no-more l.lawful.bounds l.lawful.heights l.split p q a.0 b.0 i.0 a.2 b.2) (fewer-choices ps qs a.1 b.1 i.1 a.3 b.3) in
      omega (arith, a.4, b.4)

  -- as many as both halves together
  pub halved-choices : (P : List C) (i m n : ℕ) → FirstOpen kind.height P i → Choices kind halves (change halves.first P i) m → Choices kind halves (change halves.second P i) n →
      Choices kind halves P (m + n)
  halved-choices [] i m n o a b = absurd o
  halved-choices (p ∷ ps) zero m n o a b = (
    a.0 + b.0,
    a.1,
    joined l.lawful.bounds l.lawful.heights l.split p o a.0 b.0 a.2 b.2,
    a.3,
    ap₂ ◌+◌ a.4 (b.4 ∙ ap (λ k. b.0 * k) (choices-once ps b.1 a.1 b.3 a.3)) ∙ sym (add-mul a.0 b.0 a.1),
  )
  halved-choices (p ∷ ps) (suc i) m n o a b = (
    a.0,
    a.1 + b.1,
    a.2,
    halved-choices ps i a.1 b.1 o.1 a.3 b.3,
    ap₂ ◌+◌ a.4 (b.4 ∙ ap (λ k. k * b.1) (count-unique l.lawful.bounds l.lawful.heights l.split p b.0 a.0 b.2 a.2)) ∙ sym (mul-add a.0 a.1 b.1),
  )

  -- so that its choices are parted
  pub parted : (P : List C) (i n : ℕ) → FirstOpen kind.height P i → Choices kind halves P n →
      (a : ℕ) × (b : ℕ) × Choices kind halves (change halves.first P i) a × Choices kind halves (change halves.second P i) b × (a + b ≡ n)
  parted P i n o c =
      let a = choices-counted (change halves.first P i) in
      let b = choices-counted (change halves.second P i) in (
        a.0,
        b.0,
        a.1,
        b.1,
        choices-once P (a.0 + b.0) n (halved-choices P i a.0 b.0 o a.1 b.1) c,
      )
