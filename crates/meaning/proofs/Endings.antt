-- Every search ends, in one way and with one number of cuts.
use Rattle.std.proofs.Common.{◌≡◌, ℕ, zero, suc, ◌+◌, ◌<◌, ◌≤◌, ◌⊎◌, List, sym, refl, ◌∙◌, subst, inl, inr, eq-or-lt_of_le, arith}
use Rattle.domain.specs.declared.kind.Domain as Domain
use Rattle.domain.specs.declared.kind.Halves as Halves
use Rattle.domain.proofs.Counts.{first-lower, second-lower}
use Rattle.engine.specs.declared.propagator.Propagator as Propagator
use Rattle.engine.specs.Rows.{Inside, AllSingle}
use Rattle.meaning.specs.Resting.{Widest, NoneRests}
use Rattle.meaning.specs.Search.{change, FirstOpen, Ending, found, none, spent, deep, Stage, node, half, Seek, all-single, no-cut-left, no-row-left, in-first, in-second, turn-back, child}
use Rattle.meaning.proofs.Laws.{LawfulHalves}
use Rattle.meaning.proofs.Rows.{total, row-falls, single-or-open, open-once, open-not-single, change-lower}
use Rattle.meaning.proofs.Resting.{widest-once, some-or-none}
use Rattle.meaning.proofs.Searches.{clash, limited}

module _ {C V T B R : Type 0} {kind : Domain.Ghosts C V T} {halves : Halves.Ghosts C V T} {rule : Propagator.Ghosts R C B V T} {book : B} (l : LawfulHalves kind halves rule book)
    (rules : List R) (cut_limit row_limit : ℕ) where
  abbrev From : Stage → ℕ → ℕ → List C → Ending C → ℕ → Type 0
  From = Seek kind halves rule book rules cut_limit row_limit

  -- ---- one way: what a search from a stage must be, by its row

  at-single : {k d c : ℕ} {Q : List C} {e : Ending C} → AllSingle kind.height Q → From node k d Q e c → (found Q ≡ e) × (k ≡ c)
  at-single s (all-single t) = (refl, refl)
  at-single s (no-cut-left i {Q = Q} f g) = absurd (open-not-single kind.height Q i f s)
  at-single s (no-row-left i {Q = Q} f a g) = absurd (open-not-single kind.height Q i f s)
  at-single s (in-first i {Q = Q} f a b t n) = absurd (open-not-single kind.height Q i f s)
  at-single s (in-second i {Q = Q} f a b t u) = absurd (open-not-single kind.height Q i f s)

  at-spent : {k d c : ℕ} {Q : List C} {e : Ending C} (i : ℕ) → FirstOpen kind.height Q i → k ≡ cut_limit → From node k d Q e c → (spent ≡ e) × (k ≡ c)
  at-spent i o x (all-single {Q = Q} t) = absurd (open-not-single kind.height Q i o t)
  at-spent i o x (no-cut-left j f g) = (refl, refl)
  at-spent i o x (no-row-left j f a g) = absurd (omega arith)
  at-spent i o x (in-first j f a b t n) = absurd (omega arith)
  at-spent i o x (in-second j f a b t u) = absurd (omega arith)

  at-deep : {k d c : ℕ} {Q : List C} {e : Ending C} (i : ℕ) → FirstOpen kind.height Q i → k < cut_limit → d ≡ row_limit → From node k d Q e c → (deep ≡ e) × (k ≡ c)
  at-deep i o x y (all-single {Q = Q} t) = absurd (open-not-single kind.height Q i o t)
  at-deep i o x y (no-cut-left j f g) = absurd (omega arith)
  at-deep i o x y (no-row-left j f a g) = (refl, refl)
  at-deep i o x y (in-first j f a b t n) = absurd (omega arith)
  at-deep i o x y (in-second j f a b t u) = absurd (omega arith)

  -- a cut: the first half ends with e₁, and that is the end, or it is none and the second half is searched
  record Cut (k d : ℕ) (Q : List C) (i : ℕ) (e : Ending C) (c : ℕ) : Type 0 where
    e₁ : Ending C
    m : ℕ
    one : From half (k + 1) (d + 1) (change halves.first Q i) e₁ m
    two : ((e₁ ≡ none → ⊥) × (e₁ ≡ e) × (m ≡ c)) ⊎ ((e₁ ≡ none) × From half m (d + 1) (change halves.second Q i) e c)

  at-cut : {k d c : ℕ} {Q : List C} {e : Ending C} (i : ℕ) → FirstOpen kind.height Q i → k < cut_limit → d < row_limit → From node k d Q e c → Cut k d Q i e c
  at-cut i o x y (all-single {Q = Q} t) = absurd (open-not-single kind.height Q i o t)
  at-cut i o x y (no-cut-left j f g) = absurd (omega arith)
  at-cut i o x y (no-row-left j f a g) = absurd (omega arith)
  at-cut i o x y (in-first {k = k} {d = d} {c = c} j {Q = Q} {e = e} f a b t n) =
      subst (λ p. Cut k d Q p e c) (open-once kind.height Q j i f o) (record { e₁ = e; m = c; one = t; two = inl (n, refl, refl) })
  at-cut i o x y (in-second {k = k} {d = d} {m = m} {c = c} j {Q = Q} {e = e} f a b t u) =
      subst (λ p. Cut k d Q p e c) (open-once kind.height Q j i f o) (record { e₁ = none; m = m; one = t; two = inr (refl, u) })

  at-dead : {k d c : ℕ} {P : List C} {e : Ending C} → NoneRests kind rule book rules P → From half k d P e c → (none ≡ e) × (k ≡ c)
  at-dead n (turn-back z) = (refl, refl)
  at-dead n (child {Q = Q} w t) = absurd (n Q w.inside w.rests)

  -- where the child of a half is known, its search is the half's
  pub at-child : {k d c : ℕ} {P Q : List C} {e : Ending C} → Widest kind rule book rules P Q → From half k d P e c → From node k d Q e c
  at-child {Q = Q} w (turn-back z) = absurd (z Q w.inside w.rests)
  at-child {k} {d} {c} {Q = Q} {e = e} w (child {P = P} {Q = Q'} x t) = subst (λ X. From node k d X e c) (widest-once l.lawful rules P Q' Q x w) t

  pub seek-once : {s : Stage} {k d c c' : ℕ} {P : List C} {e e' : Ending C} → From s k d P e c → From s k d P e' c' → (e ≡ e') × (c ≡ c')
  seek-once (all-single s) z = at-single s z
  seek-once (no-cut-left i f g) z = at-spent i f g z
  seek-once (no-row-left i f a g) z = at-deep i f a g z
  seek-once (in-first i f a b t n) z =
      let h = at-cut i f a b z in
      let q = seek-once t h.one in
      elim h.two [ inl x ↦ (q.0 ∙ x.1, q.1 ∙ x.2) | inr x ↦ absurd (n (q.0 ∙ x.0)) ]
  seek-once {d = d} {c' = c'} {e' = e'} (in-second i {Q = Q} f a b t u) z =
      let h = at-cut i f a b z in
      let q = seek-once t h.one in
      elim h.two [ inl x ↦ absurd (x.0 (sym q.0)) | inr x ↦ seek-once u (subst (λ y. From half y (d + 1) (change halves.second Q i) e' c') (sym q.1) x.1) ]
  seek-once (turn-back n) z = at-dead n z
  seek-once (child w t) z = seek-once t (at-child w z)

  -- ---- every search ends

  abbrev Ended : Stage → ℕ → ℕ → List C → Type 0
  Ended s k d P = (e : Ending C) × (c : ℕ) × From s k d P e c

  -- a half ends if its child does
  half-ends : (k d : ℕ) (P : List C) → ((Q : List C) → Inside kind.allows Q P → Ended node k d Q) → Ended half k d P
  half-ends k d P f = elim (some-or-none l.lawful rules P) [
    | inl t ↦ let x = f t.0 t.1.inside in (x.0, x.1, child t.1 x.2)
    | inr n ↦ (none, k, turn-back n)
  ]

  module _ (k d : ℕ) (Q : List C) (i : ℕ) (o : FirstOpen kind.height Q i) where
    -- a cut ends if its halves do
    cut-ends : k < cut_limit → d < row_limit → Ended half (k + 1) (d + 1) (change halves.first Q i) →
        ((m : ℕ) → m ≤ cut_limit → Ended half m (d + 1) (change halves.second Q i)) → Ended node k d Q
    cut-ends a b x f = by x.0 x.1 x.2
      where
        by : (e : Ending C) (m : ℕ) → From half (k + 1) (d + 1) (change halves.first Q i) e m → Ended node k d Q
        by (found S) m t = (found S, m, in-first i o a b t (λ e. clash (cc)))
        by none m t = let y = f m (limited l rules cut_limit row_limit t (omega arith)) in (y.0, y.1, in-second i o a b t y.2)
        by spent m t = (spent, m, in-first i o a b t (λ e. clash (cc)))
        by deep m t = (deep, m, in-first i o a b t (λ e. clash (cc)))

    open-ends : k ≤ cut_limit → d ≤ row_limit → (k < cut_limit → d < row_limit → Ended node k d Q) → Ended node k d Q
    open-ends a b f = elim (eq-or-lt_of_le a) [
      | inl e ↦ (spent, k, no-cut-left i o e)
      | inr x ↦ elim (eq-or-lt_of_le b) [ inl e ↦ (deep, k, no-row-left i o x e) | inr y ↦ f x y ]
    ]

  -- what lies inside a row with a cell made lower is lower
  below : (f : C → C) → ((p : C) → 0 < kind.height p → kind.height (f p) < kind.height p) → (P Q : List C) (i : ℕ) → FirstOpen kind.height P i →
      Inside kind.allows Q (change f P i) → total kind.height Q < total kind.height P
  below f g P Q i o a = let h = change-lower kind.height f g P i o in elim (row-falls l.lawful.bounds l.lawful.heights Q (change f P i) a) [
    | inl e ↦ subst (λ X. total kind.height X < total kind.height P) (sym e) h
    | inr k ↦ omega arith
  ]

  -- n is more than the row's height
  node-ends : (n : ℕ) (k d : ℕ) (Q : List C) → total kind.height Q < n → k ≤ cut_limit → d ≤ row_limit → Ended node k d Q
  node-ends zero k d Q h a b = absurd (omega arith)
  node-ends (suc n) k d Q h a b = elim (single-or-open kind.height Q) [
    | inl s ↦ (found Q, k, all-single s)
    | inr o ↦ open-ends k d Q o.0 o.1 a b (λ x y. cut-ends k d Q o.0 o.1 x y
        (half-ends (k + 1) (d + 1) (change halves.first Q o.0) (λ P i. node-ends n (k + 1) (d + 1) P
        (omega (arith, below halves.first (first-lower l.lawful.bounds l.lawful.heights l.split) Q P o.0 o.1 i)) (omega arith) (omega arith)))
        (λ m z. half-ends m (d + 1) (change halves.second Q o.0) (λ P i. node-ends n m (d + 1) P
        (omega (arith, below halves.second (second-lower l.lawful.bounds l.lawful.heights l.split) Q P o.0 o.1 i)) z (omega arith))))
  ]

  pub seek-ends : (root : List C) → (e : Ending C) × (c : ℕ) × From node 0 0 root e c
  seek-ends root = node-ends (suc (total kind.height root)) 0 0 root (omega arith) (omega arith) (omega arith)
