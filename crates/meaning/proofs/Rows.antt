-- Rows inside others, how high they stand, and the row with one cell changed.
use Rattle.std.proofs.Common.{◌≡◌, ℕ, zero, suc, ◌+◌, ◌<◌, Bool, ◌⊎◌, List, [], ◌∷◌, ◌++◌, Some, sym, refl, ap, ◌∙◌, inl, inr, eq-zero-or-pos, arith}
use Rattle.domain.specs.Laws.{Within, BoundsLaws, HeightLaws}
use Rattle.domain.proofs.Narrowing.{falls}
use Rattle.std.proofs.lemmas.Option.{none-some, same_Some}
use Rattle.engine.specs.Rows.{item, Inside, AllSingle, Single}
use Rattle.engine.proofs.Rows.{inside-self}
use Rattle.meaning.specs.Search.{change, FirstOpen}

-- the heights of all cells together
abbrev pub total : {C : Type 0} → (C → ℕ) → List C → ℕ
total height [] = 0
total height (p ∷ ps) = height p + total height ps

module _ {C V : Type 0} (allows : C → V → Type 0) where
  pub inside-trans : (P Q S : List C) → Inside allows P Q → Inside allows Q S → Inside allows P S
  inside-trans [] [] S a b = b
  inside-trans [] (q ∷ qs) S a b = absurd a
  inside-trans (p ∷ ps) [] S a b = absurd a
  inside-trans (p ∷ ps) (q ∷ qs) [] a b = absurd b
  inside-trans (p ∷ ps) (q ∷ qs) (s ∷ ss) a b = (λ v h. b.0 v (a.0 v h), inside-trans ps qs ss a.1 b.1)

  -- a cell added to both
  pub inside-added : (P Q : List C) (p q : C) → Inside allows P Q → Within allows p q → Inside allows (P ++ (p ∷ [])) (Q ++ (q ∷ []))
  inside-added [] [] p q a w = (w, tt)
  inside-added [] (y ∷ ys) p q a w = absurd a
  inside-added (x ∷ xs) [] p q a w = absurd a
  inside-added (x ∷ xs) (y ∷ ys) p q a w = (a.0, inside-added xs ys p q a.1 w)

  -- a row inside one with a cell added has such a cell too
  pub inside-parted : (Q P : List C) (q : C) → Inside allows P (Q ++ (q ∷ [])) → (P' : List C) × (p : C) × (P' ++ (p ∷ []) ≡ P) × Inside allows P' Q × Within allows p q
  inside-parted [] [] q a = absurd a
  inside-parted [] (p ∷ []) q a = ([], p, refl, tt, a.0)
  inside-parted [] (p ∷ (x ∷ xs)) q a = absurd a.1
  inside-parted (y ∷ ys) [] q a = absurd a
  inside-parted (y ∷ ys) (x ∷ xs) q a = let t = inside-parted ys xs q a.1 in (x ∷ t.0, t.1, ap (λ zs. x ∷ zs) t.2, (a.0, t.3), t.4)

-- a row inside another is the same, or lower
pub row-falls : {C V : Type 0} {allows : C → V → Type 0} {sample : C → V} {inside : C → C → Bool} {height : C → ℕ} →
    BoundsLaws allows sample inside → HeightLaws allows height → (P Q : List C) → Inside allows P Q → (P ≡ Q) ⊎ (total height P < total height Q)
row-falls l h [] [] a = inl refl
row-falls l h [] (q ∷ qs) a = absurd a
row-falls l h (p ∷ ps) [] a = absurd a
row-falls {height = height} l h (p ∷ ps) (q ∷ qs) a = elim (falls l h p q a.0) [
  | inl e ↦ elim (row-falls l h ps qs a.1) [ inl f ↦ inl (cc) | inr g ↦ inr (let k = ap height e in omega arith) ]
  | inr o ↦ elim (row-falls l h ps qs a.1) [ inl f ↦ inr (let k = ap (total height) f in omega arith) | inr g ↦ inr (omega arith) ]
]

-- ---- single cells, and the lowest that is not

module _ {C : Type 0} (height : C → ℕ) where
  pub single-or-open : (P : List C) → AllSingle height P ⊎ ((i : ℕ) × FirstOpen height P i)
  single-or-open [] = inl tt
  single-or-open (p ∷ ps) = elim (eq-zero-or-pos (height p)) [
    | inl e ↦ elim (single-or-open ps) [ inl s ↦ inl (e, s) | inr o ↦ inr (suc o.0, (e, o.1)) ]
    | inr o ↦ inr (0, o)
  ]

  pub open-once : (P : List C) (i j : ℕ) → FirstOpen height P i → FirstOpen height P j → i ≡ j
  open-once [] i j a b = absurd a
  open-once (p ∷ ps) zero zero a b = refl
  open-once (p ∷ ps) zero (suc j) a b = absurd (let e = b.0 in omega arith)
  open-once (p ∷ ps) (suc i) zero a b = absurd (let e = a.0 in omega arith)
  open-once (p ∷ ps) (suc i) (suc j) a b = ap suc (open-once ps i j a.1 b.1)

  pub open-not-single : (P : List C) (i : ℕ) → FirstOpen height P i → AllSingle height P → ⊥
  open-not-single [] i a s = a
  open-not-single (p ∷ ps) zero a s = let e = s.0 in omega arith
  open-not-single (p ∷ ps) (suc i) a s = open-not-single ps i a.1 s.1

  pub single-named : (names : ℕ → Bool) (P : List C) → AllSingle height P → Single height names P
  single-named names P s i p n e = at P s i e
    where
      at : (Q : List C) → AllSingle height Q → (j : ℕ) → item Q j ≡ Some p → height p ≡ 0
      at [] s j e = absurd (none-some _ e)
      at (q ∷ qs) s zero e = ap height (sym (same_Some _ _ e)) ∙ s.0
      at (q ∷ qs) s (suc j) e = at qs s.1 j e

  -- the lowest open cell made lower
  pub change-lower : (f : C → C) → ((p : C) → 0 < height p → height (f p) < height p) → (P : List C) (i : ℕ) → FirstOpen height P i → total height (change f P i) < total height P
  change-lower f g [] i o = absurd o
  change-lower f g (p ∷ ps) zero o = let h = g p o in omega arith
  change-lower f g (p ∷ ps) (suc i) o = let h = change-lower f g ps i o.1 in omega arith

  pub change-inside : {V : Type 0} (allows : C → V → Type 0) (f : C → C) → ((p : C) → 0 < height p → Within allows (f p) p) →
      (P : List C) (i : ℕ) → FirstOpen height P i → Inside allows (change f P i) P
  change-inside allows f g [] i o = absurd o
  change-inside allows f g (p ∷ ps) zero o = (g p o, inside-self allows ps)
  change-inside allows f g (p ∷ ps) (suc i) o = (λ v a. a, change-inside allows f g ps i o.1)
