-- Rows inside others, and their choices.
use Rattle.std.proofs.Common.{◌≡◌, ℕ, zero, suc, ◌<◌, ◌≤◌, Bool, List, [], ◌∷◌, ◌++◌, map, length, get_or, set, Some, None, sym, refl, ap, arith}
use Rattle.domain.specs.Laws.{BoundsLaws, HeightLaws}
use Rattle.std.proofs.lemmas.Option.{none-some, same_Some}
use Rattle.engine.specs.Rows.{item, Inside, Chosen, AllSingle}

module _ {C V : Type 0} (allows : C → V → Type 0) where
  pub inside-self : (P : List C) → Inside allows P P
  inside-self [] = tt
  inside-self (p ∷ ps) = (λ v a. a, inside-self ps)

  pub inside-chosen : (P Q : List C) (vs : List V) → Inside allows P Q → Chosen allows P vs → Chosen allows Q vs
  inside-chosen [] [] vs a c = c
  inside-chosen [] (q ∷ qs) vs a c = absurd a
  inside-chosen (p ∷ ps) [] vs a c = absurd a
  inside-chosen (p ∷ ps) (q ∷ qs) [] a c = absurd c
  inside-chosen (p ∷ ps) (q ∷ qs) (v ∷ vs) a c = (a.0 v c.0, inside-chosen ps qs vs a.1 c.1)

  module _ {sample : C → V} (some : (p : C) → allows p (sample p)) where
    pub sample-chosen : (P : List C) → Chosen allows P (map sample P)
    sample-chosen [] = tt
    sample-chosen (p ∷ ps) = (some p, sample-chosen ps)

    -- a row whose choices another has lies inside it
    pub chosen-inside : (P Q : List C) → ((vs : List V) → Chosen allows P vs → Chosen allows Q vs) → Inside allows P Q
    chosen-inside [] [] f = tt
    chosen-inside [] (q ∷ qs) f = f [] tt
    chosen-inside (p ∷ ps) [] f = f (map sample (p ∷ ps)) (sample-chosen (p ∷ ps))
    chosen-inside (p ∷ ps) (q ∷ qs) f = (λ v a. (f (v ∷ map sample ps) (a, sample-chosen ps)).0, chosen-inside ps qs (λ vs c. (f (sample p ∷ vs) (some p, c)).1))

pub rows-same : {C V : Type 0} {allows : C → V → Type 0} {inside : C → C → Bool} {sample : C → V} →
    BoundsLaws allows sample inside → (P Q : List C) → Inside allows P Q → Inside allows Q P → P ≡ Q
rows-same bounds [] [] a b = refl
rows-same bounds [] (q ∷ qs) a b = absurd a
rows-same bounds (p ∷ ps) [] a b = absurd a
rows-same bounds (p ∷ ps) (q ∷ qs) a b = let h = bounds.same p q a.0 b.0 in let t = rows-same bounds ps qs a.1 b.1 in cc

module _ {C V : Type 0} {allows : C → V → Type 0} {height : C → ℕ} (heights : HeightLaws allows height) where
  -- single cells have one choice
  pub singles-one : (xs : List C) (us ws : List V) → AllSingle height xs → Chosen allows xs us → Chosen allows xs ws → us ≡ ws
  singles-one [] [] [] s a b = refl
  singles-one [] [] (w ∷ ws) s a b = absurd b
  singles-one [] (u ∷ us) ws s a b = absurd a
  singles-one (x ∷ xs) [] ws s a b = absurd a
  singles-one (x ∷ xs) (u ∷ us) [] s a b = absurd b
  singles-one (x ∷ xs) (u ∷ us) (w ∷ ws) s a b =
      let h = heights.single-only x s.0 u w a.0 b.0 in
      let t = singles-one xs us ws s.1 a.1 b.1 in cc

-- ---- what stands at a place

module _ {X : Type 0} where
  pub item-here : (P : List X) (i : ℕ) (x : X) → i < length P → x ≡ get_or P i x → item P i ≡ Some x
  item-here [] i x h e = absurd (omega arith)
  item-here (p ∷ ps) zero x h e = ap Some (sym e)
  item-here (p ∷ ps) (suc i) x h e = item-here ps i x (omega arith) e

  pub item-gone : (P : List X) (i : ℕ) → length P ≤ i → item P i ≡ None
  item-gone [] i h = refl
  item-gone (p ∷ ps) zero h = absurd (omega arith)
  item-gone (p ∷ ps) (suc i) h = item-gone ps i (omega arith)

  pub item-within : (P : List X) (i : ℕ) (x : X) → item P i ≡ Some x → i < length P
  item-within [] i x e = absurd (none-some _ e)
  item-within (p ∷ ps) zero x e = omega arith
  item-within (p ∷ ps) (suc i) x e = let h = item-within ps i x e in omega arith

  pub set-same : (P : List X) (i : ℕ) (x : X) → item P i ≡ Some x → set P i x ≡ P
  set-same [] i x e = absurd (none-some _ e)
  set-same (p ∷ ps) zero x e = ap (λ y. y ∷ ps) (sym (same_Some _ _ e))
  set-same (p ∷ ps) (suc i) x e = ap (λ ys. p ∷ ys) (set-same ps i x e)

  pub set-past : (P : List X) (i : ℕ) (x : X) → length P ≤ i → set P i x ≡ P
  set-past [] i x h = refl
  set-past (p ∷ ps) zero x h = absurd (omega arith)
  set-past (p ∷ ps) (suc i) x h = ap (λ ys. p ∷ ys) (set-past ps i x (omega arith))

  pub item-set : (P : List X) (i : ℕ) (x y : X) → item P i ≡ Some x → item (set P i y) i ≡ Some y
  item-set [] i x y e = absurd (none-some _ e)
  item-set (p ∷ ps) zero x y e = refl
  item-set (p ∷ ps) (suc i) x y e = item-set ps i x y e

  pub set-twice : (P : List X) (i : ℕ) (x y : X) → set (set P i x) i y ≡ set P i y
  set-twice [] i x y = refl
  set-twice (p ∷ ps) zero x y = refl
  set-twice (p ∷ ps) (suc i) x y = ap (λ ys. p ∷ ys) (set-twice ps i x y)

  pub item-append : (P Q : List X) (i : ℕ) → i < length P → item (P ++ Q) i ≡ item P i
  item-append [] Q i h = absurd (omega arith)
  item-append (p ∷ ps) Q zero h = refl
  item-append (p ∷ ps) Q (suc i) h = item-append ps Q i (omega arith)

  -- rows with the same at each place are the same
  pub items-same : (P Q : List X) → ((i : ℕ) → item P i ≡ item Q i) → P ≡ Q
  items-same [] [] s = refl
  items-same [] (q ∷ qs) s = absurd (none-some _ (s 0))
  items-same (p ∷ ps) [] s = absurd (none-some _ (sym (s 0)))
  items-same (p ∷ ps) (q ∷ qs) s = let h = same_Some _ _ (s 0) in let t = items-same ps qs (λ i. s (suc i)) in cc
