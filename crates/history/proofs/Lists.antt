-- Lists with one more at their end, and what stands at a place.
use Rattle.std.proofs.Common.{◌≡◌, ℕ, zero, suc, ◌<◌, List, [], ◌∷◌, ◌++◌, length, Some, refl, ap, arith, length-append}
use Rattle.engine.specs.Rows.{item, Inside}

module _ {X : Type 0} where
  pub item-last : (xs : List X) (x : X) → item (xs ++ (x ∷ [])) (length xs) ≡ Some x
  item-last [] x = refl
  item-last (y ∷ ys) x = item-last ys x

  -- lists with one more are the same only where the lists are, and what they have more
  pub last-same : (xs ys : List X) (x y : X) → xs ++ (x ∷ []) ≡ ys ++ (y ∷ []) → (xs ≡ ys) × (x ≡ y)
  last-same [] [] x y e = (refl, cc)
  last-same [] (b ∷ ys) x y e = absurd (let h : 1 ≡ suc (length (ys ++ (y ∷ []))) = ap length e in let k = length-append ys (y ∷ []) in omega arith)
  last-same (a ∷ xs) [] x y e = absurd (let h : suc (length (xs ++ (x ∷ []))) ≡ 1 = ap length e in let k = length-append xs (x ∷ []) in omega arith)
  last-same (a ∷ xs) (b ∷ ys) x y e =
      let f : a ≡ b = cc in
      let g : xs ++ (x ∷ []) ≡ ys ++ (y ∷ []) = cc in
      let t = last-same xs ys x y g in
      let q = t.0 in
      (cc, t.1)

-- a row inside another has a cell wherever that one has
pub inside-item : {C V : Type 0} (allows : C → V → Type 0) (P Q : List C) (i : ℕ) → Inside allows P Q → i < length Q → (p : C) × (item P i ≡ Some p)
inside-item allows [] [] i a h = absurd (omega arith)
inside-item allows [] (q ∷ qs) i a h = absurd a
inside-item allows (p ∷ ps) [] i a h = absurd a
inside-item allows (p ∷ ps) (q ∷ qs) zero a h = (p, refl)
inside-item allows (p ∷ ps) (q ∷ qs) (suc i) a h = inside-item allows ps qs i a.1 (omega arith)
