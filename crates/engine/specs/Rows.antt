-- Rows of bounds, one to a cell: rows inside others, choices of values, and single cells.
use Rattle.std.specs.Prelude.{◌≡◌, ℕ, zero, suc, Bool, true, List, [], ◌∷◌, Some, None, Option}
use Rattle.domain.specs.Laws.{Within}

-- what stands at place i, counted from 0; nothing past the end
abbrev pub item : {X : Type 0} → List X → ℕ → Option X
item [] i = None
item (x ∷ xs) zero = Some x
item (x ∷ xs) (suc i) = item xs i

-- a row lies inside another of the same length, cell by cell
abbrev pub Inside : {C V : Type 0} → (C → V → Type 0) → List C → List C → Type 0
Inside allows [] [] = Unit {0}
Inside allows [] (q ∷ qs) = ⊥
Inside allows (p ∷ ps) [] = ⊥
Inside allows (p ∷ ps) (q ∷ qs) = Within allows p q × Inside allows ps qs

-- a choice: one value for each cell, which the cell allows
abbrev pub Chosen : {C V : Type 0} → (C → V → Type 0) → List C → List V → Type 0
Chosen allows [] [] = Unit {0}
Chosen allows [] (v ∷ vs) = ⊥
Chosen allows (p ∷ ps) [] = ⊥
Chosen allows (p ∷ ps) (v ∷ vs) = allows p v × Chosen allows ps vs

-- each cell is single
abbrev pub AllSingle : {C : Type 0} → (C → ℕ) → List C → Type 0
AllSingle height [] = Unit {0}
AllSingle height (p ∷ ps) = (height p ≡ 0) × AllSingle height ps

-- each named cell of the row is single
abbrev pub Single : {C : Type 0} → (C → ℕ) → (ℕ → Bool) → List C → Type 0
Single {C} height names P = (i : ℕ) (p : C) → names i ≡ true → item P i ≡ Some p → height p ≡ 0

-- two rows have the same bounds at each named cell, or both end before it
abbrev pub Agree : {C : Type 0} → (ℕ → Bool) → List C → List C → Type 0
Agree names P Q = (i : ℕ) → names i ≡ true → item P i ≡ item Q i
