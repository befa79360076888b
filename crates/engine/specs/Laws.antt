-- The laws of a propagator. `step` is what it makes of a row: a new row, or nothing where it meets a contradiction.
use Rattle.std.specs.Prelude.{◌≡◌, ℕ, Bool, false, List, Some, None, Option, ◌≢◌}
use Rattle.engine.specs.Rows.{item, Inside, Chosen, Single, Agree}

-- How it narrows.
pub record NarrowingLaws {C V : Type 0} (allows : C → V → Type 0) (names : ℕ → Bool) (step : List C → Option (List C)) : Type 0 where
  -- it never widens a cell
  pub inside : (P P' : List C) → step P ≡ Some P' → Inside allows P' P
  -- it touches no cell that it does not name
  pub touches : (P P' : List C) → step P ≡ Some P' → (i : ℕ) → names i ≡ false → item P' i ≡ item P i
  -- it reads only cells that it names: of rows that agree there it makes rows that agree there, or contradicts both
  pub reads : (P Q P' : List C) → Agree names P Q → step P ≡ Some P' → (Q' : List C) × (step Q ≡ Some Q') × Agree names P' Q'
  -- if P lies inside Q and gives no contradiction, Q gives none, and what P becomes lies inside what Q becomes
  pub monotone : (P Q P' : List C) → Inside allows P Q → step P ≡ Some P' → (Q' : List C) × (step Q ≡ Some Q') × Inside allows P' Q'

-- What it narrows for: its relation over the values of a row.
pub record RelationLaws {C V : Type 0} (allows : C → V → Type 0) (height : C → ℕ) (names : ℕ → Bool) (holds : List V → Type 0) (step : List C → Option (List C)) : Type 0 where
  -- every choice that meets the relation stays allowed
  pub keeps : (P P' : List C) (vs : List V) → Chosen allows P vs → holds vs → step P ≡ Some P' → Chosen allows P' vs
  -- so that a row with such a choice gives no contradiction
  pub possible : (P : List C) (vs : List V) → Chosen allows P vs → holds vs → step P ≢ None
  -- where its own cells are single, they stay if the relation holds
  pub stays : (P : List C) (vs : List V) → Chosen allows P vs → Single height names P → holds vs → step P ≡ Some P
  -- and only then: it contradicts otherwise
  pub exact : (P P' : List C) (vs : List V) → Chosen allows P vs → Single height names P → step P ≡ Some P' → holds vs
