-- What is left of a row whose cells are told something.
use Rattle.std.specs.Prelude.{◌≡◌, ℕ, Bool, false, ◌||◌, List, [], ◌∷◌, Some, None, Option, ◌==◌, slice_set}
use Rattle.engine.specs.Rows.{item}

-- is the cell among those named?
abbrev pub named : List ℕ → ℕ → Bool
named [] j = false
named (i ∷ is) j = i == j || named is j

-- `f` of what there is
abbrev pub onward : {X Y : Type 0} → Option X → (X → Option Y) → Option Y
onward None f = None
onward (Some x) f = f x

abbrev pub put_in : {C : Type 0} → List C → ℕ → Option C → Option (List C)
put_in P i None = None
put_in P i (Some q) = Some (slice_set P i q)

abbrev pub told_cell : {C K : Type 0} → (K → C → Option C) → List C → ℕ → K → Option C → Option (List C)
told_cell meet P i t None = Some P
told_cell meet P i t (Some p) = put_in P i (meet t p)

-- the row with cell i told t: nothing where no value of the cell passes, and the row as it was where it ends before the cell
abbrev pub told_at : {C K : Type 0} → (K → C → Option C) → List C → ℕ → K → Option (List C)
told_at meet P i t = told_cell meet P i t (item P i)

-- the row with each named cell told what is for it; a cell named twice is told both
abbrev pub told_all : {C K : Type 0} → (K → C → Option C) → List ℕ → List K → List C → Option (List C)
told_all meet [] ts P = Some P
told_all meet (i ∷ is) [] P = Some P
told_all meet (i ∷ is) (t ∷ ts) P = onward (told_at meet P i t) (told_all meet is ts)

-- What cells are told one after another they are told together: it does not matter which comes first, of one cell or of several.
pub record TogetherLaws {C K : Type 0} (meet : K → C → Option C) : Type 0 where
  pub swapped : (i j : ℕ) (s t : K) (is : List ℕ) (ts : List K) (P : List C) → told_all meet (i ∷ (j ∷ is)) (s ∷ (t ∷ ts)) P ≡ told_all meet (j ∷ (i ∷ is)) (t ∷ (s ∷ ts)) P
  pub again : (i : ℕ) (t : K) (is : List ℕ) (ts : List K) (P : List C) → told_all meet (i ∷ (i ∷ is)) (t ∷ (t ∷ ts)) P ≡ told_all meet (i ∷ is) (t ∷ ts) P
