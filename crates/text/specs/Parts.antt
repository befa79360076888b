-- A text cut at each separator.
use Rattle.std.specs.Prelude.{ℕ, List, [], ◌∷◌, ◌++◌, ◌==◌, ◌≢◌}
use Rattle.std.specs.List.{flat_map, slice_split}

-- the parts of a text between its separators, at least one
abbrev pub parts_of : ℕ → List ℕ → List (List ℕ)
parts_of sep s = slice_split (λ b. b == sep) s

-- the parts put together again, with the separator between them
abbrev pub rejoined : ℕ → List (List ℕ) → List ℕ
rejoined sep [] = []
rejoined sep (p ∷ ps) = p ++ flat_map (λ q. sep ∷ q) ps

-- the separator stands nowhere in the text
abbrev pub Lacks : ℕ → List ℕ → Type 0
Lacks sep [] = Unit {0}
Lacks sep (c ∷ cs) = (c ≢ sep) × Lacks sep cs

abbrev pub All : {X : Type 0} → (X → Type 0) → List X → Type 0
All P [] = Unit {0}
All P (x ∷ xs) = P x × All P xs
