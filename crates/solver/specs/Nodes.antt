-- The cell to cut at a node of the search tree, or how the search ends there.
use Rattle.std.specs.Prelude.{◌≡◌, ℕ, ◌<◌, List, Some, None, Ok, Err, Option, Result}
use Rattle.engine.specs.Rows.{AllSingle}
use Rattle.meaning.specs.Search.{FirstOpen}
use Rattle.solver.specs.declared.node.Limits.{Limits}
use Rattle.solver.specs.declared.node.Progress.{Progress}
use Rattle.solver.specs.declared.search.End.{End}
use Rattle.solver.specs.declared.search.End.TheVariants as E

-- the first of these that holds of the row Q: all cells are single; the cuts made are the limit; the depth is the limit; cell i is the first not single
abbrev pub Looks : {C : Type 0} → (C → ℕ) → Limits → Progress → List C → Result ℕ End → Type 0
Looks height limits at Q (Err E.Found) = AllSingle height Q
Looks height limits at Q (Err E.None) = ⊥
Looks height limits at Q (Err E.Spent) = ((i : ℕ) × FirstOpen height Q i) × (at.cuts ≡ limits.cuts)
Looks height limits at Q (Err E.Deep) = ((i : ℕ) × FirstOpen height Q i) × (at.cuts < limits.cuts) × (at.depth ≡ limits.rows)
Looks height limits at Q (Ok i) = FirstOpen height Q i × (at.cuts < limits.cuts) × (at.depth < limits.rows)

-- the first cell that is not single, if there is one
abbrev pub Opens : {C : Type 0} → (C → ℕ) → List C → Option ℕ → Type 0
Opens height Q None = AllSingle height Q
Opens height Q (Some i) = FirstOpen height Q i
