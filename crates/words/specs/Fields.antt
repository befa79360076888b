-- The fields of a statement as they stand to a row of cells and a closed list: cells that must be of a kind, and a place.
use Rattle.std.specs.Prelude.{ℕ, Bool, true, ◌&&◌, List, [], ◌∷◌, length, Option, nat_le, nat_lt}
use Rattle.bales.specs.Lists.{closed_weights}
use Rattle.bales.specs.declared.list.ClosedList.{ClosedList}
use Rattle.engine.specs.declared.field.Field.{Field}
use Rattle.engine.specs.Fits.{cell_fields}
use Rattle.engine.specs.Parts.{of_kind}

-- field n names cell i, counted from 0: there are no more than 99, it must be declared, and it must be of the kind that `part` takes out of a cell
abbrev pub field_at : {C X : Type 0} → (C → Option X) → ℕ → ℕ → ℕ × Bool × (C → Bool) × ℕ
field_at part n i = (n, nat_lt i 99, of_kind part, i)

-- the fields of a word over two cells, from field 3 on
abbrev pub two_fields : {C X Y : Type 0} → (C → Option X) → (C → Option Y) → ℕ → ℕ → List C → List Field
two_fields part part' i j = cell_fields (field_at part 3 i ∷ (field_at part' 4 j ∷ [])) []

-- the fields of a word over three cells
abbrev pub three_fields : {C X : Type 0} → (C → Option X) → ℕ → ℕ → ℕ → List C → List Field
three_fields part i j k = cell_fields (field_at part 3 i ∷ (field_at part 4 j ∷ (field_at part 5 k ∷ []))) []

-- a place from 1 to 99, which must be on the list
abbrev pub place_field : ℕ → ℕ → ClosedList → Field
place_field number place list = record { number = number; ranged = nat_le 1 place && nat_le place 99; declared = true; suited = true; listed = nat_le place (length (closed_weights list)) }
