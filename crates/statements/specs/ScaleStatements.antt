-- The statements of the scale sheet, over numbers alone: the cells that each names, its relation, its narrowing and its fields.
use Rattle.std.specs.Prelude.{ℕ, List, [], ◌∷◌, Some, Option}
use Rattle.domain.specs.declared.bounds.Number.{Number}
use Rattle.domain.specs.Numbers.{number_meet}
use Rattle.engine.specs.declared.field.Field.{Field}
use Rattle.engine.specs.Arity.{two_narrowed, TwoHold, three_narrowed, ThreeHold}
use Rattle.statements.specs.declared.scale_statement.ScaleStatement.{ScaleStatement}
use Rattle.statements.specs.declared.scale_statement.ScaleStatement.TheVariants.{Sum, Most}
use Rattle.words.specs.Fields.{two_fields, three_fields}
use Rattle.amounts.specs.Numbers.{sum_tells, SumHolds, most_tells, MostHolds}

-- the cells that it names
abbrev pub cells_of : ScaleStatement → List ℕ
cells_of (Sum w) = w.first ∷ (w.second ∷ (w.third ∷ []))
cells_of (Most w) = w.first ∷ (w.second ∷ [])

-- what it says of the values of a row
abbrev pub RelationOf : ScaleStatement → List ℕ → Type 0
RelationOf (Sum w) = ThreeHold Some SumHolds w.first w.second w.third
RelationOf (Most w) = TwoHold Some Some MostHolds w.first w.second

-- what it makes of a row
abbrev pub narrowing_of : ScaleStatement → List Number → Option (List Number)
narrowing_of (Sum w) = three_narrowed number_meet Some (λ t. t) sum_tells w.first w.second w.third
narrowing_of (Most w) = two_narrowed number_meet Some Some (λ t. t) (λ t. t) most_tells w.first w.second

-- its fields as they stand to a row
abbrev pub fields_of : ScaleStatement → List Number → List Field
fields_of (Sum w) = three_fields Some w.first w.second w.third
fields_of (Most w) = two_fields Some Some w.first w.second
