-- The statements of the match sheet: of each word the cells that it names, its relation, its narrowing and its fields.
use Rattle.std.specs.Prelude.{ℕ, List, [], ◌∷◌, Option}
use Rattle.bales.specs.Lists.{closed_weights}
use Rattle.bales.specs.declared.list.ClosedList.{ClosedList}
use Rattle.domain.specs.declared.mixed.Either.TheVariants.{Right}
use Rattle.engine.specs.declared.field.Field.{Field}
use Rattle.engine.specs.Fits.{cell_fields}
use Rattle.engine.specs.Parts.{first_of, second_of, right_of}
use Rattle.engine.specs.Arity.{two_narrowed, TwoHold, three_narrowed, ThreeHold}
use Rattle.statements.specs.declared.statement.Statement.{Statement}
use Rattle.statements.specs.declared.statement.Statement.TheVariants.{Sub, Same, Apart, Union, Both, Less, Has, Lacks, Count, Weigh, Sum, Most}
use Rattle.words.specs.Cells.{Cell, Value, cell_meet}
use Rattle.words.specs.Fields.{field_at, two_fields, three_fields, place_field}
use Rattle.words.specs.GroupFields.{group_field, group_fields, scale_fields}
use Rattle.words.specs.Rows.{narrowed_one, HoldsOne, narrowed_two, HoldsTwo, narrowed_three, HoldsThree}
use Rattle.words.specs.Pairs.{sub_tells, SubHolds, same_tells, SameHolds, apart_tells, ApartHolds}
use Rattle.words.specs.Triples.{union_tells, UnionHolds, both_tells, BothHold, less_tells, LessHolds}
use Rattle.words.specs.Members.{has_tells, HasHolds, lacks_tells, LacksHolds}
use Rattle.amounts.specs.Scales.{count_tells, CountHolds, weigh_tells, WeighHolds, narrowed_scales, HoldsScales}
use Rattle.amounts.specs.Numbers.{sum_tells, SumHolds, most_tells, MostHolds}

-- the cells that it names
abbrev pub cells_of : Statement → List ℕ
cells_of (Sub w) = w.first ∷ (w.second ∷ [])
cells_of (Same w) = w.first ∷ (w.second ∷ [])
cells_of (Apart w) = w.first ∷ (w.second ∷ [])
cells_of (Union w) = w.first ∷ (w.second ∷ (w.third ∷ []))
cells_of (Both w) = w.first ∷ (w.second ∷ (w.third ∷ []))
cells_of (Less w) = w.first ∷ (w.second ∷ (w.third ∷ []))
cells_of (Has w) = w.cell ∷ []
cells_of (Lacks w) = w.cell ∷ []
cells_of (Count w) = w.first ∷ (w.second ∷ [])
cells_of (Weigh w) = w.first ∷ (w.second ∷ [])
cells_of (Sum w) = w.first ∷ (w.second ∷ (w.third ∷ []))
cells_of (Most w) = w.first ∷ (w.second ∷ [])

-- what it says of the values of a row
abbrev pub RelationOf : ClosedList → Statement → List Value → Type 0
RelationOf b (Sub w) = HoldsTwo SubHolds w.first w.second
RelationOf b (Same w) = HoldsTwo SameHolds w.first w.second
RelationOf b (Apart w) = HoldsTwo ApartHolds w.first w.second
RelationOf b (Union w) = HoldsThree UnionHolds w.first w.second w.third
RelationOf b (Both w) = HoldsThree BothHold w.first w.second w.third
RelationOf b (Less w) = HoldsThree LessHolds w.first w.second w.third
RelationOf b (Has w) = HoldsOne (HasHolds w.place) w.cell
RelationOf b (Lacks w) = HoldsOne (LacksHolds w.place) w.cell
RelationOf b (Count w) = HoldsScales CountHolds w.first w.second
RelationOf b (Weigh w) = HoldsScales (WeighHolds (closed_weights b)) w.first w.second
RelationOf b (Sum w) = ThreeHold right_of SumHolds w.first w.second w.third
RelationOf b (Most w) = TwoHold right_of right_of MostHolds w.first w.second

-- what it makes of a row
abbrev pub narrowing_of : ClosedList → Statement → List Cell → Option (List Cell)
narrowing_of b (Sub w) = narrowed_two sub_tells w.first w.second
narrowing_of b (Same w) = narrowed_two same_tells w.first w.second
narrowing_of b (Apart w) = narrowed_two apart_tells w.first w.second
narrowing_of b (Union w) = narrowed_three union_tells w.first w.second w.third
narrowing_of b (Both w) = narrowed_three both_tells w.first w.second w.third
narrowing_of b (Less w) = narrowed_three less_tells w.first w.second w.third
narrowing_of b (Has w) = narrowed_one (has_tells w.place) w.cell
narrowing_of b (Lacks w) = narrowed_one (lacks_tells w.place) w.cell
narrowing_of b (Count w) = narrowed_scales count_tells w.first w.second
narrowing_of b (Weigh w) = narrowed_scales (weigh_tells (closed_weights b)) w.first w.second
narrowing_of b (Sum w) = three_narrowed cell_meet second_of Right sum_tells w.first w.second w.third
narrowing_of b (Most w) = two_narrowed cell_meet second_of second_of Right Right most_tells w.first w.second

-- its fields as they stand to a row
abbrev pub fields_of : ClosedList → Statement → List Cell → List Field
fields_of b (Sub w) = group_fields 3 (w.first ∷ (w.second ∷ []))
fields_of b (Same w) = group_fields 3 (w.first ∷ (w.second ∷ []))
fields_of b (Apart w) = group_fields 3 (w.first ∷ (w.second ∷ []))
fields_of b (Union w) = group_fields 3 (w.first ∷ (w.second ∷ (w.third ∷ [])))
fields_of b (Both w) = group_fields 3 (w.first ∷ (w.second ∷ (w.third ∷ [])))
fields_of b (Less w) = group_fields 3 (w.first ∷ (w.second ∷ (w.third ∷ [])))
fields_of b (Has w) = λ P. group_field 3 w.cell P ∷ (place_field 4 w.place b ∷ [])
fields_of b (Lacks w) = λ P. group_field 3 w.cell P ∷ (place_field 4 w.place b ∷ [])
fields_of b (Count w) = scale_fields w.first w.second
fields_of b (Weigh w) = scale_fields w.first w.second
fields_of b (Sum w) = three_fields second_of w.first w.second w.third
fields_of b (Most w) = two_fields second_of second_of w.first w.second

-- the fields as its word has them: of what kind a cell past the end of the row is they leave open
abbrev pub word_fields : ClosedList → Statement → List Cell → List Field
word_fields b (Sub w) = two_fields first_of first_of w.first w.second
word_fields b (Same w) = two_fields first_of first_of w.first w.second
word_fields b (Apart w) = two_fields first_of first_of w.first w.second
word_fields b (Union w) = three_fields first_of w.first w.second w.third
word_fields b (Both w) = three_fields first_of w.first w.second w.third
word_fields b (Less w) = three_fields first_of w.first w.second w.third
word_fields b (Has w) = cell_fields (field_at first_of 3 w.cell ∷ []) (place_field 4 w.place b ∷ [])
word_fields b (Lacks w) = cell_fields (field_at first_of 3 w.cell ∷ []) (place_field 4 w.place b ∷ [])
word_fields b (Count w) = two_fields first_of second_of w.first w.second
word_fields b (Weigh w) = two_fields first_of second_of w.first w.second
word_fields b (Sum w) = three_fields second_of w.first w.second w.third
word_fields b (Most w) = two_fields second_of second_of w.first w.second
