-- What a word over groups makes of a row, and what it says of the row's values. It lets a row be, and says nothing of it, where a cell that it
-- names is no group.
use Rattle.std.specs.Prelude.{ℕ, List, Option}
use Rattle.domain.specs.declared.bounds.BaleSet.{BaleSet}
use Rattle.domain.specs.declared.bounds.Group.{Group}
use Rattle.domain.specs.declared.bounds.GroupTell.{GroupTell}
use Rattle.domain.specs.declared.mixed.Either.TheVariants.{Left}
use Rattle.engine.specs.Parts.{first_of, left_of}
use Rattle.engine.specs.Arity.{one_narrowed, OneHolds, two_narrowed, TwoHold, three_narrowed, ThreeHold}
use Rattle.words.specs.Cells.{Cell, Value, cell_meet}

-- one group
abbrev pub narrowed_one : (Group → GroupTell) → ℕ → List Cell → Option (List Cell)
narrowed_one tells = one_narrowed cell_meet first_of Left tells

abbrev pub HoldsOne : (BaleSet → Type 0) → ℕ → List Value → Type 0
HoldsOne holds = OneHolds left_of holds

-- two groups
abbrev pub narrowed_two : (Group → Group → GroupTell × GroupTell) → ℕ → ℕ → List Cell → Option (List Cell)
narrowed_two tells = two_narrowed cell_meet first_of first_of Left Left tells

abbrev pub HoldsTwo : (BaleSet → BaleSet → Type 0) → ℕ → ℕ → List Value → Type 0
HoldsTwo holds = TwoHold left_of left_of holds

-- three groups
abbrev pub narrowed_three : (Group → Group → Group → GroupTell × GroupTell × GroupTell) → ℕ → ℕ → ℕ → List Cell → Option (List Cell)
narrowed_three tells = three_narrowed cell_meet first_of Left tells

abbrev pub HoldsThree : (BaleSet → BaleSet → BaleSet → Type 0) → ℕ → ℕ → ℕ → List Value → Type 0
HoldsThree holds = ThreeHold left_of holds
