-- Cells of the match sheet: groups of bales, and numbers.
use Rattle.std.specs.Prelude.{ℕ, Option}
use Rattle.domain.specs.declared.bounds.BaleSet.{BaleSet}
use Rattle.domain.specs.declared.bounds.Group.{Group}
use Rattle.domain.specs.declared.bounds.GroupTell.{GroupTell}
use Rattle.domain.specs.declared.bounds.Number.{Number}
use Rattle.domain.specs.declared.bounds.NumberTell.{NumberTell}
use Rattle.domain.specs.declared.mixed.Mixed.{Mixed}
use Rattle.domain.specs.declared.mixed.Either.{Either}
use Rattle.domain.specs.Mixes.{MixAllows, mix_height, MixPasses, mix_meet}
use Rattle.domain.specs.Groups.{GroupAllows, group_height, GroupPasses, group_meet}
use Rattle.domain.specs.Numbers.{NumberAllows, number_height, NumberPasses, number_meet}

abbrev pub Cell : Type 0
Cell = Mixed Group Number

abbrev pub Value : Type 0
Value = Either BaleSet ℕ

abbrev pub Tell : Type 0
Tell = Either GroupTell NumberTell

abbrev pub CellAllows : Cell → Value → Type 0
CellAllows = MixAllows GroupAllows NumberAllows

abbrev pub cell_height : Cell → ℕ
cell_height = mix_height group_height number_height

abbrev pub CellPasses : Tell → Value → Type 0
CellPasses = MixPasses GroupPasses NumberPasses

abbrev pub cell_meet : Tell → Cell → Option Cell
cell_meet = mix_meet group_meet number_meet
