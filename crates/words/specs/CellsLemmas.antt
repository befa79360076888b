-- Cells of the match sheet show the laws of a domain, and groups and numbers sit in them.
use Rattle.domain.specs.declared.mixed.Either.TheVariants.{Left, Right}
use Rattle.domain.specs.Laws.{BoundsLaws, HeightLaws}
use Rattle.domain.specs.Tells.{TellLaws}
use Rattle.domain.specs.Mixes.{mix_sample, mix_inside}
use Rattle.domain.specs.Groups.{GroupAllows, group_sample, group_inside, group_height, GroupPasses}
use Rattle.domain.specs.Numbers.{NumberAllows, number_sample, number_inside, number_height, NumberPasses}
use Rattle.domain.specs.GroupsLemmas.{group-bounds, group-heights, group-tells}
use Rattle.domain.specs.NumbersLemmas.{number-bounds, number-heights, number-tells}
use Rattle.domain.specs.MixesLemmas.{mix-bounds, mix-heights, mix-tells}
use Rattle.engine.specs.Parts.{PartLaws, first_of, second_of, left_of, right_of}
use Rattle.engine.proofs.Sorts.{first-part, second-part}
use Rattle.words.specs.Cells.{CellAllows, cell_height, CellPasses, cell_meet}

pub cell-bounds : BoundsLaws CellAllows (mix_sample group_sample number_sample) (mix_inside group_inside number_inside)
cell-bounds = mix-bounds group-bounds number-bounds

pub cell-heights : HeightLaws CellAllows cell_height
cell-heights = mix-heights group-bounds number-bounds group-heights number-heights

pub cell-tells : TellLaws CellAllows CellPasses cell_meet
cell-tells = mix-tells group-tells number-tells

pub groups : PartLaws CellAllows cell_height CellPasses GroupAllows group_height GroupPasses first_of left_of Left Left
groups = first-part GroupAllows group_height GroupPasses NumberAllows number_height NumberPasses

pub numbers : PartLaws CellAllows cell_height CellPasses NumberAllows number_height NumberPasses second_of right_of Right Right
numbers = second-part GroupAllows group_height GroupPasses NumberAllows number_height NumberPasses
