-- Numbers alone as a kind in which numbers stand: the laws that the statements of the scale sheet rest on.
use Rattle.std.specs.Prelude.{Some}
use Rattle.domain.specs.Numbers.{NumberAllows, number_height, NumberPasses}
use Rattle.engine.specs.Parts.{PartLaws}
use Rattle.engine.proofs.Sorts.{whole-part}

pub alone : PartLaws NumberAllows number_height NumberPasses NumberAllows number_height NumberPasses Some Some (λ u. u) (λ t. t)
alone = whole-part NumberAllows number_height NumberPasses
