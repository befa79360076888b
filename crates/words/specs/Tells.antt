-- Bales in sets, the ends of a group, and what a group is told.
use Rattle.std.specs.Prelude.{ℕ, Bool}
use Rattle.places.specs.Members.{has}
use Rattle.domain.specs.declared.bounds.BaleSet.{BaleSet}
use Rattle.domain.specs.declared.bounds.Group.{Group}
use Rattle.domain.specs.declared.bounds.GroupTell.{GroupTell}

-- is the bale that has k bales before it on the list, the bale at place k + 1, in the set?
abbrev pub member : ℕ → BaleSet → Bool
member k a = has k a.places.bits

abbrev pub sure : Group → ℕ
sure a = a.sure.bits

abbrev pub possible : Group → ℕ
possible a = a.possible.bits

-- it gains the bales of the first set, and keeps only those of the second
abbrev pub told : ℕ → ℕ → GroupTell
told gain keep = record { gain = record { bits = gain }; keep = record { bits = keep } }
