-- The bounds of a group: all sets that have each sure bale, and possible bales only.
use Rattle.std.specs.Prelude.{◌≡◌, ℕ, Bool, true, false, ◌&&◌, Some, None, Option, refl}
use Rattle.std.proofs.Common.{eqb-true}
use Rattle.places.specs.Members.{Sub, union, intersection, minus, subset, count}
use Rattle.places.specs.Lowest.{lowest}
use Rattle.places.specs.Order.{Before}
use Rattle.places.proofs.Lowest.{with-lowest, without-lowest}
use Rattle.domain.specs.declared.bounds.BaleSet.{BaleSet}
use Rattle.domain.specs.declared.bounds.Group.{Group}
use Rattle.domain.specs.declared.bounds.GroupTell.{GroupTell}

abbrev pub GroupAllows : Group → BaleSet → Type 0
GroupAllows p v = Sub p.sure.bits v.places.bits × Sub v.places.bits p.possible.bits

abbrev pub group_sample : Group → BaleSet
group_sample p = record { places = p.possible }

abbrev pub group_inside : Group → Group → Bool
group_inside p q = subset q.sure.bits p.sure.bits && subset p.possible.bits q.possible.bits

-- the bales that are possible and not sure
abbrev pub undecided : Group → ℕ
undecided p = minus p.possible.bits p.sure.bits

abbrev pub group_height : Group → ℕ
group_height p = count (undecided p)

-- it has the bales of `gain`, and none but those of `keep`
abbrev pub GroupPasses : GroupTell → BaleSet → Type 0
GroupPasses t v = Sub t.gain.bits v.places.bits × Sub v.places.bits t.keep.bits

-- the bounds with the sure bales s and the possible ones p, as the test of s within p turns out
abbrev pub group_if : (s p : ℕ) (b : Bool) → subset s p ≡ b → Option Group
group_if s p true e = Some (record { sure = record { bits = s }; possible = record { bits = p }; ok = eqb-true _ _ e })
group_if s p false e = None

-- these bounds, or nothing where a sure bale is not possible
unfoldable pub group_of : ℕ → ℕ → Option Group
group_of s p = group_if s p (subset s p) refl

-- what is gained is sure too, and only what is kept stays possible
abbrev pub group_meet : GroupTell → Group → Option Group
group_meet t p = group_of (union p.sure.bits t.gain.bits) (intersection p.possible.bits t.keep.bits)

-- the set that has the lowest place in which two sets differ comes first
abbrev pub GroupBefore : BaleSet → BaleSet → Type 0
GroupBefore u v = Before u.places.bits v.places.bits

-- the lowest undecided bale becomes sure
abbrev pub group_first : Group → Group
group_first p = record {
  sure = record { bits = union p.sure.bits (lowest (undecided p)) };
  possible = p.possible;
  ok = with-lowest p.sure.bits p.possible.bits p.ok;
}

-- the lowest undecided bale is no more possible
abbrev pub group_second : Group → Group
group_second p = record {
  sure = p.sure;
  possible = record { bits = minus p.possible.bits (lowest (undecided p)) };
  ok = without-lowest p.sure.bits p.possible.bits p.ok;
}
