-- The words over a group, A, and a place: has and lacks. A bale list has places from 1 to 64: of other places the words say nothing.
use Rattle.std.specs.Prelude.{ℕ, ◌≤◌, cond, ◌&&◌, T, nat_le}
use Rattle.places.specs.Members.{holds, none, one, minus}
use Rattle.domain.specs.declared.bounds.BaleSet.{BaleSet}
use Rattle.domain.specs.declared.bounds.Group.{Group}
use Rattle.domain.specs.declared.bounds.GroupTell.{GroupTell}
use Rattle.words.specs.Tells.{possible, told}

-- a place that a bale list can have
abbrev pub OnLists : ℕ → Type 0
OnLists place = (1 ≤ place) × (place ≤ 64)

-- the bale at the place alone; no bale where no list has the place
abbrev pub bale_at : ℕ → ℕ
bale_at place = cond (nat_le 1 place && nat_le place 64) (one place) none

-- ---- has: the bale is in A

abbrev pub HasHolds : ℕ → BaleSet → Type 0
HasHolds place a = OnLists place → T (holds place a.places.bits)

-- A's sure bales gain the place
abbrev pub has_tells : ℕ → Group → GroupTell
has_tells place a = told (bale_at place) (possible a)

-- ---- lacks: the bale is not in A

abbrev pub LacksHolds : ℕ → BaleSet → Type 0
LacksHolds place a = OnLists place → T (holds place a.places.bits) → ⊥

-- A's possible bales lose the place
abbrev pub lacks_tells : ℕ → Group → GroupTell
lacks_tells place a = told none (minus (possible a) (bale_at place))
