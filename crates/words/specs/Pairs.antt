-- The words over two groups, A and B: sub, same and apart.
use Rattle.std.specs.Prelude.{◌≡◌, ℕ, T}
use Rattle.places.specs.Members.{none, minus}
use Rattle.domain.specs.declared.bounds.BaleSet.{BaleSet}
use Rattle.domain.specs.declared.bounds.Group.{Group}
use Rattle.domain.specs.declared.bounds.GroupTell.{GroupTell}
use Rattle.words.specs.Tells.{member, sure, possible, told}

-- ---- sub: A within B

-- each bale of A is in B
abbrev pub SubHolds : BaleSet → BaleSet → Type 0
SubHolds a b = (k : ℕ) → T (member k a) → T (member k b)

-- A's possible bales keep only B's; B's sure bales gain A's
abbrev pub sub_tells : Group → Group → GroupTell × GroupTell
sub_tells a b = (told none (possible b), told (sure a) (possible b))

-- ---- same: A equals B

-- the bales of A are those of B
abbrev pub SameHolds : BaleSet → BaleSet → Type 0
SameHolds a b = (k : ℕ) → member k a ≡ member k b

-- the sure bales of both gain each other, and the possible bales of both keep only each other
abbrev pub same_tells : Group → Group → GroupTell × GroupTell
same_tells a b = (told (sure b) (possible b), told (sure a) (possible a))

-- ---- apart: no bale is in both

abbrev pub ApartHolds : BaleSet → BaleSet → Type 0
ApartHolds a b = (k : ℕ) → T (member k a) → T (member k b) → ⊥

-- A's possible bales lose B's sure ones; B's possible bales lose A's sure ones
abbrev pub apart_tells : Group → Group → GroupTell × GroupTell
apart_tells a b = (told none (minus (possible a) (sure b)), told none (minus (possible b) (sure a)))
