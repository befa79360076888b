-- The words over three groups, A, B and C: union, both and less.
use Rattle.std.specs.Prelude.{◌≡◌, ℕ, not, ◌&&◌, ◌||◌}
use Rattle.places.specs.Members.{union, intersection, minus}
use Rattle.domain.specs.declared.bounds.BaleSet.{BaleSet}
use Rattle.domain.specs.declared.bounds.Group.{Group}
use Rattle.domain.specs.declared.bounds.GroupTell.{GroupTell}
use Rattle.words.specs.Tells.{member, sure, possible, told}

-- ---- union: C is all of A and B

-- the bales of C are those that are in A or in B
abbrev pub UnionHolds : BaleSet → BaleSet → BaleSet → Type 0
UnionHolds a b c = (k : ℕ) → member k c ≡ (member k a || member k b)

-- A's sure bales gain C's outside B's possible ones, and B's gain C's outside A's possible ones; the possible bales of A and of B keep only
-- C's. C's sure bales gain A's and B's, and its possible ones keep what is in A's or B's
abbrev pub union_tells : Group → Group → Group → GroupTell × GroupTell × GroupTell
union_tells a b c = (
  told (minus (sure c) (possible b)) (possible c),
  told (minus (sure c) (possible a)) (possible c),
  told (union (sure a) (sure b)) (union (possible a) (possible b)),
)

-- ---- both: C is what A and B share

-- the bales of C are those that are in A and in B
abbrev pub BothHold : BaleSet → BaleSet → BaleSet → Type 0
BothHold a b c = (k : ℕ) → member k c ≡ (member k a && member k b)

-- the sure bales of A and of B gain C's; A's possible ones lose B's sure bales outside C's possible ones, and B's lose A's likewise. C's sure
-- bales gain what is in both A's and B's, and its possible ones keep what is in both A's and B's
abbrev pub both_tells : Group → Group → Group → GroupTell × GroupTell × GroupTell
both_tells a b c = (
  told (sure c) (minus (possible a) (minus (sure b) (possible c))),
  told (sure c) (minus (possible b) (minus (sure a) (possible c))),
  told (intersection (sure a) (sure b)) (intersection (possible a) (possible b)),
)

-- ---- less: C is A without B

-- the bales of C are those that are in A and not in B
abbrev pub LessHolds : BaleSet → BaleSet → BaleSet → Type 0
LessHolds a b c = (k : ℕ) → member k c ≡ (member k a && not (member k b))

-- A's sure bales gain C's, and its possible ones keep what is in B's or C's; B's sure bales gain A's outside C's possible ones, and its possible
-- ones lose C's sure ones. C's sure bales gain A's outside B's possible ones, and its possible ones keep A's outside B's sure ones
abbrev pub less_tells : Group → Group → Group → GroupTell × GroupTell × GroupTell
less_tells a b c = (
  told (sure c) (union (possible b) (possible c)),
  told (minus (sure a) (possible c)) (minus (possible b) (sure c)),
  told (minus (sure a) (possible b)) (minus (possible a) (sure b)),
)
