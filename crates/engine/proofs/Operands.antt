-- Propagators on lists of operands, and the rows that they make of rows: what is shown for operands is lifted to rows through these.
use Rattle.std.proofs.Common.{ℕ, List, [], ◌∷◌, map, Some, None, Option}
use Rattle.engine.specs.Rows.{item, Inside, Chosen, AllSingle}
use Rattle.engine.specs.Telling.{told_all}

-- ---- operands

abbrev pub both : {X : Type 0} → Option X → Option (List X) → Option (List X)
both None o = None
both (Some x) None = None
both (Some x) (Some xs) = Some (x ∷ xs)

-- the items at the places named; nothing where one is past the end
abbrev pub picked : {X : Type 0} → List X → List ℕ → Option (List X)
picked xs [] = Some []
picked xs (i ∷ is) = both (item xs i) (picked xs is)

-- ---- the propagator on rows

abbrev pub from_operands : {C K : Type 0} → (K → C → Option C) → (List C → List K) → List ℕ → List C → Option (List C) → Option (List C)
from_operands meet tells names P None = Some P
from_operands meet tells names P (Some xs) = told_all meet names (tells xs) P

-- Its narrowing: what the cells are told is worked out from the old bounds of the operands together. It lets a row be that ends before a
-- cell that it names.
abbrev pub row_narrowed : {C K : Type 0} → (K → C → Option C) → (List C → List K) → List ℕ → List C → Option (List C)
row_narrowed meet tells names P = from_operands meet tells names P (picked P names)

abbrev pub OfValues : {V : Type 0} → (List V → Type 0) → Option (List V) → Type 0
OfValues holds None = Unit {0}
OfValues holds (Some us) = holds us

-- its relation over the values of a row: nothing is said where the row ends before a cell that it names
abbrev pub RowHolds : {V : Type 0} → (List V → Type 0) → List ℕ → List V → Type 0
RowHolds holds names vs = OfValues holds (picked vs names)

-- ---- what is owed for operands

-- each operand's value passes what the operand is told
abbrev pub AllPass : {K V : Type 0} → (K → V → Type 0) → List K → List V → Type 0
AllPass passes [] us = Unit {0}
AllPass passes (t ∷ ts) [] = Unit {0}
AllPass passes (t ∷ ts) (u ∷ us) = passes t u × AllPass passes ts us

-- `tells` is what the operands are told from their bounds together, `holds` the relation over their values.
pub record OperandLaws {C V K : Type 0} (allows : C → V → Type 0) (height : C → ℕ) (passes : K → V → Type 0) (tells : List C → List K) (holds : List V → Type 0) : Type 0 where
  -- a choice that passes at narrower operands passes at wider ones
  pub monotone : (xs ys : List C) (us : List V) → Inside allows xs ys → Chosen allows xs us → AllPass passes (tells xs) us → AllPass passes (tells ys) us
  -- a choice that meets the relation passes
  pub keeps : (xs : List C) (us : List V) → Chosen allows xs us → holds us → AllPass passes (tells xs) us
  -- where all operands are single, the choice passes only if it meets the relation
  pub exact : (xs : List C) (us : List V) → Chosen allows xs us → AllSingle height xs → AllPass passes (tells xs) us → holds us

-- ---- operands of one kind in rows of several: `part` takes the kind out of a cell, `kin` the sort out of a value

-- all as of that kind; nothing where one is of another
abbrev pub parts : {C X : Type 0} → (C → Option X) → List C → Option (List X)
parts part [] = Some []
parts part (p ∷ ps) = both (part p) (parts part ps)

abbrev pub of_parts : {X J K : Type 0} → (J → K) → (List X → List J) → Option (List X) → List K
of_parts tell tells None = []
of_parts tell tells (Some xs) = map tell (tells xs)

-- nothing is told, and nothing said, where an operand is of another kind
abbrev pub part_tells : {C X J K : Type 0} → (C → Option X) → (J → K) → (List X → List J) → List C → List K
part_tells part tell tells ps = of_parts tell tells (parts part ps)

abbrev pub PartHolds : {V U : Type 0} → (V → Option U) → (List U → Type 0) → List V → Type 0
PartHolds kin holds vs = OfValues holds (parts kin vs)

-- ---- lists of one, two and three operands

abbrev pub told_one : {X J L : Type 0} → (J → L) → (X → J) → Option X → List L
told_one tell f None = []
told_one tell f (Some x) = tell (f x) ∷ []

abbrev pub one_tells : {C X J L : Type 0} → (C → Option X) → (J → L) → (X → J) → List C → List L
one_tells part tell f [] = []
one_tells part tell f (p ∷ []) = told_one tell f (part p)
one_tells part tell f (p ∷ (q ∷ qs)) = []

abbrev pub told_two : {X Y J K L : Type 0} → (J → L) → (K → L) → (X → Y → J × K) → Option X → Option Y → List L
told_two tell tell' f None o = []
told_two tell tell' f (Some x) None = []
told_two tell tell' f (Some x) (Some y) = tell (f x y).0 ∷ (tell' (f x y).1 ∷ [])

abbrev pub two_tells : {C X Y J K L : Type 0} → (C → Option X) → (C → Option Y) → (J → L) → (K → L) → (X → Y → J × K) → List C → List L
two_tells part part' tell tell' f [] = []
two_tells part part' tell tell' f (p ∷ []) = []
two_tells part part' tell tell' f (p ∷ (q ∷ [])) = told_two tell tell' f (part p) (part' q)
two_tells part part' tell tell' f (p ∷ (q ∷ (r ∷ rs))) = []

abbrev pub three_tells : {X J : Type 0} → (X → X → X → J × J × J) → List X → List J
three_tells f [] = []
three_tells f (x ∷ []) = []
three_tells f (x ∷ (y ∷ [])) = []
three_tells f (x ∷ (y ∷ (z ∷ []))) = (f x y z).0 ∷ ((f x y z).1 ∷ ((f x y z).2 ∷ []))
three_tells f (x ∷ (y ∷ (z ∷ (w ∷ ws)))) = []

abbrev pub HeldOne : {U : Type 0} → (U → Type 0) → Option U → Type 0
HeldOne holds None = Unit {0}
HeldOne holds (Some u) = holds u

abbrev pub OneHeld : {W U : Type 0} → (W → Option U) → (U → Type 0) → List W → Type 0
OneHeld kin holds [] = Unit {0}
OneHeld kin holds (v ∷ []) = HeldOne holds (kin v)
OneHeld kin holds (v ∷ (w ∷ ws)) = Unit {0}

abbrev pub HeldTwo : {U V : Type 0} → (U → V → Type 0) → Option U → Option V → Type 0
HeldTwo holds None o = Unit {0}
HeldTwo holds (Some u) None = Unit {0}
HeldTwo holds (Some u) (Some v) = holds u v

abbrev pub TwoHeld : {W U V : Type 0} → (W → Option U) → (W → Option V) → (U → V → Type 0) → List W → Type 0
TwoHeld kin kin' holds [] = Unit {0}
TwoHeld kin kin' holds (v ∷ []) = Unit {0}
TwoHeld kin kin' holds (v ∷ (w ∷ [])) = HeldTwo holds (kin v) (kin' w)
TwoHeld kin kin' holds (v ∷ (w ∷ (x ∷ xs))) = Unit {0}

abbrev pub ThreeHeld : {U : Type 0} → (U → U → U → Type 0) → List U → Type 0
ThreeHeld holds [] = Unit {0}
ThreeHeld holds (a ∷ []) = Unit {0}
ThreeHeld holds (a ∷ (b ∷ [])) = Unit {0}
ThreeHeld holds (a ∷ (b ∷ (c ∷ []))) = holds a b c
ThreeHeld holds (a ∷ (b ∷ (c ∷ (d ∷ ds)))) = Unit {0}
