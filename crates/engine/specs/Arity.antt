-- Propagators of one, two and three operands: their narrowing and their relation on rows, and what they owe for their operands alone. The
-- operands are told what is worked out from their old bounds together.
use Rattle.std.specs.Prelude.{◌≡◌, ℕ, List, [], ◌∷◌, Some, None, Option}
use Rattle.domain.specs.Laws.{Within}
use Rattle.engine.specs.Telling.{told_all}
use Rattle.engine.specs.Parts.{operand}

-- ---- one operand

abbrev pub one_told : {C X J K : Type 0} → (K → C → Option C) → (J → K) → (X → J) → ℕ → List C → Option X → Option (List C)
one_told meet tell f a P None = Some P
one_told meet tell f a P (Some x) = told_all meet (a ∷ []) (tell (f x) ∷ []) P

-- the row with the operand told what `f` says; as it was where there is no such operand
abbrev pub one_narrowed : {C X J K : Type 0} → (K → C → Option C) → (C → Option X) → (J → K) → (X → J) → ℕ → List C → Option (List C)
one_narrowed meet part tell f a P = one_told meet tell f a P (operand part P a)

abbrev pub HoldsOne : {U : Type 0} → (U → Type 0) → Option U → Type 0
HoldsOne holds None = Unit {0}
HoldsOne holds (Some u) = holds u

-- the relation over a row's values; nothing is said where there is no such operand
abbrev pub OneHolds : {W U : Type 0} → (W → Option U) → (U → Type 0) → ℕ → List W → Type 0
OneHolds kin holds a vs = HoldsOne holds (operand kin vs a)

-- What passes at a narrower operand passes at a wider one; what meets the relation passes; at a single operand nothing else passes.
pub record OneLaws {X U J : Type 0} (allows : X → U → Type 0) (height : X → ℕ) (passes : J → U → Type 0) (f : X → J) (holds : U → Type 0) : Type 0 where
  pub monotone : (x x' : X) (a : U) → Within allows x x' → allows x a → passes (f x) a → passes (f x') a
  pub keeps : (x : X) (a : U) → allows x a → holds a → passes (f x) a
  pub exact : (x : X) (a : U) → allows x a → height x ≡ 0 → passes (f x) a → holds a

-- ---- two operands, each of a kind of its own

abbrev pub all_two : {X Y : Type 0} → Option X → Option Y → Option (X × Y)
all_two None p = None
all_two (Some x) None = None
all_two (Some x) (Some y) = Some (x, y)

abbrev pub two_told : {C X Y J K L : Type 0} → (L → C → Option C) → (J → L) → (K → L) → (X → Y → J × K) → ℕ → ℕ → List C → Option (X × Y) → Option (List C)
two_told meet tell tell' f a b P None = Some P
two_told meet tell tell' f a b P (Some t) = told_all meet (a ∷ (b ∷ [])) (tell (f t.0 t.1).0 ∷ (tell' (f t.0 t.1).1 ∷ [])) P

-- as for one operand: where one of them is not there, the row stays as it was
abbrev pub two_narrowed : {C X Y J K L : Type 0} → (L → C → Option C) → (C → Option X) → (C → Option Y) → (J → L) → (K → L) → (X → Y → J × K) → ℕ → ℕ → List C → Option (List C)
two_narrowed meet part part' tell tell' f a b P = two_told meet tell tell' f a b P (all_two (operand part P a) (operand part' P b))

abbrev pub HoldsTwo : {U V : Type 0} → (U → V → Type 0) → Option (U × V) → Type 0
HoldsTwo holds None = Unit {0}
HoldsTwo holds (Some t) = holds t.0 t.1

abbrev pub TwoHold : {W U V : Type 0} → (W → Option U) → (W → Option V) → (U → V → Type 0) → ℕ → ℕ → List W → Type 0
TwoHold kin kin' holds a b vs = HoldsTwo holds (all_two (operand kin vs a) (operand kin' vs b))

-- each operand's value passes what the operand is told
abbrev pub Two : {J K U V : Type 0} → (J → U → Type 0) → (K → V → Type 0) → J × K → U → V → Type 0
Two passes passes' t a b = passes t.0 a × passes' t.1 b

-- as for one operand, with both passing
pub record TwoLaws {X U J Y V K : Type 0} (allows : X → U → Type 0) (height : X → ℕ) (passes : J → U → Type 0) (allows' : Y → V → Type 0) (height' : Y → ℕ) (passes' : K → V → Type 0) (f : X → Y → J × K) (holds : U → V → Type 0) : Type 0 where
  pub monotone : (x : X) (y : Y) (x' : X) (y' : Y) (a : U) (b : V) → Within allows x x' → Within allows' y y' → allows x a → allows' y b → Two passes passes' (f x y) a b → Two passes passes' (f x' y') a b
  pub keeps : (x : X) (y : Y) (a : U) (b : V) → allows x a → allows' y b → holds a b → Two passes passes' (f x y) a b
  pub exact : (x : X) (y : Y) (a : U) (b : V) → allows x a → allows' y b → height x ≡ 0 → height' y ≡ 0 → Two passes passes' (f x y) a b → holds a b

-- ---- three operands of one kind

abbrev pub all_three : {X Y Z : Type 0} → Option X → Option Y → Option Z → Option (X × Y × Z)
all_three None p q = None
all_three (Some x) None q = None
all_three (Some x) (Some y) None = None
all_three (Some x) (Some y) (Some z) = Some (x, y, z)

abbrev pub three_told : {C X J K : Type 0} → (K → C → Option C) → (J → K) → (X → X → X → J × J × J) → ℕ → ℕ → ℕ → List C → Option (X × X × X) → Option (List C)
three_told meet tell f a b c P None = Some P
three_told meet tell f a b c P (Some t) =
    told_all meet (a ∷ (b ∷ (c ∷ []))) (tell (f t.0 t.1 t.2).0 ∷ (tell (f t.0 t.1 t.2).1 ∷ (tell (f t.0 t.1 t.2).2 ∷ []))) P

-- as for one operand
abbrev pub three_narrowed : {C X J K : Type 0} → (K → C → Option C) → (C → Option X) → (J → K) → (X → X → X → J × J × J) → ℕ → ℕ → ℕ → List C → Option (List C)
three_narrowed meet part tell f a b c P = three_told meet tell f a b c P (all_three (operand part P a) (operand part P b) (operand part P c))

abbrev pub HoldsThree : {U : Type 0} → (U → U → U → Type 0) → Option (U × U × U) → Type 0
HoldsThree holds None = Unit {0}
HoldsThree holds (Some t) = holds t.0 t.1 t.2

abbrev pub ThreeHold : {W U : Type 0} → (W → Option U) → (U → U → U → Type 0) → ℕ → ℕ → ℕ → List W → Type 0
ThreeHold kin holds a b c vs = HoldsThree holds (all_three (operand kin vs a) (operand kin vs b) (operand kin vs c))

abbrev pub Three : {J U : Type 0} → (J → U → Type 0) → J × J × J → U → U → U → Type 0
Three passes t a b c = passes t.0 a × passes t.1 b × passes t.2 c

-- as for one operand, with all three passing
pub record ThreeLaws {X U J : Type 0} (allows : X → U → Type 0) (height : X → ℕ) (passes : J → U → Type 0) (f : X → X → X → J × J × J) (holds : U → U → U → Type 0) : Type 0 where
  pub monotone : (x y z x' y' z' : X) (a b c : U) → Within allows x x' → Within allows y y' → Within allows z z' → allows x a → allows y b → allows z c → Three passes (f x y z) a b c → Three passes (f x' y' z') a b c
  pub keeps : (x y z : X) (a b c : U) → allows x a → allows y b → allows z c → holds a b c → Three passes (f x y z) a b c
  pub exact : (x y z : X) (a b c : U) → allows x a → allows y b → allows z c → height x ≡ 0 → height y ≡ 0 → height z ≡ 0 → Three passes (f x y z) a b c → holds a b c
