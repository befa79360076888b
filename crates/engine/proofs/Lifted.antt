-- WHAT A PROPAGATOR OWES: from its laws on operands follow its laws on rows, for one, two and three operands.
use Rattle.std.proofs.Common.{◌≡◌, ℕ, Bool, List, [], ◌∷◌, Some, None, Option, refl, subst}
use Rattle.domain.specs.Laws.{BoundsLaws, HeightLaws}
use Rattle.domain.specs.Tells.{TellLaws}
use Rattle.engine.specs.Rows.{item}
use Rattle.engine.specs.Laws.{NarrowingLaws, RelationLaws}
use Rattle.engine.specs.Telling.{named, onward, told_all}
use Rattle.engine.specs.Parts.{PartLaws}
use Rattle.engine.specs.Arity.{one_told, one_narrowed, HoldsOne, OneHolds, OneLaws, all_two, two_told, two_narrowed, HoldsTwo, TwoHold, TwoLaws, all_three, three_told, three_narrowed, HoldsThree, ThreeHold, ThreeLaws}
use Rattle.engine.proofs.Operands.{both, from_operands, row_narrowed, OfValues, RowHolds, OperandLaws, of_parts, part_tells, PartHolds, told_one, one_tells, told_two, two_tells, three_tells, HeldOne, OneHeld, HeldTwo, TwoHeld, ThreeHeld}
use Rattle.engine.proofs.Lifting.{narrowing-lifted, relation-lifted}
use Rattle.engine.proofs.Parts.{part-word}
use Rattle.engine.proofs.Arity.{one-word, two-word, three-word}

-- laws carried to another way to write the same narrowing and the same relation
module _ {C V K : Type 0} {allows : C → V → Type 0} {inside : C → C → Bool} {sample : C → V} {height : C → ℕ} {passes : K → V → Type 0} {meet : K → C → Option C} {tells : List C → List K} {holds : List V → Type 0}
    (bounds : BoundsLaws allows sample inside) (heights : HeightLaws allows height) (told : TellLaws allows passes meet) (operands : OperandLaws allows height passes tells holds) (names : List ℕ)
    (step : List C → Option (List C)) (same : (P : List C) → row_narrowed meet tells names P ≡ step P) where
  narrowing-as : NarrowingLaws allows (named names) step
  narrowing-as = subst (NarrowingLaws allows (named names)) (λ i P. same P i) (narrowing-lifted bounds heights told operands names)

  relation-as : (relation : List V → Type 0) → ((vs : List V) → RowHolds holds names vs ≡ relation vs) → RelationLaws allows height (named names) relation step
  relation-as relation alike =
      subst (λ s. RelationLaws allows height (named names) relation s) (λ i P. same P i)
      (subst (λ h. RelationLaws allows height (named names) h (row_narrowed meet tells names)) (λ i vs. alike vs i) (relation-lifted bounds heights told operands names))

-- ---- one operand

module _ {C W K X U J : Type 0} {allows : C → W → Type 0} {inside : C → C → Bool} {sample : C → W} {height : C → ℕ} {passes : K → W → Type 0} {meet : K → C → Option C}
    {allows' : X → U → Type 0} {height' : X → ℕ} {passes' : J → U → Type 0} {part : C → Option X} {kin : W → Option U} {value : U → W} {tell : J → K} {f : X → J} {holds : U → Type 0}
    (bounds : BoundsLaws allows sample inside) (heights : HeightLaws allows height) (told : TellLaws allows passes meet)
    (kind : PartLaws allows height passes allows' height' passes' part kin value tell) (laws : OneLaws allows' height' passes' f holds) (a : ℕ) where
  as-one : (P : List C) (o : Option X) → told_all meet (a ∷ []) (told_one tell f o) P ≡ one_told meet tell f a P o
  as-one P None = refl
  as-one P (Some x) = refl

  read-one : (P : List C) (p : Option C) → from_operands meet (one_tells part tell f) (a ∷ []) P (both p (Some [])) ≡ one_told meet tell f a P (onward p part)
  read-one P None = refl
  read-one P (Some p) = as-one P (part p)

  held-one : (o : Option U) → HeldOne holds o ≡ HoldsOne holds o
  held-one None = refl
  held-one (Some u) = refl

  value-one : (v : Option W) → OfValues (OneHeld kin holds) (both v (Some [])) ≡ HoldsOne holds (onward v kin)
  value-one None = refl
  value-one (Some v) = held-one (kin v)

  pub one-narrowing : NarrowingLaws allows (named (a ∷ [])) (one_narrowed meet part tell f a)
  one-narrowing = narrowing-as bounds heights told (one-word kind laws) (a ∷ []) (one_narrowed meet part tell f a) (λ P. read-one P (item P a))

  pub one-relation : RelationLaws allows height (named (a ∷ [])) (OneHolds kin holds a) (one_narrowed meet part tell f a)
  one-relation = relation-as bounds heights told (one-word kind laws) (a ∷ []) (one_narrowed meet part tell f a) (λ P. read-one P (item P a)) (OneHolds kin holds a) (λ vs. value-one (item vs a))

-- ---- two operands

module _ {C W L X U J Y V K : Type 0} {allows : C → W → Type 0} {inside : C → C → Bool} {sample : C → W} {height : C → ℕ} {passes : L → W → Type 0} {meet : L → C → Option C}
    {allows' : X → U → Type 0} {height' : X → ℕ} {passes' : J → U → Type 0} {part : C → Option X} {kin : W → Option U} {value : U → W} {tell : J → L}
    {allows'' : Y → V → Type 0} {height'' : Y → ℕ} {passes'' : K → V → Type 0} {part' : C → Option Y} {kin' : W → Option V} {value' : V → W} {tell' : K → L}
    {f : X → Y → J × K} {holds : U → V → Type 0}
    (bounds : BoundsLaws allows sample inside) (heights : HeightLaws allows height) (told : TellLaws allows passes meet)
    (kind : PartLaws allows height passes allows' height' passes' part kin value tell) (kind' : PartLaws allows height passes allows'' height'' passes'' part' kin' value' tell')
    (laws : TwoLaws allows' height' passes' allows'' height'' passes'' f holds) (a b : ℕ) where
  as-two : (P : List C) (o : Option X) (o' : Option Y) → told_all meet (a ∷ (b ∷ [])) (told_two tell tell' f o o') P ≡ two_told meet tell tell' f a b P (all_two o o')
  as-two P None o' = refl
  as-two P (Some x) None = refl
  as-two P (Some x) (Some y) = refl

  no-second : (P : List C) (o : Option X) → Some P ≡ two_told meet tell tell' f a b P (all_two o None)
  no-second P None = refl
  no-second P (Some x) = refl

  read-two : (P : List C) (p q : Option C) → from_operands meet (two_tells part part' tell tell' f) (a ∷ (b ∷ [])) P (both p (both q (Some []))) ≡ two_told meet tell tell' f a b P (all_two (onward p part) (onward q part'))
  read-two P None q = refl
  read-two P (Some p) None = no-second P (part p)
  read-two P (Some p) (Some q) = as-two P (part p) (part' q)

  held-two : (o : Option U) (o' : Option V) → HeldTwo holds o o' ≡ HoldsTwo holds (all_two o o')
  held-two None o' = refl
  held-two (Some u) None = refl
  held-two (Some u) (Some v) = refl

  no-second-value : (o : Option U) → Unit {0} ≡ HoldsTwo holds (all_two o None)
  no-second-value None = refl
  no-second-value (Some u) = refl

  value-two : (v w : Option W) → OfValues (TwoHeld kin kin' holds) (both v (both w (Some []))) ≡ HoldsTwo holds (all_two (onward v kin) (onward w kin'))
  value-two None w = refl
  value-two (Some v) None = no-second-value (kin v)
  value-two (Some v) (Some w) = held-two (kin v) (kin' w)

  pub two-narrowing : NarrowingLaws allows (named (a ∷ (b ∷ []))) (two_narrowed meet part part' tell tell' f a b)
  two-narrowing = narrowing-as bounds heights told (two-word kind kind' laws) (a ∷ (b ∷ [])) (two_narrowed meet part part' tell tell' f a b) (λ P. read-two P (item P a) (item P b))

  pub two-relation : RelationLaws allows height (named (a ∷ (b ∷ []))) (TwoHold kin kin' holds a b) (two_narrowed meet part part' tell tell' f a b)
  two-relation =
      relation-as bounds heights told (two-word kind kind' laws) (a ∷ (b ∷ [])) (two_narrowed meet part part' tell tell' f a b) (λ P. read-two P (item P a) (item P b)) (TwoHold kin kin' holds a b)
      (λ vs. value-two (item vs a) (item vs b))

-- ---- three operands

module _ {C W K X U J : Type 0} {allows : C → W → Type 0} {inside : C → C → Bool} {sample : C → W} {height : C → ℕ} {passes : K → W → Type 0} {meet : K → C → Option C}
    {allows' : X → U → Type 0} {height' : X → ℕ} {passes' : J → U → Type 0} {part : C → Option X} {kin : W → Option U} {value : U → W} {tell : J → K}
    {f : X → X → X → J × J × J} {holds : U → U → U → Type 0}
    (bounds : BoundsLaws allows sample inside) (heights : HeightLaws allows height) (told : TellLaws allows passes meet)
    (kind : PartLaws allows height passes allows' height' passes' part kin value tell) (laws : ThreeLaws allows' height' passes' f holds) (a b c : ℕ) where
  abbrev cells : List ℕ
  cells = a ∷ (b ∷ (c ∷ []))

  as-three : (P : List C) (o o' o'' : Option X) → told_all meet cells (of_parts tell (three_tells f) (both o (both o' (both o'' (Some []))))) P ≡ three_told meet tell f a b c P (all_three o o' o'')
  as-three P None o' o'' = refl
  as-three P (Some x) None o'' = refl
  as-three P (Some x) (Some y) None = refl
  as-three P (Some x) (Some y) (Some z) = refl

  lacks-second : (P : List C) (o o'' : Option X) → Some P ≡ three_told meet tell f a b c P (all_three o None o'')
  lacks-second P None o'' = refl
  lacks-second P (Some x) o'' = refl

  lacks-third : (P : List C) (o o' : Option X) → Some P ≡ three_told meet tell f a b c P (all_three o o' None)
  lacks-third P None o' = refl
  lacks-third P (Some x) None = refl
  lacks-third P (Some x) (Some y) = refl

  read-three : (P : List C) (p q r : Option C) → from_operands meet (part_tells part tell (three_tells f)) cells P (both p (both q (both r (Some [])))) ≡ three_told meet tell f a b c P (all_three (onward p part) (onward q part) (onward r part))
  read-three P None q r = refl
  read-three P (Some p) None r = lacks-second P (part p) (onward r part)
  read-three P (Some p) (Some q) None = lacks-third P (part p) (part q)
  read-three P (Some p) (Some q) (Some r) = as-three P (part p) (part q) (part r)

  held-three : (o o' o'' : Option U) → OfValues (ThreeHeld holds) (both o (both o' (both o'' (Some [])))) ≡ HoldsThree holds (all_three o o' o'')
  held-three None o' o'' = refl
  held-three (Some u) None o'' = refl
  held-three (Some u) (Some v) None = refl
  held-three (Some u) (Some v) (Some w) = refl

  no-second-of-three : (o o'' : Option U) → Unit {0} ≡ HoldsThree holds (all_three o None o'')
  no-second-of-three None o'' = refl
  no-second-of-three (Some u) o'' = refl

  no-third-of-three : (o o' : Option U) → Unit {0} ≡ HoldsThree holds (all_three o o' None)
  no-third-of-three None o' = refl
  no-third-of-three (Some u) None = refl
  no-third-of-three (Some u) (Some v) = refl

  value-three : (u v w : Option W) → OfValues (PartHolds kin (ThreeHeld holds)) (both u (both v (both w (Some [])))) ≡ HoldsThree holds (all_three (onward u kin) (onward v kin) (onward w kin))
  value-three None v w = refl
  value-three (Some u) None w = no-second-of-three (kin u) (onward w kin)
  value-three (Some u) (Some v) None = no-third-of-three (kin u) (kin v)
  value-three (Some u) (Some v) (Some w) = held-three (kin u) (kin v) (kin w)

  pub three-narrowing : NarrowingLaws allows (named cells) (three_narrowed meet part tell f a b c)
  three-narrowing = narrowing-as bounds heights told (part-word kind (three-word laws)) cells (three_narrowed meet part tell f a b c) (λ P. read-three P (item P a) (item P b) (item P c))

  pub three-relation : RelationLaws allows height (named cells) (ThreeHold kin holds a b c) (three_narrowed meet part tell f a b c)
  three-relation =
      relation-as bounds heights told (part-word kind (three-word laws)) cells (three_narrowed meet part tell f a b c) (λ P. read-three P (item P a) (item P b) (item P c)) (ThreeHold kin holds a b c)
      (λ vs. value-three (item vs a) (item vs b) (item vs c))
