-- Cells of either of two kinds. All values of the first sort come before those of the second.
use Rattle.std.specs.Prelude.{ℕ, Bool, false, Some, None, Option}
use Rattle.domain.specs.declared.mixed.Mixed.{Mixed}
use Rattle.domain.specs.declared.mixed.Mixed.TheVariants.{First, Second}
use Rattle.domain.specs.declared.mixed.Either.{Either}
use Rattle.domain.specs.declared.mixed.Either.TheVariants.{Left, Right}

abbrev pub MixAllows : {P Q U V : Type 0} → (P → U → Type 0) → (Q → V → Type 0) → Mixed P Q → Either U V → Type 0
MixAllows f g (First a) (Left u) = f a u
MixAllows f g (First a) (Right v) = ⊥
MixAllows f g (Second b) (Left u) = ⊥
MixAllows f g (Second b) (Right v) = g b v

abbrev pub mix_sample : {P Q U V : Type 0} → (P → U) → (Q → V) → Mixed P Q → Either U V
mix_sample f g (First a) = Left (f a)
mix_sample f g (Second b) = Right (g b)

abbrev pub mix_inside : {P Q : Type 0} → (P → P → Bool) → (Q → Q → Bool) → Mixed P Q → Mixed P Q → Bool
mix_inside f g (First a) (First b) = f a b
mix_inside f g (First a) (Second b) = false
mix_inside f g (Second a) (First b) = false
mix_inside f g (Second a) (Second b) = g a b

abbrev pub mix_height : {P Q : Type 0} → (P → ℕ) → (Q → ℕ) → Mixed P Q → ℕ
mix_height f g (First a) = f a
mix_height f g (Second b) = g b

abbrev pub MixBefore : {U V : Type 0} → (U → U → Type 0) → (V → V → Type 0) → Either U V → Either U V → Type 0
MixBefore f g (Left u) (Left v) = f u v
MixBefore f g (Left u) (Right v) = Unit {0}
MixBefore f g (Right u) (Left v) = ⊥
MixBefore f g (Right u) (Right v) = g u v

abbrev pub mix_half : {P Q : Type 0} → (P → P) → (Q → Q) → Mixed P Q → Mixed P Q
mix_half f g (First a) = First (f a)
mix_half f g (Second b) = Second (g b)

-- what is told to the other kind is passed by each value, and lets the bounds be
abbrev pub MixPasses : {J K U V : Type 0} → (J → U → Type 0) → (K → V → Type 0) → Either J K → Either U V → Type 0
MixPasses f g (Left t) (Left u) = f t u
MixPasses f g (Left t) (Right v) = Unit {0}
MixPasses f g (Right t) (Left u) = Unit {0}
MixPasses f g (Right t) (Right v) = g t v

abbrev pub onto : {X Y : Type 0} → (X → Y) → Option X → Option Y
onto f (Some x) = Some (f x)
onto f None = None

abbrev pub mix_meet : {P Q J K : Type 0} → (J → P → Option P) → (K → Q → Option Q) → Either J K → Mixed P Q → Option (Mixed P Q)
mix_meet f g (Left t) (First a) = onto First (f t a)
mix_meet f g (Left t) (Second b) = Some (Second b)
mix_meet f g (Right t) (First a) = Some (First a)
mix_meet f g (Right t) (Second b) = onto Second (g t b)
