-- Answers that may be nothing.
use Rattle.std.specs.Prelude.{◌≡◌, ◌⊎◌, Some, None, Option, refl}
use Rattle.std.proofs.Common.{sym, inl, inr}
use Rattle.std.proofs.lemmas.Option.{none-some, same_Some}
use Rattle.domain.specs.Mixes.{onto}

-- which of the two an answer is
pub answered : {X : Type 0} (o : Option X) → (o ≡ None) ⊎ ((x : X) × (o ≡ Some x))
answered None = inl refl
answered (Some x) = inr (x, refl)

pub onto-some : {X Y : Type 0} (f : X → Y) (o : Option X) (y : Y) → onto f o ≡ Some y → (x : X) × (o ≡ Some x) × (y ≡ f x)
onto-some f (Some x) y e = (x, refl, sym (same_Some _ _ e))
onto-some f None y e = absurd (none-some _ e)

pub onto-none : {X Y : Type 0} (f : X → Y) (o : Option X) → onto f o ≡ None → o ≡ None
onto-none f (Some x) e = absurd (none-some _ (sym e))
onto-none f None e = refl
