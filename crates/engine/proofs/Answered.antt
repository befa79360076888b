-- Answers made of answers that may be nothing.
use Rattle.std.proofs.Common.{◌≡◌, ℕ, zero, suc, List, ◌∷◌, Some, None, Option, sym, refl}
use Rattle.std.proofs.lemmas.Option.{none-some, same_Some}
use Rattle.engine.specs.Rows.{item}
use Rattle.engine.specs.Telling.{onward, put_in, told_cell, told_at}
use Rattle.engine.proofs.Operands.{both}

pub onward-some : {X Y : Type 0} (o : Option X) (f : X → Option Y) (y : Y) → onward o f ≡ Some y → (x : X) × (o ≡ Some x) × (f x ≡ Some y)
onward-some None f y e = absurd (none-some _ e)
onward-some (Some x) f y e = (x, refl, e)

pub both-some : {X : Type 0} (o : Option X) (os : Option (List X)) (ys : List X) → both o os ≡ Some ys → (x : X) × (xs : List X) × (o ≡ Some x) × (os ≡ Some xs) × (ys ≡ (x ∷ xs))
both-some None os ys e = absurd (none-some _ e)
both-some (Some x) None ys e = absurd (none-some _ e)
both-some (Some x) (Some xs) ys e = (x, xs, refl, refl, sym (same_Some _ _ e))

-- ---- telling one cell, by the place of the cell

abbrev pub headed : {C : Type 0} → Option C → List C → Option (List C)
headed None ps = None
headed (Some q) ps = Some (q ∷ ps)

abbrev pub tailed : {C : Type 0} → C → Option (List C) → Option (List C)
tailed p None = None
tailed p (Some ps) = Some (p ∷ ps)

module _ {C K : Type 0} (meet : K → C → Option C) where
  told-head : (p : C) (ps : List C) (o : Option C) → put_in (p ∷ ps) zero o ≡ headed o ps
  told-head p ps None = refl
  told-head p ps (Some q) = refl

  pub head-told : (p : C) (ps : List C) (k : K) → told_at meet (p ∷ ps) zero k ≡ headed (meet k p) ps
  head-told p ps k = told-head p ps (meet k p)

  told-tail : (p : C) (ps : List C) (i : ℕ) (o : Option C) → put_in (p ∷ ps) (suc i) o ≡ tailed p (put_in ps i o)
  told-tail p ps i None = refl
  told-tail p ps i (Some q) = refl

  pub tail-told : (p : C) (ps : List C) (i : ℕ) (k : K) → told_at meet (p ∷ ps) (suc i) k ≡ tailed p (told_at meet ps i k)
  tail-told p ps i k = elim (item ps i) as (λ o. told_cell meet (p ∷ ps) (suc i) k o ≡ tailed p (told_cell meet ps i k o)) [ None ↦ refl | Some q ↦ told-tail p ps i (meet k q) ]

pub headed-some : {C : Type 0} (o : Option C) (ps Q : List C) → headed o ps ≡ Some Q → (q : C) × (o ≡ Some q) × ((q ∷ ps) ≡ Q)
headed-some None ps Q e = absurd (none-some _ e)
headed-some (Some q) ps Q e = (q, refl, same_Some _ _ e)

pub headed-none : {C : Type 0} (o : Option C) (ps : List C) → headed o ps ≡ None → o ≡ None
headed-none None ps e = refl
headed-none (Some q) ps e = absurd (none-some _ (sym e))

pub tailed-some : {C : Type 0} (p : C) (o : Option (List C)) (Q : List C) → tailed p o ≡ Some Q → (qs : List C) × (o ≡ Some qs) × ((p ∷ qs) ≡ Q)
tailed-some p None Q e = absurd (none-some _ e)
tailed-some p (Some qs) Q e = (qs, refl, same_Some _ _ e)

pub tailed-none : {C : Type 0} (p : C) (o : Option (List C)) → tailed p o ≡ None → o ≡ None
tailed-none p None e = refl
tailed-none p (Some qs) e = absurd (none-some _ (sym e))
