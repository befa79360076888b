-- What is first at fault is a number out of its range, or what is first at fault besides.
use Rattle.std.proofs.Common.{◌≡◌, ℕ, Bool, true, false, ◌⊎◌, List, [], ◌∷◌, Some, None, Option, sym, refl, ap, ◌∙◌, inl, inr, arith}
use Rattle.fault.specs.declared.Fault.{Fault}
use Rattle.engine.specs.declared.field.Field.{Field}
use Rattle.engine.specs.declared.field.Misfit.{Misfit}
use Rattle.engine.specs.declared.field.Reason.{Reason}
use Rattle.engine.specs.declared.field.Reason.TheVariants.{OutOfRange, NotDeclared, WrongKind, NotListed}
use Rattle.engine.specs.Fits.{stands, unless, first_at_fault, first_misfit}
use Rattle.history.specs.Denials.{or_else, out_of_range, out_of_place, misfit_fault, state_denial}
use Rattle.sheet.specs.Misfits.{of_range, is_unranged, late_denial}

false-true : {X : Type 0} → ◌≡◌ {A = Bool} false true → X
false-true e = let z : ◌≡◌ {A = ℕ} 0 1 = cc in absurd (omega arith)

-- ---- what is at fault for a reason other than range is not of range

unless-other : (b : Bool) (m : Misfit) (more : Option Misfit) → of_range m.reason ≡ false → is_unranged more ≡ false → is_unranged (unless b m more) ≡ false
unless-other true m more h e = e
unless-other false m more h e = h

other : (r : Reason) (fs : List Field) (more : Option Misfit) → of_range r ≡ false → is_unranged more ≡ false → is_unranged (first_at_fault r fs more) ≡ false
other r [] more h e = e
other r (f ∷ fs) more h e = unless-other (stands r f) (record { reason = r; field = f.number }) (first_at_fault r fs more) h (other r fs more h e)

besides : (fs : List Field) → is_unranged (out_of_place fs) ≡ false
besides fs = other NotDeclared fs (first_at_fault WrongKind fs (first_at_fault NotListed fs None)) refl (other WrongKind fs (first_at_fault NotListed fs None) refl (other NotListed fs None refl refl))

-- ---- nothing is out of range, and what else there is is first; or what is out of range is first

abbrev Parted : Option Misfit → Option Misfit → Option Misfit → Type 0
Parted ranged first more = ((ranged ≡ None) × (first ≡ more)) ⊎ ((ranged ≡ first) × (is_unranged first ≡ true))

unless-parted : (b : Bool) (m : Misfit) (ranged first more : Option Misfit) → of_range m.reason ≡ true → Parted ranged first more → Parted (unless b m ranged) (unless b m first) more
unless-parted true m ranged first more h p = p
unless-parted false m ranged first more h p = inr (refl, h)

parted : (fs : List Field) (more : Option Misfit) → Parted (out_of_range fs) (first_at_fault OutOfRange fs more) more
parted [] more = inl (refl, refl)
parted (f ∷ fs) more = unless-parted f.ranged (record { reason = OutOfRange; field = f.number }) (out_of_range fs) (first_at_fault OutOfRange fs more) more refl (parted fs more)

-- ---- so the checks of a statement need only what is first at fault

taken : (line : ℕ) (o : Option Misfit) (more : Option Fault) → is_unranged o ≡ true → misfit_fault line o ≡ or_else (misfit_fault line o) more
taken line None more e = false-true e
taken line (Some m) more e = refl

module _ (n m line : ℕ) (fs : List Field) (spare : ℕ) where
  early : is_unranged (first_misfit fs) ≡ true → misfit_fault line (first_misfit fs) ≡ state_denial n m line fs spare
  early e = elim (parted fs (out_of_place fs)) [
    | inl p ↦ false-true (sym (besides fs) ∙ ap is_unranged (sym p.1) ∙ e)
    | inr p ↦ taken line (first_misfit fs) (late_denial n m line (out_of_place fs) spare) e ∙ ap (λ o. or_else (misfit_fault line o) (late_denial n m line (out_of_place fs) spare)) (sym p.0)
  ]

  late : is_unranged (first_misfit fs) ≡ false → late_denial n m line (first_misfit fs) spare ≡ state_denial n m line fs spare
  late e = elim (parted fs (out_of_place fs)) [
    | inl p ↦ ap (λ o. late_denial n m line o spare) p.1 ∙ ap (λ o. or_else (misfit_fault line o) (late_denial n m line (out_of_place fs) spare)) (sym p.0)
    | inr p ↦ false-true (sym e ∙ p.1)
  ]

  pub early-denial : (o : Option Misfit) → o ≡ first_misfit fs → is_unranged o ≡ true → misfit_fault line o ≡ state_denial n m line fs spare
  early-denial o f e = ap (misfit_fault line) f ∙ early (ap is_unranged (sym f) ∙ e)

  pub late-denial : (o : Option Misfit) → o ≡ first_misfit fs → is_unranged o ≡ false → late_denial n m line o spare ≡ state_denial n m line fs spare
  late-denial o f e = ap (λ x. late_denial n m line x spare) f ∙ late (ap is_unranged (sym f) ∙ e)
