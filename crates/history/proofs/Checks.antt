-- What is known of a call that no check refuses.
use Rattle.std.proofs.Common.{◌≡◌, ℕ, ◌+◌, ◌-◌, ◌<◌, Bool, true, false, not, eqb, ltb, leb, List, [], ◌∷◌, Some, None, Ok, Err, Option, Result, sym, refl, ◌∙◌, arith}
use Rattle.std.proofs.lemmas.Bool.{not-false, and_parts, leb-true, leb-false, ltb-false}
use Rattle.fault.specs.declared.Fault.{Fault}
use Rattle.fault.specs.declared.Refusal.TheVariants as Refusals
use Rattle.fault.specs.Refusals.{fault_of}
use Rattle.std.proofs.lemmas.Option.{none-some}
use Rattle.engine.specs.declared.field.Field.{Field}
use Rattle.engine.specs.declared.field.Misfit.{Misfit}
use Rattle.engine.specs.declared.field.Reason.{Reason}
use Rattle.engine.specs.declared.field.Reason.TheVariants.{OutOfRange}
use Rattle.engine.specs.Fits.{stands, unless, first_at_fault, first_misfit}
use Rattle.history.specs.declared.entered.Barred.{Barred}
use Rattle.history.specs.declared.entered.Barred.TheVariants as Bars
use Rattle.history.specs.Denials.{refuse_if, or_else, is_cell, unranged_fault, barred_fault, misfit_fault, out_of_range, out_of_place, declare_denial, state_denial, ask_denial}

-- ---- one check after another

test-passed : (x : Bool) (f : Fault) (more : Option Fault) → refuse_if x f more ≡ None → (x ≡ false) × (more ≡ None)
test-passed true f more e = absurd (none-some _ (sym e))
test-passed false f more e = (refl, e)

both-passed : (o more : Option Fault) → or_else o more ≡ None → (o ≡ None) × (more ≡ None)
both-passed None more e = (refl, e)
both-passed (Some f) more e = absurd (none-some _ (sym e))

barred-passed : {C : Type 0} (line : ℕ) (o : Result C Barred) → barred_fault line o ≡ None → (p : C) × (o ≡ Ok p)
barred-passed line (Ok p) e = (p, refl)
barred-passed line (Err (Bars.NotListed field)) e = absurd (none-some _ (sym e))
barred-passed line (Err Bars.Crossed) e = absurd (none-some _ (sym e))

misfit-passed : (line : ℕ) (o : Option Misfit) → misfit_fault line o ≡ None → o ≡ None
misfit-passed line None e = refl
misfit-passed line (Some m) e = absurd (none-some _ (sym e))

-- where no field is at fault for one reason, what else there is comes first
fault-passed : (r : Reason) (fs : List Field) (more : Option Misfit) → first_at_fault r fs None ≡ None → first_at_fault r fs more ≡ more
fault-passed r [] more e = refl
fault-passed r (f ∷ fs) more e =
    let m : Misfit = record { reason = r; field = f.number } in
    elim (stands r f) as (λ b. unless b m (first_at_fault r fs None) ≡ None → unless b m (first_at_fault r fs more) ≡ more) [
      | true ↦ λ h. fault-passed r fs more h
      | false ↦ λ h. absurd (none-some _ (sym h))
    ] e

-- ---- the calls, where n cells are declared and m statements accepted

pub declare-passed : {C : Type 0} (n line k : ℕ) (unranged : Option ℕ) (o : Result C Barred) → declare_denial n line k unranged o ≡ None → (n < 24) × ((p : C) × (o ≡ Ok p))
declare-passed n line k unranged o e =
    let last = barred_fault line o in
    let next = refuse_if (not (eqb k (n + 1))) (fault_of Refusals.NotNext line 2) last in
    let room = refuse_if (leb 24 n) (fault_of Refusals.Full line 0) next in
    let a = (test-passed (not (is_cell k)) (fault_of Refusals.BadNumber line 2) (or_else (unranged_fault line unranged) room) e).1 in
    let b = (both-passed (unranged_fault line unranged) room a).1 in
    let c = test-passed (leb 24 n) (fault_of Refusals.Full line 0) next b in
    let d = (test-passed (not (eqb k (n + 1))) (fault_of Refusals.NotNext line 2) last c.1).1 in
    (leb-false 24 n c.0, barred-passed line o d)

pub state-passed : (n m line : ℕ) (fs : List Field) (spare : ℕ) → state_denial n m line fs spare ≡ None → (m < 64) × (first_misfit fs ≡ None)
state-passed n m line fs spare e =
    let last = misfit_fault line (out_of_place fs) in
    let full = refuse_if (leb 64 m) (fault_of Refusals.Full line 0) last in
    let short = refuse_if (ltb spare n) (fault_of Refusals.ShortMemory line 0) full in
    let a = both-passed (misfit_fault line (out_of_range fs)) short e in
    let b = (test-passed (ltb spare n) (fault_of Refusals.ShortMemory line 0) full a.1).1 in
    let c = test-passed (leb 64 m) (fault_of Refusals.Full line 0) last b in
    (leb-false 64 m c.0, fault-passed OutOfRange fs (out_of_place fs) (misfit-passed line (out_of_range fs) a.0) ∙ misfit-passed line (out_of_place fs) c.1)

pub ask-passed : (n k : ℕ) → ask_denial n k ≡ None → k - 1 < n
ask-passed n k e =
    let last = refuse_if (ltb n k) (fault_of Refusals.NotDeclared 0 2) None in
    let a = test-passed (not (is_cell k)) (fault_of Refusals.BadNumber 0 2) last e in
    let b = leb-true 1 k (and_parts (leb 1 k) (leb k 99) (not-false (is_cell k) a.0)).0 in
    let c = ltb-false n k (test-passed (ltb n k) (fault_of Refusals.NotDeclared 0 2) None a.1).0 in
    omega arith
