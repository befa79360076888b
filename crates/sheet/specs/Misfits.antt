-- What is first at fault in a statement, as the checks take it apart.
use Rattle.std.specs.Prelude.{◌≡◌, ℕ, Bool, true, false, Some, None, Ok, Err, Option, Result, nat_le, nat_lt}
use Rattle.fault.specs.declared.Fault.{Fault}
use Rattle.fault.specs.declared.Refusal.TheVariants.{ShortMemory, Full}
use Rattle.fault.specs.Refusals.{fault_of}
use Rattle.engine.specs.declared.field.Misfit.{Misfit}
use Rattle.engine.specs.declared.field.Reason.{Reason}
use Rattle.engine.specs.declared.field.Reason.TheVariants.{OutOfRange, NotDeclared, WrongKind, NotListed}
use Rattle.history.specs.Denials.{refuse_if, misfit_fault}

abbrev pub of_range : Reason → Bool
of_range OutOfRange = true
of_range NotDeclared = false
of_range WrongKind = false
of_range NotListed = false

-- is a number out of its range?
abbrev pub is_unranged : Option Misfit → Bool
is_unranged None = false
is_unranged (Some m) = of_range m.reason

-- the checks that follow where none is: 16, 9, and then what is at fault besides
abbrev pub late_denial : ℕ → ℕ → ℕ → Option Misfit → ℕ → Option Fault
late_denial n m line misfit spare = refuse_if (nat_lt spare n) (fault_of ShortMemory line 0) (refuse_if (nat_le 64 m) (fault_of Full line 0) (misfit_fault line misfit))

-- a check that is denied by this answers with the fault, and else lets pass
abbrev pub Denies : {X : Type 0} → Option Fault → Result X Fault → Type 0
Denies denial (Ok x) = denial ≡ None
Denies denial (Err f) = denial ≡ Some f
