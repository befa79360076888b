-- Which calls are denied, each by the first check that fails.
use Rattle.std.specs.Prelude.{ℕ, ◌+◌, Bool, true, false, cond, not, ◌&&◌, List, Some, None, Ok, Err, Option, Result, ◌==◌, nat_le, nat_lt}
use Rattle.fault.specs.declared.Fault.{Fault}
use Rattle.fault.specs.declared.Refusal.{Refusal}
use Rattle.fault.specs.declared.Refusal.TheVariants as Refusals
use Rattle.fault.specs.Refusals.{fault_of}
use Rattle.engine.specs.declared.field.Field.{Field}
use Rattle.engine.specs.declared.field.Misfit.{Misfit}
use Rattle.engine.specs.declared.field.Reason.{Reason}
use Rattle.engine.specs.declared.field.Reason.TheVariants.{OutOfRange, NotDeclared, WrongKind, NotListed}
use Rattle.engine.specs.Fits.{first_at_fault}
use Rattle.history.specs.declared.entered.Barred.{Barred}
use Rattle.history.specs.declared.entered.Barred.TheVariants as Bars

-- refused where the test says so; else as the further checks say
abbrev pub refuse_if : Bool → Fault → Option Fault → Option Fault
refuse_if true f more = Some f
refuse_if false f more = more

abbrev pub or_else : Option Fault → Option Fault → Option Fault
or_else None more = more
or_else (Some f) more = Some f

-- ---- numbers

-- a cell's number is from 1 to 99
abbrev pub is_cell : ℕ → Bool
is_cell k = nat_le 1 k && nat_le k 99

-- 4 at a field whose number is out of its range
abbrev pub unranged_fault : ℕ → Option ℕ → Option Fault
unranged_fault line None = None
unranged_fault line (Some field) = Some (fault_of Refusals.BadNumber line field)

-- ---- bounds as entered: 11 at the first list with a place that is not on the ticket, 12 where they cross

abbrev pub barred_fault : {C : Type 0} → ℕ → Result C Barred → Option Fault
barred_fault line (Ok p) = None
barred_fault line (Err (Bars.NotListed field)) = Some (fault_of Refusals.NotOnTicket line field)
barred_fault line (Err Bars.Crossed) = Some (fault_of Refusals.Crossed line 0)

-- ---- the fields of a statement: 4, 13, 14 and 11

abbrev pub refusal_of : Reason → Refusal
refusal_of OutOfRange = Refusals.BadNumber
refusal_of NotDeclared = Refusals.NotDeclared
refusal_of WrongKind = Refusals.WrongKind
refusal_of NotListed = Refusals.NotOnTicket

-- a fault names fields up to 255, far more than a line has; a field past them is named as the last
abbrev pub nameable : ℕ → ℕ
nameable field = cond (nat_le field 255) field 255

abbrev pub misfit_fault : ℕ → Option Misfit → Option Fault
misfit_fault line None = None
misfit_fault line (Some m) = Some (fault_of (refusal_of m.reason) line (nameable m.field))

-- a number out of its range is found before all else
abbrev pub out_of_range : List Field → Option Misfit
out_of_range fs = first_at_fault OutOfRange fs None

-- then, over all fields each, cells not declared, cells of the wrong kind, places not on the ticket
abbrev pub out_of_place : List Field → Option Misfit
out_of_place fs = first_at_fault NotDeclared fs (first_at_fault WrongKind fs (first_at_fault NotListed fs None))

-- ---- the calls, where n cells are declared and m statements accepted

-- the cell numbered k, with bounds that are entered: 4, then 9 for the 25th cell, 8 where it is not the next, then 11 and 12
abbrev pub declare_denial : {C : Type 0} → ℕ → ℕ → ℕ → Option ℕ → Result C Barred → Option Fault
declare_denial n line k unranged admitted =
    refuse_if (not (is_cell k)) (fault_of Refusals.BadNumber line 2) (
    or_else (unranged_fault line unranged) (
    refuse_if (nat_le 24 n) (fault_of Refusals.Full line 0) (
    refuse_if (not (k == n + 1)) (fault_of Refusals.NotNext line 2) (
    barred_fault line admitted))))

-- a statement with these fields and a spare row of this length: 4, then 16, 9 for the 65th statement, then 13, 14 and 11
abbrev pub state_denial : ℕ → ℕ → ℕ → List Field → ℕ → Option Fault
state_denial n m line fields spare =
    or_else (misfit_fault line (out_of_range fields)) (
    refuse_if (nat_lt spare n) (fault_of Refusals.ShortMemory line 0) (
    refuse_if (nat_le 64 m) (fault_of Refusals.Full line 0) (
    misfit_fault line (out_of_place fields))))

-- the cell numbered k: 4, then 13
abbrev pub ask_denial : ℕ → ℕ → Option Fault
ask_denial n k =
    refuse_if (not (is_cell k)) (fault_of Refusals.BadNumber 0 2) (
    refuse_if (nat_lt n k) (fault_of Refusals.NotDeclared 0 2) (
    None))

-- a cut limit and a stack of this length: 4, then 16
abbrev pub settle_denial : ℕ → ℕ → ℕ → ℕ → Option Fault
settle_denial n line limit long =
    refuse_if (nat_lt 1000000 limit) (fault_of Refusals.BadNumber line 2) (
    refuse_if (nat_lt long n) (fault_of Refusals.ShortMemory line 0) (
    None))
