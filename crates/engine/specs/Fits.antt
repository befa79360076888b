-- Whether a propagator fits a row of cells, and what is first at fault where it does not.
use Rattle.std.specs.Prelude.{◌≡◌, ℕ, ◌<◌, Bool, true, false, List, [], ◌∷◌, ◌++◌, length, Some, None, Option}
use Rattle.engine.specs.declared.field.Field.{Field}
use Rattle.engine.specs.declared.field.Misfit.{Misfit}
use Rattle.engine.specs.declared.field.Reason.{Reason}
use Rattle.engine.specs.declared.field.Reason.TheVariants.{OutOfRange, NotDeclared, WrongKind, NotListed}
use Rattle.engine.specs.Rows.{item, Inside}

-- is the field free of this fault?
abbrev pub stands : Reason → Field → Bool
stands OutOfRange f = f.ranged
stands NotDeclared f = f.declared
stands WrongKind f = f.suited
stands NotListed f = f.listed

abbrev pub unless : Bool → Misfit → Option Misfit → Option Misfit
unless true m more = more
unless false m more = Some m

-- the first field at fault for one reason; what else there is, if none is
abbrev pub first_at_fault : Reason → List Field → Option Misfit → Option Misfit
first_at_fault r [] more = more
first_at_fault r (f ∷ fs) more = unless (stands r f) (record { reason = r; field = f.number }) (first_at_fault r fs more)

-- what is first at fault: numbers in range for all fields, then cells declared for all, then their kinds, then places listed
abbrev pub first_misfit : List Field → Option Misfit
first_misfit fs = first_at_fault OutOfRange fs (first_at_fault NotDeclared fs (first_at_fault WrongKind fs (first_at_fault NotListed fs None)))

-- nothing is at fault in the fields as they stand to the row
abbrev pub Fits : {C : Type 0} → (List C → List Field) → List C → Type 0
Fits fields P = first_misfit (fields P) ≡ None

-- A fit lasts: what fits a row fits it with a cell added at its end, and narrowed. What fits names only cells of the row.
pub record FitLaws {C V : Type 0} (allows : C → V → Type 0) (names : ℕ → Bool) (fields : List C → List Field) : Type 0 where
  pub added : (P : List C) (p : C) → Fits fields P → Fits fields (P ++ (p ∷ []))
  pub narrowed : (P Q : List C) → Inside allows Q P → Fits fields P → Fits fields Q
  pub within : (P : List C) → Fits fields P → (i : ℕ) → names i ≡ true → i < length P

-- ---- fields that name cells

abbrev pub cell_field_of : {C : Type 0} → ℕ → Bool → (C → Bool) → Option C → Field
cell_field_of n ok right None = record { number = n; ranged = ok; declared = false; suited = true; listed = true }
cell_field_of n ok right (Some p) = record { number = n; ranged = ok; declared = true; suited = right p; listed = true }

-- field n names cell i: it is declared where the row has it, and of the right kind as `right` says; `ok` says whether its number is in range
abbrev pub cell_field : {C : Type 0} → ℕ → Bool → (C → Bool) → ℕ → List C → Field
cell_field n ok right i P = cell_field_of n ok right (item P i)

-- fields that name cells, each with n, ok, right and i, and then those that do not look at the row
abbrev pub cell_fields : {C : Type 0} → List (ℕ × Bool × (C → Bool) × ℕ) → List Field → List C → List Field
cell_fields [] fs P = fs
cell_fields (c ∷ cs) fs P = cell_field c.0 c.1 c.2 c.3 P ∷ cell_fields cs fs P

-- the cells that they name
abbrev pub cells_named : {C : Type 0} → List (ℕ × Bool × (C → Bool) × ℕ) → List ℕ
cells_named [] = []
cells_named (c ∷ cs) = c.3 ∷ cells_named cs
