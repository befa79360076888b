-- Operands of one kind in rows of several kinds.
use Rattle.std.specs.Prelude.{◌≡◌, ℕ, Bool, List, Some, None, Option}
use Rattle.std.specs.Option.{is_some}
use Rattle.domain.specs.declared.mixed.Mixed.{Mixed}
use Rattle.domain.specs.declared.mixed.Mixed.TheVariants.{First, Second}
use Rattle.domain.specs.declared.mixed.Either.{Either}
use Rattle.domain.specs.declared.mixed.Either.TheVariants.{Left, Right}
use Rattle.engine.specs.Rows.{item}
use Rattle.engine.specs.Telling.{onward}

-- what stands at place i, as of its kind; nothing where it is of another kind, or past the end
abbrev pub operand : {C X : Type 0} → (C → Option X) → List C → ℕ → Option X
operand part P i = onward (item P i) part

-- is the cell of the kind?
abbrev pub of_kind : {C X : Type 0} → (C → Option X) → C → Bool
of_kind part p = is_some (part p)

-- How a kind of cell sits in another: `part` takes it out of a cell and `kin` its sort out of a value, `value` and `tell` put values and what is
-- told back in.
pub record PartLaws {C V K X U J : Type 0} (allows : C → V → Type 0) (height : C → ℕ) (passes : K → V → Type 0)
    (allows' : X → U → Type 0) (height' : X → ℕ) (passes' : J → U → Type 0)
    (part : C → Option X) (kin : V → Option U) (value : U → V) (tell : J → K) : Type 0 where
  pub value-kin : (u : U) → kin (value u) ≡ Some u
  -- cells of the kind allow values of its sort, as their parts do; others allow none of them
  pub some : (p : C) (x : X) (v : V) → part p ≡ Some x → allows p v → (u : U) × (kin v ≡ Some u) × allows' x u
  pub none : (p : C) (v : V) → part p ≡ None → allows p v → kin v ≡ None
  pub whole : (p : C) (x : X) (u : U) → part p ≡ Some x → allows' x u → allows p (value u)
  -- they are single where their parts are
  pub single : (p : C) (x : X) → part p ≡ Some x → height p ≡ 0 → height' x ≡ 0
  -- a value passes what a part is told exactly as the part's value does
  pub pass : (t : J) (v : V) (u : U) → kin v ≡ Some u → passes' t u → passes (tell t) v
  pub passed : (t : J) (v : V) (u : U) → kin v ≡ Some u → passes (tell t) v → passes' t u

-- ---- the kinds of a mixed cell, and the sorts of its values

abbrev pub first_of : {A B : Type 0} → Mixed A B → Option A
first_of (First a) = Some a
first_of (Second b) = None

abbrev pub second_of : {A B : Type 0} → Mixed A B → Option B
second_of (First a) = None
second_of (Second b) = Some b

abbrev pub left_of : {U V : Type 0} → Either U V → Option U
left_of (Left u) = Some u
left_of (Right v) = None

abbrev pub right_of : {U V : Type 0} → Either U V → Option V
right_of (Left u) = None
right_of (Right v) = Some v
