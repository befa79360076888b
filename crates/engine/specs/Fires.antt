-- What a firing answers, and what it leaves in the row.
use Rattle.std.specs.Prelude.{◌≡◌, ℕ, Bool, true, false, ◌||◌, List, Some, None, Option, Ok, Err, Result, ◌≢◌, slice_set}
use Rattle.engine.specs.declared.contradiction.Contradiction.{Contradiction}

-- `made` is what the propagator makes of the row `before`, and `after` is the row after the firing, which tells whether it changed the row; a
-- contradiction leaves the row as it was
abbrev pub Fires : {C : Type 0} → Option (List C) → List C → List C → Result Bool Contradiction → Type 0
Fires made before after (Ok false) = (made ≡ Some before) × (after ≡ before)
Fires made before after (Ok true) = (made ≡ Some after) × (after ≢ before)
Fires made before after (Err e) = (made ≡ None) × (after ≡ before)

-- two firings as one, the second after the first
abbrev pub both_fired : Result Bool Contradiction → Result Bool Contradiction → Result Bool Contradiction
both_fired (Ok first) (Ok second) = Ok (first || second)
both_fired (Ok first) (Err e) = Err e
both_fired (Err e) second = Err e

-- a cell has its old bounds again, if there is such a cell
abbrev pub restored : {C : Type 0} → List C → ℕ → Option C → List C
restored P i None = P
restored P i (Some p) = slice_set P i p

-- the row after both: where the second contradicts, what the first changed is restored
abbrev pub after_both : {C : Type 0} → Result Bool Contradiction → List C → ℕ → Option C → List C
after_both (Ok second) P i old = P
after_both (Err e) P i old = restored P i old
