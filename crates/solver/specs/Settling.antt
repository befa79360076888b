-- What `settle` answers, and what it leaves in the stack.
use Rattle.std.specs.Prelude.{◌≡◌, ℕ, ◌-◌, ◌/◌, ◌<◌, ◌≤◌, List, length, take, Some, None, Option, ◌≢◌}
use Rattle.domain.specs.declared.kind.Domain as Domain
use Rattle.domain.specs.declared.kind.Halves as Halves
use Rattle.engine.specs.declared.propagator.Propagator as Propagator
use Rattle.meaning.specs.Resting.{Rests}
use Rattle.meaning.specs.Search.{Searched}
use Rattle.solver.specs.declared.search.End.TheVariants.{Found}
use Rattle.solver.specs.declared.search.Settled.{Settled}
use Rattle.solver.specs.Endings.{ending}

-- how many rows there are above the root's, on a stack of so many cells: whole rows only
abbrev pub rows_above : ℕ → ℕ → ℕ
rows_above stack cells = stack / cells - 1

module _ {C V T B R : Type 0} (kind : Domain.Ghosts C V T) (halves : Halves.Ghosts C V T) (rule : Propagator.Ghosts R C B V T) (book : B) (rules : List R) (cells : List C) (cut_limit : ℕ) (before after : List C) where
  -- the stack has room for the cells, and has been searched on
  pub record SearchedOn (s : Settled) : Type 0 where
    pub room : length cells ≤ length before
    -- from cells that rest, this is the search, and what it found stands in the first row
    pub searched : Rests kind rule book rules cells → Searched kind halves rule book rules cut_limit (rows_above (length before) (length cells)) cells (ending s.end (take (length cells) after)) s.cuts
    -- if it found nothing, the cells stand there
    pub kept : Rests kind rule book rules cells → (s.end ≢ Found) → take (length cells) after ≡ cells
    -- no cells: nothing is written
    pub empty : length cells ≡ 0 → after ≡ before

  abbrev pub Settles : Option Settled → Type 0
  -- the stack is too short for the cells, and is as it was
  Settles None = (length before < length cells) × (after ≡ before)
  Settles (Some s) = SearchedOn s
