-- What the answers of a search stand for.
use Rattle.std.specs.Prelude.{ℕ, ◌≤◌, ◌⊎◌, List, ◌≢◌}
use Rattle.domain.specs.declared.kind.Domain as Domain
use Rattle.domain.specs.declared.kind.Halves as Halves
use Rattle.engine.specs.declared.propagator.Propagator as Propagator
use Rattle.meaning.specs.Resting.{Widest, NoneRests}
use Rattle.meaning.specs.Search.{Ending, found, none, spent, deep, Seek, half}
use Rattle.solver.specs.declared.node.Limits.{Limits}
use Rattle.solver.specs.declared.node.Progress.{Progress}
use Rattle.solver.specs.declared.search.End.{End}
use Rattle.solver.specs.declared.search.End.TheVariants as E
use Rattle.solver.specs.declared.search.Settled.{Settled}
use Rattle.solver.specs.Fixpoint.{OthersRest}

-- the ending that an answer and the row at the return stand for
abbrev pub ending : {C : Type 0} → End → List C → Ending C
ending E.Found row = found row
ending E.None row = none
ending E.Spent row = spent
ending E.Deep row = deep

-- what a search answers that begins at a half: P is the half, Q is the row afterwards
pub record Sought {C V T B R : Type 0} (kind : Domain.Ghosts C V T) (halves : Halves.Ghosts C V T) (rule : Propagator.Ghosts R C B V T) (book : B) (rules : List R) (limits : Limits) (at : Progress) (waits : ℕ) (P Q : List C) (s : Settled) : Type 0 where
  pub few : s.cuts ≤ limits.cuts
  pub ended : OthersRest kind rule book rules waits P → Seek kind halves rule book rules limits.cuts limits.rows half at.cuts at.depth P (ending s.end Q) s.cuts
  -- unless something is found, the row stays as it came to rest
  pub kept : OthersRest kind rule book rules waits P → (s.end ≢ E.Found) → NoneRests kind rule book rules P ⊎ Widest kind rule book rules P Q
