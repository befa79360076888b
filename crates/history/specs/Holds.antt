-- What a sheet holds of what it has been told.
use Rattle.std.specs.Prelude.{List}
use Rattle.domain.specs.declared.kind.Domain as Domain
use Rattle.domain.specs.Counted.{In}
use Rattle.engine.specs.declared.propagator.Propagator as Propagator
use Rattle.engine.specs.Fits.{Fits}
use Rattle.meaning.specs.Resting.{Widest}
use Rattle.history.specs.Told.{Told}

-- each accepted statement fits the declared bounds, and these cells are the standing ones
pub record Holds {C V T B R : Type 0} (kind : Domain.Ghosts C V T) (rule : Propagator.Ghosts R C B V T) (t : Told B C R) (cells : List C) : Type 0 where
  pub fits : (r : R) → In r t.accepted → Fits (rule.fields t.book r) t.declared
  pub stands : Widest kind rule t.book t.accepted t.declared cells
