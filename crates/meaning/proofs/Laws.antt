-- The laws that the theorems follow from, put together.
use Rattle.domain.specs.declared.kind.Domain as Domain
use Rattle.domain.specs.declared.kind.Halves as Halves
use Rattle.domain.specs.Laws.{BoundsLaws, HeightLaws, HalvesLaws}
use Rattle.engine.specs.declared.propagator.Propagator as Propagator
use Rattle.engine.specs.Laws.{NarrowingLaws, RelationLaws}
use Rattle.engine.specs.Fits.{FitLaws}

-- of a kind of cell, and of propagators that read this book
pub record Lawful {C V T B R : Type 0} (kind : Domain.Ghosts C V T) (rule : Propagator.Ghosts R C B V T) (book : B) : Type 0 where
  pub bounds : BoundsLaws kind.allows kind.sample kind.inside
  pub heights : HeightLaws kind.allows kind.height
  pub narrowing : (r : R) → NarrowingLaws kind.allows (rule.names r) (rule.narrowed book r)
  pub relation : (r : R) → RelationLaws kind.allows kind.height (rule.names r) (rule.holds book r) (rule.narrowed book r)
  pub fitting : (r : R) → FitLaws kind.allows (rule.names r) (rule.fields book r)

-- and of halves
pub record LawfulHalves {C V T B R : Type 0} (kind : Domain.Ghosts C V T) (halves : Halves.Ghosts C V T) (rule : Propagator.Ghosts R C B V T) (book : B) : Type 0 where
  pub lawful : Lawful kind rule book
  pub split : HalvesLaws kind.allows kind.height halves.before halves.first halves.second
