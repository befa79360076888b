-- Bounds at rest, and the widest of them within given bounds.
use Rattle.std.specs.Prelude.{◌≡◌, List, Some}
use Rattle.domain.specs.declared.kind.Domain as Domain
use Rattle.domain.specs.Counted.{In}
use Rattle.engine.specs.declared.propagator.Propagator as Propagator
use Rattle.engine.specs.Rows.{Inside}

-- of cells of any kind, any propagators over them, and the book that these read
module _ {C V T B R : Type 0} (kind : Domain.Ghosts C V T) (rule : Propagator.Ghosts R C B V T) (book : B) where
  -- bounds rest when no propagator narrows them: none alters them or meets a contradiction
  abbrev pub Rests : List R → List C → Type 0
  Rests rules P = (r : R) → In r rules → rule.narrowed book r P ≡ Some P

  -- the widest resting bounds within `from`: all other resting ones lie inside them, cell by cell
  pub record Widest (rules : List R) (from out : List C) : Type 0 where
    pub inside : Inside kind.allows out from
    pub rests : Rests rules out
    pub widest : (P : List C) → Inside kind.allows P from → Rests rules P → Inside kind.allows P out

  -- no bounds within `from` rest
  abbrev pub NoneRests : List R → List C → Type 0
  NoneRests rules from = (P : List C) → Inside kind.allows P from → Rests rules P → ⊥

-- each of the one is among the other
abbrev pub Among : {R : Type 0} → List R → List R → Type 0
Among {R} rules more = (r : R) → In r rules → In r more

-- the same, in whatever order and however often
abbrev pub SameRules : {R : Type 0} → List R → List R → Type 0
SameRules rules others = Among rules others × Among others rules
