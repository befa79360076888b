-- What a fixpoint answers, and what it starts from.
use Rattle.std.specs.Prelude.{◌≡◌, ℕ, ◌<◌, false, T, List, length, Some, Ok, Err, Result}
use Rattle.places.specs.Members.{has}
use Rattle.domain.specs.declared.kind.Domain as Domain
use Rattle.engine.specs.declared.propagator.Propagator as Propagator
use Rattle.engine.specs.declared.contradiction.Contradiction.{Contradiction}
use Rattle.engine.specs.Rows.{item}
use Rattle.meaning.specs.Resting.{Widest, NoneRests}

-- the set has rules of the list only
abbrev pub OfRules : {R : Type 0} → List R → ℕ → Type 0
OfRules rules set = (k : ℕ) → T (has k set) → k < length rules

module _ {C V T B R : Type 0} (kind : Domain.Ghosts C V T) (rule : Propagator.Ghosts R C B V T) (book : B) (rules : List R) where
  -- every rule that does not wait rests
  abbrev pub OthersRest : ℕ → List C → Type 0
  OthersRest waiting P = (k : ℕ) (r : R) → item rules k ≡ Some r → has k waiting ≡ false → rule.narrowed book r P ≡ Some P

  -- the bounds have come to the widest that rest; or there is a contradiction, where none rest
  abbrev pub Fixpoint : {X : Type 0} → List C → List C → Result X Contradiction → Type 0
  Fixpoint from out (Ok x) = Widest kind rule book rules from out
  Fixpoint from out (Err e) = NoneRests kind rule book rules from
