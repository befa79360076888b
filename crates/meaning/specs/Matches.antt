-- Whole matches, book order, and how many choices of values there are.
use Rattle.std.specs.Prelude.{◌≡◌, ℕ, ◌*◌, ◌⊎◌, List, [], ◌∷◌}
use Rattle.domain.specs.declared.kind.Domain as Domain
use Rattle.domain.specs.declared.kind.Halves as Halves
use Rattle.domain.specs.Counted.{In, Counted}
use Rattle.engine.specs.declared.propagator.Propagator as Propagator
use Rattle.engine.specs.Rows.{Chosen}

-- book order: the first differs from the second at some cell, at the lowest such cell its value comes first
abbrev pub Earlier : {V : Type 0} → (V → V → Type 0) → List V → List V → Type 0
Earlier before [] ws = ⊥
Earlier before (v ∷ vs) [] = ⊥
Earlier before (v ∷ vs) (w ∷ ws) = before v w ⊎ ((v ≡ w) × Earlier before vs ws)

module _ {C V T B R : Type 0} (kind : Domain.Ghosts C V T) (rule : Propagator.Ghosts R C B V T) (book : B) where
  -- one value for each cell, within the bounds, that meets each relation
  pub record WholeMatch (rules : List R) (P : List C) (vs : List V) : Type 0 where
    pub within : Chosen kind.allows P vs
    pub meets : (r : R) → In r rules → rule.holds book r vs

-- the bounds allow these values and no others
pub record Only {C V T : Type 0} (kind : Domain.Ghosts C V T) (P : List C) (vs : List V) : Type 0 where
  pub allowed : Chosen kind.allows P vs
  pub alone : (ws : List V) → Chosen kind.allows P ws → ws ≡ vs

module _ {C V T B R : Type 0} (kind : Domain.Ghosts C V T) (halves : Halves.Ghosts C V T) (rule : Propagator.Ghosts R C B V T) (book : B) where
  -- a whole match that comes before every other one
  pub record FirstMatch (rules : List R) (P : List C) (vs : List V) : Type 0 where
    pub whole : WholeMatch kind rule book rules P vs
    pub first : (ws : List V) → WholeMatch kind rule book rules P ws → (ws ≡ vs) ⊎ Earlier halves.before vs ws

-- the product of how many values each cell allows is n
abbrev pub Choices : {C V T : Type 0} → Domain.Ghosts C V T → Halves.Ghosts C V T → List C → ℕ → Type 0
Choices kind halves [] n = n ≡ 1
Choices kind halves (p ∷ ps) n = (m : ℕ) × (k : ℕ) × Counted kind.allows halves.before p m × Choices kind halves ps k × (n ≡ m * k)
