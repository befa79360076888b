-- The search tree. Its nodes are given by the widest resting bounds, so that the order of propagators has no part in it.
use Rattle.std.specs.Prelude.{◌≡◌, ℕ, zero, suc, ◌+◌, ◌<◌, List, [], ◌∷◌, ◌≢◌}
use Rattle.domain.specs.declared.kind.Domain as Domain
use Rattle.domain.specs.declared.kind.Halves as Halves
use Rattle.engine.specs.declared.propagator.Propagator as Propagator
use Rattle.engine.specs.Rows.{AllSingle}
use Rattle.meaning.specs.Resting.{Widest, NoneRests}

-- the row with f of its cell i put in
abbrev pub change : {C : Type 0} → (C → C) → List C → ℕ → List C
change f [] i = []
change f (p ∷ ps) zero = f p ∷ ps
change f (p ∷ ps) (suc i) = p ∷ change f ps i

-- i is the lowest cell of the row that is not single
abbrev pub FirstOpen : {C : Type 0} → (C → ℕ) → List C → ℕ → Type 0
FirstOpen height [] i = ⊥
FirstOpen height (p ∷ ps) zero = 0 < height p
FirstOpen height (p ∷ ps) (suc i) = (height p ≡ 0) × FirstOpen height ps i

-- how a search ends: with a row of single cells; with no child left; at the cut limit; at the row limit
pub data Ending (C : Type 0) : Type 0 where
  found : List C → Ending C
  none : Ending C
  spent : Ending C
  deep : Ending C

-- a node's bounds are at rest; a half is a node's bounds with one half of a cell put in, not yet at rest
pub data Stage : Type 0 where
  node : Stage
  half : Stage

module _ {C V T B R : Type 0} (kind : Domain.Ghosts C V T) (halves : Halves.Ghosts C V T) (rule : Propagator.Ghosts R C B V T) (book : B) (rules : List R) (cut_limit row_limit : ℕ) where
  -- Seek s k d P e c: from the bounds P at depth d, with k cuts made so far, the search ends in e with c cuts made.
  pub data Seek : Stage → ℕ → ℕ → List C → Ending C → ℕ → Type 0 where
    -- all cells are single: found
    all-single : {k d : ℕ} {Q : List C} → AllSingle kind.height Q → Seek node k d Q (found Q) k
    -- else, where the cuts made are the cut limit: spent
    no-cut-left : {k d : ℕ} (i : ℕ) {Q : List C} → FirstOpen kind.height Q i → k ≡ cut_limit → Seek node k d Q spent k
    -- else, where the depth is the row limit: deep
    no-row-left : {k d : ℕ} (i : ℕ) {Q : List C} → FirstOpen kind.height Q i → k < cut_limit → d ≡ row_limit → Seek node k d Q deep k
    -- else the lowest cell not single is cut, and the first half is searched; what ends there, other than with none, is the end
    in-first : {k d c : ℕ} (i : ℕ) {Q : List C} {e : Ending C} → FirstOpen kind.height Q i → k < cut_limit → d < row_limit →
        Seek half (k + 1) (d + 1) (change halves.first Q i) e c → (e ≢ none) → Seek node k d Q e c
    -- and if the first half ends with none, the second is searched
    in-second : {k d m c : ℕ} (i : ℕ) {Q : List C} {e : Ending C} → FirstOpen kind.height Q i → k < cut_limit → d < row_limit →
        Seek half (k + 1) (d + 1) (change halves.first Q i) none m → Seek half m (d + 1) (change halves.second Q i) e c → Seek node k d Q e c
    -- a half within which nothing rests is no child: turn back
    turn-back : {k d : ℕ} {P : List C} → NoneRests kind rule book rules P → Seek half k d P none k
    -- a child is the half taken to widest resting bounds
    child : {k d c : ℕ} {P Q : List C} {e : Ending C} → Widest kind rule book rules P Q → Seek node k d Q e c → Seek half k d P e c

  -- a whole search: from the root, at depth 0, with no cut made
  abbrev pub Searched : List C → Ending C → ℕ → Type 0
  Searched root e cuts = Seek node 0 0 root e cuts
