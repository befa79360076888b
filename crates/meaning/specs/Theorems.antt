-- What follows from the laws of kinds and of propagators, for all of them at once.
use Rattle.std.specs.Prelude.{◌≡◌, ℕ, ◌<◌, ◌≤◌, ◌⊎◌, ◌↔◌, List, [], ◌∷◌, ◌++◌, ◌≢◌}
use Rattle.domain.specs.declared.kind.Domain as Domain
use Rattle.domain.specs.declared.kind.Halves as Halves
use Rattle.domain.specs.Counted.{In}
use Rattle.engine.specs.declared.propagator.Propagator as Propagator
use Rattle.engine.specs.Fits.{Fits}
use Rattle.meaning.specs.Resting.{Rests, Widest, NoneRests, Among, SameRules}
use Rattle.meaning.specs.Matches.{WholeMatch, Only, FirstMatch, Choices}
use Rattle.meaning.specs.Search.{Ending, found, none, spent, deep, Searched}

-- Of resting bounds. No order of values is asked for.
pub record RestingTheorems {C V T B R : Type 0} (kind : Domain.Ghosts C V T) (rule : Propagator.Ghosts R C B V T) (book : B) : Type 0 where
  -- within any bounds there are widest resting ones, or none rest
  pub some-or-none : (rules : List R) (from : List C) → ((out : List C) × Widest kind rule book rules from out) ⊎ NoneRests kind rule book rules from
  -- there is but one widest
  pub one-widest : (rules : List R) (from out other : List C) → Widest kind rule book rules from out → Widest kind rule book rules from other → out ≡ other
  -- the order of the rules has no part, nor whether one is there twice
  pub any-order : (rules others : List R) → SameRules rules others → (from out : List C) → Widest kind rule book rules from out → Widest kind rule book others from out
  pub any-order-none : (rules others : List R) → SameRules rules others → (from : List C) → NoneRests kind rule book rules from → NoneRests kind rule book others from
  -- further rules make of the standing bounds what they make of the declared ones
  pub further : (rules more : List R) → Among rules more → (from standing out : List C) → Widest kind rule book rules from standing → Widest kind rule book more standing out ↔ Widest kind rule book more from out
  pub further-none : (rules more : List R) → Among rules more → (from standing : List C) → Widest kind rule book rules from standing → NoneRests kind rule book more standing ↔ NoneRests kind rule book more from
  -- a cell that is added stands as it was declared, and lets the others be
  pub cell-added : (rules : List R) (from out : List C) (p : C) → ((r : R) → In r rules → Fits (rule.fields book r) from) →
      Widest kind rule book rules from out → Widest kind rule book rules (from ++ (p ∷ [])) (out ++ (p ∷ []))
  -- the whole matches are those within the standing bounds; where nothing rests there is none
  pub same-matches : (rules : List R) (from standing : List C) → Widest kind rule book rules from standing → (vs : List V) → WholeMatch kind rule book rules from vs ↔ WholeMatch kind rule book rules standing vs
  pub no-match : (rules : List R) (from : List C) → NoneRests kind rule book rules from → (vs : List V) → WholeMatch kind rule book rules from vs → ⊥

-- Of searches from bounds that rest.
pub record SearchTheorems {C V T B R : Type 0} (kind : Domain.Ghosts C V T) (halves : Halves.Ghosts C V T) (rule : Propagator.Ghosts R C B V T) (book : B) : Type 0 where
  -- every search ends, in one way and with one number of cuts
  pub ends : (rules : List R) (cut_limit row_limit : ℕ) (root : List C) → (e : Ending C) × (cuts : ℕ) × Searched kind halves rule book rules cut_limit row_limit root e cuts
  pub once : (rules : List R) (cut_limit row_limit : ℕ) (root : List C) (e f : Ending C) (cuts cuts' : ℕ) →
      Searched kind halves rule book rules cut_limit row_limit root e cuts → Searched kind halves rule book rules cut_limit row_limit root f cuts' → (e ≡ f) × (cuts ≡ cuts')
  -- what is found is the first whole match
  pub finds : (rules : List R) (cut_limit row_limit cuts : ℕ) (root S : List C) → Rests kind rule book rules root → Searched kind halves rule book rules cut_limit row_limit root (found S) cuts →
      (vs : List V) × Only kind S vs × FirstMatch kind halves rule book rules root vs
  -- neither spent nor deep, it ends with none exactly where there is no whole match
  pub none-exactly : (rules : List R) (cut_limit row_limit cuts : ℕ) (root : List C) (e : Ending C) → Rests kind rule book rules root → Searched kind halves rule book rules cut_limit row_limit root e cuts →
      (e ≢ spent) → (e ≢ deep) → (e ≡ none) ↔ ((vs : List V) → WholeMatch kind rule book rules root vs → ⊥)
  -- the choices can be counted, to one number only, and the cuts are fewer
  pub counted : (P : List C) → (n : ℕ) × Choices kind halves P n
  pub counted-once : (P : List C) (m n : ℕ) → Choices kind halves P m → Choices kind halves P n → m ≡ n
  pub fewer : (rules : List R) (cut_limit row_limit cuts n : ℕ) (root : List C) (e : Ending C) → Searched kind halves rule book rules cut_limit row_limit root e cuts → Choices kind halves root n → cuts < n
  -- never more cuts than the limit; spent at the limit, deep below it
  pub limited : (rules : List R) (cut_limit row_limit cuts : ℕ) (root : List C) (e : Ending C) → Searched kind halves rule book rules cut_limit row_limit root e cuts → cuts ≤ cut_limit
  pub spent-at : (rules : List R) (cut_limit row_limit cuts : ℕ) (root : List C) → Searched kind halves rule book rules cut_limit row_limit root spent cuts → cuts ≡ cut_limit
  pub deep-at : (rules : List R) (cut_limit row_limit cuts : ℕ) (root : List C) → Searched kind halves rule book rules cut_limit row_limit root deep cuts → (cuts < cut_limit) × (row_limit ≤ cuts)
  -- the order of the rules has no part
  pub any-order : (rules others : List R) → SameRules rules others → (cut_limit row_limit cuts : ℕ) (root : List C) (e : Ending C) →
      Searched kind halves rule book rules cut_limit row_limit root e cuts → Searched kind halves rule book others cut_limit row_limit root e cuts
