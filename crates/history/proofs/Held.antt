-- What a sheet holds lasts: from a new sheet on, with each cell that it takes and each statement.
use Rattle.std.proofs.Common.{◌≡◌, ℕ, List, [], ◌∷◌, ◌++◌, length, None, sym, subst, inl, inr}
use Rattle.domain.specs.declared.kind.Domain as Domain
use Rattle.domain.proofs.Lists.{in-left, in-either}
use Rattle.engine.specs.declared.propagator.Propagator as Propagator
use Rattle.engine.specs.Fits.{Fits}
use Rattle.meaning.specs.Resting.{Widest, NoneRests}
use Rattle.meaning.proofs.Laws.{Lawful}
use Rattle.meaning.proofs.Stands.{resting-theorems}
use Rattle.history.specs.Told.{Told, fresh, with_cell, with_rule}
use Rattle.history.specs.Holds.{Holds}
use Rattle.history.specs.Denials.{state_denial}
use Rattle.history.proofs.Checks.{state-passed}

module _ {C V T B R : Type 0} {kind : Domain.Ghosts C V T} {rule : Propagator.Ghosts R C B V T} (laws : (b : B) → Lawful kind rule b) where
  pub holds-new : (b : B) → Holds kind rule (fresh b) []
  holds-new b = record { fits = λ r i. absurd i; stands = record { inside = tt; rests = λ r i. absurd i; widest = λ P a f. a } }

  pub holds-declared : (t : Told B C R) (cells : List C) (p : C) → Holds kind rule t cells → Holds kind rule (with_cell t p) (cells ++ (p ∷ []))
  holds-declared t cells p h = record {
    fits = λ r i. ((laws t.book).fitting r).added t.declared p (h.fits r i);
    stands = (resting-theorems (laws t.book)).cell-added t.accepted t.declared cells p h.fits h.stands;
  }

  module _ (t : Told B C R) (r : R) (cells : List C) (h : Holds kind rule t cells) where
    -- a statement that no check refuses fits, as those before it do
    pub holds-further : (line spare : ℕ) → state_denial (length t.declared) (length t.accepted) line (rule.fields t.book r t.declared) spare ≡ None →
        (Q : List C) → Widest kind rule t.book (t.accepted ++ (r ∷ [])) t.declared Q → Holds kind rule (with_rule t r) Q
    holds-further line spare e Q w = record {
      fits = λ x i. elim (in-either x t.accepted (r ∷ []) i) [
        | inl j ↦ h.fits x j
        | inr j ↦ elim j [
          | inl q ↦ subst (λ y. Fits (rule.fields t.book y) t.declared) (sym q)
              (state-passed (length t.declared) (length t.accepted) line (rule.fields t.book r t.declared) spare e).1
          | inr z ↦ absurd z
        ]
      ];
      stands = w;
    }

    -- and stands where the standing bounds are narrowed further
    pub holds-stated : (line spare : ℕ) → state_denial (length t.declared) (length t.accepted) line (rule.fields t.book r t.declared) spare ≡ None →
        (Q : List C) → Widest kind rule t.book (t.accepted ++ (r ∷ [])) cells Q → Holds kind rule (with_rule t r) Q
    holds-stated line spare e Q w = holds-further line spare e Q
        (((resting-theorems (laws t.book)).further t.accepted (t.accepted ++ (r ∷ [])) (λ x i. in-left x t.accepted (r ∷ []) i) t.declared cells Q h.stands).0 w)

    -- nothing is left within the declared bounds where nothing is within the standing ones
    pub nothing-left : NoneRests kind rule t.book (t.accepted ++ (r ∷ [])) cells → NoneRests kind rule t.book (t.accepted ++ (r ∷ [])) t.declared
    nothing-left n =
        ((resting-theorems (laws t.book)).further-none t.accepted (t.accepted ++ (r ∷ [])) (λ x i. in-left x t.accepted (r ∷ []) i) t.declared cells h.stands).0 n
