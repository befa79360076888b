-- What the ending of a settle says of the whole matches, and of the choices.
use Rattle.std.proofs.Common.{◌≡◌, ℕ, ◌<◌, ◌≤◌, ◌↔◌, List, subst}
use Rattle.domain.specs.declared.kind.Domain as Domain
use Rattle.domain.specs.declared.kind.Halves as Halves
use Rattle.engine.specs.declared.propagator.Propagator as Propagator
use Rattle.meaning.specs.Matches.{WholeMatch, Only, FirstMatch, Choices}
use Rattle.meaning.specs.Search.{Ending, found, none, spent, deep}
use Rattle.meaning.specs.Theorems.{SearchTheorems}
use Rattle.meaning.proofs.Laws.{LawfulHalves}
use Rattle.meaning.proofs.Stands.{resting-theorems, search-theorems}
use Rattle.history.specs.declared.entered.Entered as Entered
use Rattle.history.specs.Told.{Told}
use Rattle.history.specs.Histories.{Standing, Settles}
use Rattle.history.proofs.Once.{settles-from, settles-once}

module _ {C V T B R E : Type 0} {kind : Domain.Ghosts C V T} {halves : Halves.Ghosts C V T} {rule : Propagator.Ghosts R C B V T}
    (laws : (b : B) → LawfulHalves kind halves rule b) (entered : Entered.Ghosts E C B V T) (t : Told B C R) (limit rows cuts : ℕ) where
  searches : SearchTheorems kind halves rule t.book
  searches = search-theorems (laws t.book)

  -- the whole matches within the declared bounds are those within the standing ones
  matches : (Q : List C) → Standing kind halves rule entered t Q → (vs : List V) →
      WholeMatch kind rule t.book t.accepted t.declared vs ↔ WholeMatch kind rule t.book t.accepted Q vs
  matches = (resting-theorems (laws t.book).lawful).same-matches t.accepted t.declared

  pub finds-first : (S : List C) → Settles kind halves rule entered t limit rows (found S) cuts →
      (vs : List V) × Only kind S vs × FirstMatch kind halves rule t.book t.accepted t.declared vs
  finds-first S s =
      let h = searches.finds t.accepted limit rows cuts s.0 S s.1.rests s.2 in (
        h.0,
        h.1,
        record {
          whole = (matches s.0 s.1 h.0).1 h.2.whole;
          first = λ ws m. h.2.first ws ((matches s.0 s.1 ws).0 m);
        },
      )

  module _ (e : Ending C) (s : Settles kind halves rule entered t limit rows e cuts) where
    pub none-exactly : (e ≡ spent → ⊥) → (e ≡ deep → ⊥) → (e ≡ none) ↔ ((vs : List V) → WholeMatch kind rule t.book t.accepted t.declared vs → ⊥)
    none-exactly a b =
        let h = searches.none-exactly t.accepted limit rows cuts s.0 e s.1.rests s.2 a b in
        (λ q vs m. h.0 q vs ((matches s.0 s.1 vs).0 m), λ n. h.1 (λ vs m. n vs ((matches s.0 s.1 vs).1 m)))

    pub ends-exactly : (f : Ending C) (n : ℕ) → Settles kind halves rule entered t limit rows f n ↔ ((e ≡ f) × (cuts ≡ n))
    ends-exactly f n = (
      λ y. settles-once laws entered t limit rows cuts n e f s y,
      λ q. subst (λ x. Settles kind halves rule entered t limit rows x n) q.0 (subst (λ x. Settles kind halves rule entered t limit rows e x) q.1 s),
    )

    pub cuts-fewer : (Q : List C) → Standing kind halves rule entered t Q → ((n : ℕ) × Choices kind halves Q n) × ((n : ℕ) → Choices kind halves Q n → cuts < n) × (cuts ≤ limit)
    cuts-fewer Q w =
        let y = settles-from laws entered t limit rows cuts e Q w s in
        (searches.counted Q, λ n c. searches.fewer t.accepted limit rows cuts n Q e y c, searches.limited t.accepted limit rows cuts Q e y)
