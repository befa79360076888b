-- The theorems, from the laws.
use Rattle.std.proofs.Common.{◌≡◌, ℕ, List, refl, arith}
use Rattle.domain.specs.declared.kind.Domain as Domain
use Rattle.domain.specs.declared.kind.Halves as Halves
use Rattle.engine.specs.declared.propagator.Propagator as Propagator
use Rattle.meaning.specs.Resting.{Rests}
use Rattle.meaning.specs.Matches.{WholeMatch}
use Rattle.meaning.specs.Search.{Ending, found, none, spent, deep, node, Seek}
use Rattle.meaning.specs.Theorems.{RestingTheorems, SearchTheorems}
use Rattle.meaning.proofs.Laws.{Lawful, LawfulHalves}
use Rattle.meaning.proofs.Resting.{widest-once, widest-same, none-same, widest-further, none-further, widest-added, some-or-none, match-kept, no-match, match-wider}
use Rattle.meaning.proofs.Halved.{choices-counted, choices-once}
use Rattle.meaning.proofs.Searches.{few-cuts, limited, spent-at, deep-at, none-matches, found-match, seek-same}
use Rattle.meaning.proofs.Endings.{seek-once, seek-ends}

pub resting-theorems : {C V T B R : Type 0} {kind : Domain.Ghosts C V T} {rule : Propagator.Ghosts R C B V T} {book : B} → Lawful kind rule book → RestingTheorems kind rule book
resting-theorems l = record {
  some-or-none = some-or-none l;
  one-widest = widest-once l;
  any-order = widest-same l;
  any-order-none = none-same l;
  further = widest-further l;
  further-none = none-further l;
  cell-added = widest-added l;
  same-matches = λ rules from standing w vs. (match-kept l rules from standing vs w, match-wider l rules from standing vs w.inside);
  no-match = no-match l;
}

module _ {C V T B R : Type 0} {kind : Domain.Ghosts C V T} {halves : Halves.Ghosts C V T} {rule : Propagator.Ghosts R C B V T} {book : B} (l : LawfulHalves kind halves rule book) where
  -- a search that is neither spent nor deep ends with none where there is no whole match
  none-where : (rules : List R) (cut_limit row_limit k d cuts : ℕ) (root : List C) (e : Ending C) → Rests kind rule book rules root → Seek kind halves rule book rules cut_limit row_limit node k d root e cuts →
      (e ≡ spent → ⊥) → (e ≡ deep → ⊥) → ((vs : List V) → WholeMatch kind rule book rules root vs → ⊥) → e ≡ none
  none-where rules cut_limit row_limit k d cuts root (found S) r t a b n = absurd (let h = found-match l rules cut_limit row_limit S t r in n h.0 h.2.whole)
  none-where rules cut_limit row_limit k d cuts root none r t a b n = refl
  none-where rules cut_limit row_limit k d cuts root spent r t a b n = absurd (a refl)
  none-where rules cut_limit row_limit k d cuts root deep r t a b n = absurd (b refl)

  pub search-theorems : SearchTheorems kind halves rule book
  search-theorems = record {
    ends = seek-ends l;
    once = λ rules cut_limit row_limit root e f cuts cuts' t u. seek-once l rules cut_limit row_limit t u;
    finds = λ rules cut_limit row_limit cuts root S r t. found-match l rules cut_limit row_limit S t r;
    none-exactly = λ rules cut_limit row_limit cuts root e r t a b. (none-matches l rules cut_limit row_limit t, none-where rules cut_limit row_limit 0 0 cuts root e r t a b);
    counted = choices-counted l;
    counted-once = choices-once l;
    fewer = λ rules cut_limit row_limit cuts n root e t c. let h = few-cuts l rules cut_limit row_limit t n c in omega arith;
    limited = λ rules cut_limit row_limit cuts root e t. limited l rules cut_limit row_limit t (omega arith);
    spent-at = λ rules cut_limit row_limit cuts root t. spent-at l rules cut_limit row_limit t refl;
    deep-at = λ rules cut_limit row_limit cuts root t. let h = deep-at l rules cut_limit row_limit t refl in (h.0, omega arith);
    any-order = λ rules others s cut_limit row_limit cuts root e t. seek-same l rules cut_limit row_limit others s t;
  }
