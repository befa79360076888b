-- Every history keeps the promise.
use Rattle.std.proofs.Common.{ℕ, ◌-◌, List, length, refl, ap, ◌∙◌}
use Rattle.domain.specs.declared.kind.Domain as Domain
use Rattle.domain.specs.declared.kind.Halves as Halves
use Rattle.engine.specs.declared.propagator.Propagator as Propagator
use Rattle.engine.specs.Rows.{item}
use Rattle.meaning.proofs.Laws.{LawfulHalves}
use Rattle.history.specs.declared.call.Call.{Call}
use Rattle.history.specs.declared.entered.Entered as Entered
use Rattle.history.specs.Told.{Told, Answer}
use Rattle.history.specs.Histories.{row_limit, History}
use Rattle.history.specs.Promise.{Promise}
use Rattle.history.proofs.Histories.{holds, few, moments, answerable}
use Rattle.history.proofs.Once.{one-standing, denied-exactly, contradicts, unchanged, once}
use Rattle.history.proofs.Alike.{bounds-alike, settles-alike, asks-alike}
use Rattle.history.proofs.Settled.{finds-first, none-exactly, ends-exactly, cuts-fewer}

module _ {C V T B R E : Type 0} {kind : Domain.Ghosts C V T} {halves : Halves.Ghosts C V T} {rule : Propagator.Ghosts R C B V T}
    (laws : (b : B) → LawfulHalves kind halves rule b) (entered : Entered.Ghosts E C B V T) where
  abbrev rows : Told B C R → ℕ → ℕ
  rows t long = row_limit long (length t.declared)

  pub promise : (b : B) (cs : List (Call E R)) (answers : List (Answer C)) (told : Told B C R) → History kind halves rule entered b cs answers told → Promise kind halves rule entered b cs answers
  promise b cs answers told h = record {
    told = told;
    history = h;
    once = λ others otherwise g. once laws entered h g refl;
    moments = moments laws entered h;
    answerable = answerable laws entered h;
    few = few laws entered h;
    stands = λ i c a t u m. let k = holds laws entered m.earlier in (k.0, k.1.stands, λ P w. one-standing laws entered t P k.0 w k.1.stands);
    denied-exactly = λ i c a t u m. denied-exactly laws entered t c a u m.answered;
    unchanged = λ i c a t u m. unchanged laws entered t c a u m.answered;
    contradicts = λ i line spare r a t u m. contradicts laws entered t u line spare r a m.answered;
    asks = λ i k p t u m Q w. let s = m.answered.1 in ap (λ P. item P (k - 1)) (one-standing laws entered t Q s.0 w s.1) ∙ s.2;
    bounds-alike = λ b₂ cs₂ answers₂ told₂ h₂ z. bounds-alike laws entered told told₂ z;
    asks-alike = λ i k a t u m b₂ cs₂ answers₂ j a₂ t₂ u₂ m₂ z. asks-alike laws entered t t₂ z k a a₂ u u₂ m.answered m₂.answered;
    finds-first = λ i line limit long cuts S t u m. finds-first laws entered t limit (rows t long) cuts S m.answered.1;
    none-exactly = λ i line limit long cuts e t u m. none-exactly laws entered t limit (rows t long) cuts e m.answered.1;
    ends-exactly = λ i line limit long cuts e t u m. ends-exactly laws entered t limit (rows t long) cuts e m.answered.1;
    settles-alike = λ i line limit long cuts e t u m b₂ cs₂ answers₂ j line₂ long₂ cuts₂ e₂ t₂ u₂ m₂ z q.
        settles-alike laws entered t t₂ z limit (rows t long) (rows t₂ long₂) cuts cuts₂ e e₂ q m.answered.1 m₂.answered.1;
    cuts-fewer = λ i line limit long cuts e t u m. cuts-fewer laws entered t limit (rows t long) cuts e m.answered.1;
  }
