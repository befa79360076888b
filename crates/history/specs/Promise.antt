-- What is promised of every history of calls to a new sheet.
use Rattle.std.specs.Prelude.{◌≡◌, ℕ, ◌-◌, ◌<◌, ◌≤◌, ◌⊎◌, ◌↔◌, List, length, Some, None, ◌≢◌}
use Rattle.fault.specs.declared.Fault.{Fault}
use Rattle.fault.specs.declared.Refusal.TheVariants.{Contradiction}
use Rattle.fault.specs.Refusals.{fault_of}
use Rattle.domain.specs.declared.kind.Domain as Domain
use Rattle.domain.specs.declared.kind.Halves as Halves
use Rattle.engine.specs.declared.propagator.Propagator as Propagator
use Rattle.engine.specs.Rows.{item}
use Rattle.meaning.specs.Matches.{WholeMatch, Only, FirstMatch, Choices}
use Rattle.meaning.specs.Search.{Ending, found, none, spent, deep}
use Rattle.history.specs.declared.call.Call.{Call}
use Rattle.history.specs.declared.call.Call.TheVariants.{State, Ask, Settle}
use Rattle.history.specs.declared.entered.Entered as Entered
use Rattle.history.specs.Told.{Told, Alike, Answer, denied, taken, shown, ended}
use Rattle.history.specs.Histories.{row_limit, Standing, NothingLeft, denial, Denied, Settles, Answers, History, Moment}

module _ {C V T B R E : Type 0} (kind : Domain.Ghosts C V T) (halves : Halves.Ghosts C V T) (rule : Propagator.Ghosts R C B V T) (entered : Entered.Ghosts E C B V T) where
  -- c at place i of these calls is answered a, between t and u
  abbrev At : (b : B) → List (Call E R) → List (Answer C) → ℕ → Call E R → Answer C → Told B C R → Told B C R → Type 0
  At = Moment kind halves rule entered

  -- Of the calls cs, made to a new sheet of the book b and answered by answers.
  pub record Promise (b : B) (cs : List (Call E R)) (answers : List (Answer C)) : Type 0 where
    -- the answers are those of a history, and no others would be
    pub told : Told B C R
    pub history : History kind halves rule entered b cs answers told
    pub once : (others : List (Answer C)) (otherwise : Told B C R) → History kind halves rule entered b cs others otherwise → (answers ≡ others) × (told ≡ otherwise)
    -- each call has its moment, and each further call its answer
    pub moments : (i : ℕ) → i < length cs → (c : Call E R) × (a : Answer C) × (t : Told B C R) × (u : Told B C R) × At b cs answers i c a t u
    pub answerable : (c : Call E R) → (a : Answer C) × (u : Told B C R) × Answers kind halves rule entered told c a u
    -- never more than 24 cells and 64 statements
    pub few : (length told.declared ≤ 24) × (length told.accepted ≤ 64)
    -- ---- a) what is denied, and what is shown

    -- at each moment there are standing bounds, and no others
    pub stands : (i : ℕ) (c : Call E R) (a : Answer C) (t u : Told B C R) → At b cs answers i c a t u →
        (Q : List C) × Standing kind halves rule entered t Q × ((P : List C) → Standing kind halves rule entered t P → P ≡ Q)
    -- a call is denied exactly where a check fails, by the first that does; it then leaves what was told as it was, as asks and settles do
    pub denied-exactly : (i : ℕ) (c : Call E R) (a : Answer C) (t u : Told B C R) → At b cs answers i c a t u → (f : Fault) → (a ≡ denied f) ↔ Denied kind halves rule entered t c f
    pub unchanged : (i : ℕ) (c : Call E R) (a : Answer C) (t u : Told B C R) → At b cs answers i c a t u → (a ≡ taken) ⊎ (u ≡ t)
    -- a statement that no other check refuses meets a contradiction exactly where with it nothing is left, and is otherwise accepted
    pub contradicts : (i line spare : ℕ) (r : R) (a : Answer C) (t u : Told B C R) → At b cs answers i (State line r spare) a t u → denial kind halves rule entered t (State line r spare) ≡ None →
        ((a ≡ denied (fault_of Contradiction line 0)) × NothingLeft kind halves rule entered t r) ⊎ ((a ≡ taken) × (NothingLeft kind halves rule entered t r → ⊥))
    -- an ask shows the standing bounds of its cell
    pub asks : (i k : ℕ) (p : C) (t u : Told B C R) → At b cs answers i (Ask k) (shown p) t u → (Q : List C) → Standing kind halves rule entered t Q → item Q (k - 1) ≡ Some p
    -- wherever another history has told a sheet alike, the same bounds stand, and an ask is answered alike
    pub bounds-alike : (b₂ : B) (cs₂ : List (Call E R)) (answers₂ : List (Answer C)) (told₂ : Told B C R) → History kind halves rule entered b₂ cs₂ answers₂ told₂ → Alike told told₂ →
        (Q : List C) → Standing kind halves rule entered told Q → Standing kind halves rule entered told₂ Q
    pub asks-alike : (i k : ℕ) (a : Answer C) (t u : Told B C R) → At b cs answers i (Ask k) a t u →
        (b₂ : B) (cs₂ : List (Call E R)) (answers₂ : List (Answer C)) (j : ℕ) (a₂ : Answer C) (t₂ u₂ : Told B C R) → At b₂ cs₂ answers₂ j (Ask k) a₂ t₂ u₂ → Alike t t₂ → a ≡ a₂
    -- ---- b) how settling ends

    -- what is found is the first whole match within the declared bounds, and the only choice of the row that holds it
    pub finds-first : (i line limit long cuts : ℕ) (S : List C) (t u : Told B C R) → At b cs answers i (Settle line limit long) (ended (found S) cuts) t u →
        (vs : List V) × Only kind S vs × FirstMatch kind halves rule t.book t.accepted t.declared vs
    -- neither spent nor deep, it ends with none exactly where there is no whole match
    pub none-exactly : (i line limit long cuts : ℕ) (e : Ending C) (t u : Told B C R) → At b cs answers i (Settle line limit long) (ended e cuts) t u → (e ≢ spent) → (e ≢ deep) →
        (e ≡ none) ↔ ((vs : List V) → WholeMatch kind rule t.book t.accepted t.declared vs → ⊥)
    -- each ending comes exactly where it ends the search from the standing bounds
    pub ends-exactly : (i line limit long cuts : ℕ) (e : Ending C) (t u : Told B C R) → At b cs answers i (Settle line limit long) (ended e cuts) t u →
        (f : Ending C) (n : ℕ) → Settles kind halves rule entered t limit (row_limit long (length t.declared)) f n ↔ ((e ≡ f) × (cuts ≡ n))
    -- settlings of sheets told alike, under the same cut limit and row limit, are alike
    pub settles-alike : (i line limit long cuts : ℕ) (e : Ending C) (t u : Told B C R) → At b cs answers i (Settle line limit long) (ended e cuts) t u →
        (b₂ : B) (cs₂ : List (Call E R)) (answers₂ : List (Answer C)) (j line₂ long₂ cuts₂ : ℕ) (e₂ : Ending C) (t₂ u₂ : Told B C R) → At b₂ cs₂ answers₂ j (Settle line₂ limit long₂) (ended e₂ cuts₂) t₂ u₂ →
        Alike t t₂ → row_limit long (length t.declared) ≡ row_limit long₂ (length t₂.declared) → (e ≡ e₂) × (cuts ≡ cuts₂)
    -- ---- c) the cuts: those of that search, as above, fewer than the choices within the standing bounds, and none past the limit
    pub cuts-fewer : (i line limit long cuts : ℕ) (e : Ending C) (t u : Told B C R) → At b cs answers i (Settle line limit long) (ended e cuts) t u →
        (Q : List C) → Standing kind halves rule entered t Q → ((n : ℕ) × Choices kind halves Q n) × ((n : ℕ) → Choices kind halves Q n → cuts < n) × (cuts ≤ limit)

  -- every history keeps the promise
  abbrev pub Promised : Type 0
  Promised = (b : B) (cs : List (Call E R)) (answers : List (Answer C)) (told : Told B C R) → History kind halves rule entered b cs answers told → Promise b cs answers
