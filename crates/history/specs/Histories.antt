-- What a call may answer, and histories of calls to a new sheet.
use Rattle.std.specs.Prelude.{◌≡◌, ℕ, ◌-◌, ◌/◌, ◌⊎◌, List, [], ◌∷◌, ◌++◌, length, take, Some, None, Ok, Option}
use Rattle.fault.specs.declared.Fault.{Fault}
use Rattle.fault.specs.declared.Refusal.TheVariants.{Contradiction}
use Rattle.fault.specs.Refusals.{fault_of}
use Rattle.domain.specs.declared.kind.Domain as Domain
use Rattle.domain.specs.declared.kind.Halves as Halves
use Rattle.engine.specs.declared.propagator.Propagator as Propagator
use Rattle.engine.specs.Rows.{item}
use Rattle.meaning.specs.Resting.{Widest, NoneRests}
use Rattle.meaning.specs.Search.{Ending, Searched}
use Rattle.history.specs.declared.call.Call.{Call}
use Rattle.history.specs.declared.call.Call.TheVariants.{Declare, State, Ask, Settle}
use Rattle.history.specs.declared.entered.Entered as Entered
use Rattle.history.specs.Told.{Told, fresh, with_cell, with_rule, Answer, denied, taken, shown, ended}
use Rattle.history.specs.Denials.{declare_denial, state_denial, ask_denial, settle_denial}

-- how many rows a stack has room for, besides the root's: its length divided by the count of cells, whole part, less 1
abbrev pub row_limit : ℕ → ℕ → ℕ
row_limit long n = long / n - 1

module _ {C V T B R E : Type 0} (kind : Domain.Ghosts C V T) (halves : Halves.Ghosts C V T) (rule : Propagator.Ghosts R C B V T) (entered : Entered.Ghosts E C B V T) where
  -- the standing bounds: the widest that no accepted statement narrows, within the declared ones
  abbrev pub Standing : Told B C R → List C → Type 0
  Standing t = Widest kind rule t.book t.accepted t.declared

  -- with this statement, no resting bounds are left within the declared ones
  abbrev pub NothingLeft : Told B C R → R → Type 0
  NothingLeft t r = NoneRests kind rule t.book (t.accepted ++ (r ∷ [])) t.declared

  -- the first check of a call that fails, but for a contradiction
  abbrev pub denial : Told B C R → Call E R → Option Fault
  denial t (Declare line k e) = declare_denial (length t.declared) line k (entered.unranged e) (entered.admitted t.book e)
  denial t (State line r spare) = state_denial (length t.declared) (length t.accepted) line (rule.fields t.book r t.declared) spare
  denial t (Ask k) = ask_denial (length t.declared) k
  denial t (Settle line limit long) = settle_denial (length t.declared) line limit long

  -- 15, for a statement that no other check refuses, exactly where nothing is left
  abbrev pub Contradicts : Told B C R → Call E R → Fault → Type 0
  Contradicts t (Declare line k e) f = ⊥
  Contradicts t (State line r spare) f = (f ≡ fault_of Contradiction line 0) × NothingLeft t r
  Contradicts t (Ask k) f = ⊥
  Contradicts t (Settle line limit long) f = ⊥

  -- the call is denied by f
  abbrev pub Denied : Told B C R → Call E R → Fault → Type 0
  Denied t c f = (denial t c ≡ Some f) ⊎ ((denial t c ≡ None) × Contradicts t c f)

  -- a search from the standing bounds, under these limits
  abbrev pub Settles : Told B C R → ℕ → ℕ → Ending C → ℕ → Type 0
  Settles t limit rows e cuts = (Q : List C) × Standing t Q × Searched kind halves rule t.book t.accepted limit rows Q e cuts

  -- a sheet that has been told t takes a call so, and has then been told u
  abbrev pub Takes : Told B C R → Call E R → Told B C R → Type 0
  Takes t (Declare line k e) u = (p : C) × (entered.admitted t.book e ≡ Ok p) × (u ≡ with_cell t p)
  Takes t (State line r spare) u = (u ≡ with_rule t r) × ((Q : List C) × Standing u Q)
  Takes t (Ask k) u = ⊥
  Takes t (Settle line limit long) u = ⊥

  -- what an ask shows
  abbrev pub Shows : Told B C R → Call E R → C → Type 0
  Shows t (Declare line k e) p = ⊥
  Shows t (State line r spare) p = ⊥
  Shows t (Ask k) p = (Q : List C) × Standing t Q × (item Q (k - 1) ≡ Some p)
  Shows t (Settle line limit long) p = ⊥

  -- how a settle ends
  abbrev pub Ends : Told B C R → Call E R → Ending C → ℕ → Type 0
  Ends t (Declare line k e) x cuts = ⊥
  Ends t (State line r spare) x cuts = ⊥
  Ends t (Ask k) x cuts = ⊥
  Ends t (Settle line limit long) x cuts = Settles t limit (row_limit long (length t.declared)) x cuts

  -- a sheet that has been told t answers a call so, and has then been told u
  abbrev pub Answers : Told B C R → Call E R → Answer C → Told B C R → Type 0
  Answers t c (denied f) u = Denied t c f × (u ≡ t)
  Answers t c taken u = (denial t c ≡ None) × Takes t c u
  Answers t c (shown p) u = (denial t c ≡ None) × Shows t c p × (u ≡ t)
  Answers t c (ended e cuts) u = (denial t c ≡ None) × Ends t c e cuts × (u ≡ t)

  -- the calls to a new sheet of this book, their answers, and what it has been told in the end
  pub data History (b : B) : List (Call E R) → List (Answer C) → Told B C R → Type 0 where
    new : History b [] [] (fresh b)
    next : {cs : List (Call E R)} {answers : List (Answer C)} {t u : Told B C R} (c : Call E R) (a : Answer C) →
        History b cs answers t → Answers t c a u → History b (cs ++ (c ∷ [])) (answers ++ (a ∷ [])) u

  -- of these calls and answers, the one at place i is c, and is answered a; before it the sheet had been told t, and after it u
  pub record Moment (b : B) (cs : List (Call E R)) (answers : List (Answer C)) (i : ℕ) (c : Call E R) (a : Answer C) (t u : Told B C R) : Type 0 where
    pub call : item cs i ≡ Some c
    pub answer : item answers i ≡ Some a
    pub earlier : History b (take i cs) (take i answers) t
    pub answered : Answers t c a u
