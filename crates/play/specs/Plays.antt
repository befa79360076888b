-- What the answers of a program stand for, and what is promised of calls that are played.
use Rattle.std.specs.Prelude.{◌≡◌, ℕ, ◌<◌, ◌≤◌, List, map, length, take, Some, Ok, Err, vec_items, Result}
use Rattle.fault.specs.declared.Fault.{Fault}
use Rattle.domain.specs.declared.kind.Domain as Domain
use Rattle.domain.specs.declared.kind.Halves as Halves
use Rattle.engine.specs.declared.propagator.Propagator as Propagator
use Rattle.engine.specs.Rows.{item}
use Rattle.solver.specs.declared.search.Settled.{Settled}
use Rattle.solver.specs.Endings.{ending}
use Rattle.sheet.specs.Calls.{Settling}
use Rattle.history.specs.declared.call.Call.{Call}
use Rattle.history.specs.declared.call.Call.TheVariants.{Declare, State, Ask, Settle}
use Rattle.history.specs.declared.entered.Entered as Entered
use Rattle.history.specs.Told.{Told, Answer, denied, taken, shown, ended}
use Rattle.history.specs.Histories.{Answers}
use Rattle.history.specs.Holds.{Holds}
use Rattle.history.specs.Promise.{Promise}
use Rattle.play.specs.declared.answer.Reply.{Reply}
use Rattle.play.specs.declared.answer.Reply.TheVariants as G
use Rattle.play.specs.declared.answer.Stopped.{Stopped}
use Rattle.play.specs.declared.answer.Stopped.TheVariants.{Short, NoMemory}

-- how many cells of memory a call asks for: a spare row or a stack
abbrev pub asks_for : {E R : Type 0} → Call E R → ℕ
asks_for (Declare line k e) = 0
asks_for (State line r spare) = spare
asks_for (Ask k) = 0
asks_for (Settle line limit long) = long

-- what an answer of the program stands for
abbrev pub answer_of : {C : Type 0} → Result (Reply C) Fault → Answer C
answer_of (Err f) = denied f
answer_of (Ok G.Taken) = taken
answer_of (Ok (G.Shown p)) = shown p
answer_of (Ok (G.Ended e cuts row)) = ended (ending e (vec_items row)) cuts

-- the answer to a declare or a state
abbrev pub taken_of : {C Y : Type 0} → Result Y Fault → Answer C
taken_of (Ok y) = taken
taken_of (Err f) = denied f

-- the answer to an ask
abbrev pub shown_of : {C : Type 0} → Result C Fault → Answer C
shown_of (Ok p) = shown p
shown_of (Err f) = denied f

-- the answer to a settle, where this is the first row of the stack
abbrev pub ended_of : {C : Type 0} → List C → Result Settled Fault → Answer C
ended_of row (Ok s) = ended (ending s.end row) s.cuts
ended_of row (Err f) = denied f

-- a settle is answered so
abbrev pub Ends : {C V T B R : Type 0} → Domain.Ghosts C V T → Halves.Ghosts C V T → Propagator.Ghosts R C B V T → Told B C R → List C → ℕ → ℕ → List C → List C → Answer C → Type 0
Ends kind halves rule t cells line limit stack stack' a = (o : Result Settled Fault) × Settling kind halves rule t cells line limit stack o stack' × (a ≡ ended_of (take (length cells) stack') o)

module _ {C V T B R E : Type 0} (kind : Domain.Ghosts C V T) (halves : Halves.Ghosts C V T) (rule : Propagator.Ghosts R C B V T) (entered : Entered.Ghosts E C B V T) where
  -- a sheet that holds the standing bounds answers as it should, and holds them still; nothing is said where memory could not be had
  abbrev pub Serves : {X : Type 0} → Told B C R → List C → Call E R → Result (Result (Reply C) Fault) X → Told B C R → List C → Type 0
  Serves t cells c (Ok a) u after = Holds kind rule t cells → Answers kind halves rule entered t c (answer_of a) u × Holds kind rule u after
  Serves t cells c (Err x) u after = Unit {0}

  -- Calls cs, played on a new sheet of the book b in memory of this length. All are answered, and the promise holds of them; or the memory is
  -- shorter than the call at place i asks for, which is the first such; or the allocator refused.
  abbrev pub Played : {Y : Type 0} → (Y → List (Result (Reply C) Fault)) → B → List (Call E R) → ℕ → Result Y Stopped → Type 0
  Played items b cs memory (Ok y) = ((i : ℕ) (c : Call E R) → item cs i ≡ Some c → asks_for c ≤ memory) × Promise kind halves rule entered b cs (map answer_of (items y))
  Played items b cs memory (Err (Short i)) = ((c : Call E R) × (item cs i ≡ Some c) × (memory < asks_for c)) × ((j : ℕ) (c : Call E R) → j < i → item cs j ≡ Some c → asks_for c ≤ memory)
  Played items b cs memory (Err NoMemory) = Unit {0}
