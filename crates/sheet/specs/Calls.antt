-- What each call to a sheet answers and leaves, case by case.
use Rattle.std.specs.Prelude.{◌≡◌, ℕ, ◌-◌, ◌⊎◌, List, [], ◌∷◌, ◌++◌, length, Some, None, Ok, Err, Result}
use Rattle.fault.specs.declared.Fault.{Fault}
use Rattle.engine.specs.Rows.{item}
use Rattle.solver.specs.declared.search.Settled.{Settled}
use Rattle.solver.specs.Settling.{SearchedOn}
use Rattle.history.specs.declared.entered.Entered as Entered
use Rattle.history.specs.Told.{Told, with_cell, with_rule}
use Rattle.fault.specs.declared.Refusal.TheVariants.{Contradiction}
use Rattle.fault.specs.Refusals.{fault_of}
use Rattle.domain.specs.declared.kind.Domain as Domain
use Rattle.domain.specs.declared.kind.Halves as Halves
use Rattle.engine.specs.declared.propagator.Propagator as Propagator
use Rattle.meaning.specs.Resting.{Rests, Widest, NoneRests}
use Rattle.history.specs.Denials.{declare_denial, state_denial, ask_denial, settle_denial}

-- declare: t and cells are what the sheet was told and held before, u and after what it was told and holds then
abbrev pub Declared : {C V T B R E Y : Type 0} → Entered.Ghosts E C B V T → Told B C R → List C → ℕ → ℕ → E → Result Y Fault → Told B C R → List C → Type 0
Declared entered t cells line k e (Err f) u after = (declare_denial (length t.declared) line k (entered.unranged e) (entered.admitted t.book e) ≡ Some f) × (u ≡ t) × (after ≡ cells)
Declared {C = C} entered t cells line k e (Ok y) u after =
    (declare_denial (length t.declared) line k (entered.unranged e) (entered.admitted t.book e) ≡ None)
    × ((p : C) × (entered.admitted t.book e ≡ Ok p) × (u ≡ with_cell t p) × (after ≡ cells ++ (p ∷ [])))

-- ask
abbrev pub Asked : {C : Type 0} → List C → ℕ → Result C Fault → Type 0
Asked cells k (Err f) = ask_denial (length cells) k ≡ Some f
Asked cells k (Ok p) = (ask_denial (length cells) k ≡ None) × (item cells (k - 1) ≡ Some p)

-- a statement that no other check refuses: accepted, with the widest bounds that rest under it too; or 15, where none rest, and then the sheet
-- and the spare row are as they were
abbrev pub Tried : {C V T B R Y : Type 0} → Domain.Ghosts C V T → Propagator.Ghosts R C B V T → Told B C R → List C → ℕ → R → List C → Result Y Fault → Told B C R → List C → List C → Type 0
Tried kind rule t cells line r spare (Err f) u after spare' =
    (f ≡ fault_of Contradiction line 0)
    × (Rests kind rule t.book t.accepted cells → NoneRests kind rule t.book (t.accepted ++ (r ∷ [])) cells)
    × (u ≡ t) × (after ≡ cells) × (spare' ≡ spare)
Tried kind rule t cells line r spare (Ok y) u after spare' =
    (u ≡ with_rule t r) × (Rests kind rule t.book t.accepted cells → Widest kind rule t.book (t.accepted ++ (r ∷ [])) cells after)

-- state
abbrev pub Stated : {C V T B R Y : Type 0} → Domain.Ghosts C V T → Propagator.Ghosts R C B V T → Told B C R → List C → ℕ → R → List C → Result Y Fault → Told B C R → List C → List C → Type 0
Stated {Y = Y} kind rule t cells line r spare o u after spare' =
    ((f : Fault) × (state_denial (length t.declared) (length t.accepted) line (rule.fields t.book r t.declared) (length spare) ≡ Some f) × (o ≡ Err f) × (u ≡ t) × (after ≡ cells) × (spare' ≡ spare))
    ⊎ ((state_denial (length t.declared) (length t.accepted) line (rule.fields t.book r t.declared) (length spare) ≡ None) × Tried kind rule t cells line r spare o u after spare')

-- settle: a refusal leaves the stack as it was
abbrev pub Settling : {C V T B R : Type 0} → Domain.Ghosts C V T → Halves.Ghosts C V T → Propagator.Ghosts R C B V T → Told B C R → List C → ℕ → ℕ → List C → Result Settled Fault → List C → Type 0
Settling kind halves rule t cells line limit stack (Err f) stack' = (settle_denial (length cells) line limit (length stack) ≡ Some f) × (stack' ≡ stack)
Settling kind halves rule t cells line limit stack (Ok s) stack' =
    (settle_denial (length cells) line limit (length stack) ≡ None) × SearchedOn kind halves rule t.book t.accepted cells limit stack stack' s
