-- What a sheet's calls ensure are the answers that they should give, and the standing bounds are held.
use Rattle.std.proofs.Common.{◌≡◌, ℕ, List, length, take, IfOk, Some, None, Ok, Err, Result, sym, refl, ap, ◌∙◌, subst, inl, inr}
use Rattle.fault.specs.declared.Fault.{Fault}
use Rattle.domain.specs.declared.kind.Domain as Domain
use Rattle.domain.specs.declared.kind.Halves as Halves
use Rattle.engine.specs.declared.propagator.Propagator as Propagator
use Rattle.meaning.specs.Search.{Searched}
use Rattle.meaning.proofs.Laws.{Lawful, LawfulHalves}
use Rattle.solver.specs.declared.search.Settled.{Settled}
use Rattle.solver.specs.Endings.{ending}
use Rattle.solver.proofs.Resting.{inside-length}
use Rattle.history.specs.declared.call.Call.{Call}
use Rattle.history.specs.declared.call.Call.TheVariants.{Declare, State, Ask, Settle}
use Rattle.history.specs.declared.entered.Entered as Entered
use Rattle.history.specs.Told.{Told, Answer}
use Rattle.history.specs.Denials.{state_denial, ask_denial, settle_denial}
use Rattle.history.specs.Histories.{row_limit, Answers}
use Rattle.history.specs.Holds.{Holds}
use Rattle.history.proofs.Held.{holds-declared, holds-stated, nothing-left}
use Rattle.sheet.specs.Calls.{Declared, Asked, Tried, Stated, Settling}
use Rattle.play.specs.Plays.{asks_for, taken_of, shown_of, ended_of, answer_of, Ends, Serves}
use Rattle.play.specs.declared.answer.Reply.{Reply}

module _ {C V T B R E : Type 0} {kind : Domain.Ghosts C V T} {halves : Halves.Ghosts C V T} {rule : Propagator.Ghosts R C B V T}
    (laws : (b : B) → LawfulHalves kind halves rule b) (entered : Entered.Ghosts E C B V T) where
  narrows : (b : B) → Lawful kind rule b
  narrows b = (laws b).lawful

  held : {t u : Told B C R} {cells after : List C} → Holds kind rule t cells → u ≡ t → after ≡ cells → Holds kind rule u after
  held {t} {u} {cells} {after} h e f = subst (λ x. Holds kind rule x after) (sym e) (subst (λ x. Holds kind rule t x) (sym f) h)

  long : (t : Told B C R) (cells : List C) → Holds kind rule t cells → length cells ≡ length t.declared
  long t cells h = inside-length kind.allows cells t.declared h.stands.inside

  pub declared-served : {Y : Type 0} (t u : Told B C R) (cells after : List C) (line k : ℕ) (e : E) (o : Result Y Fault) → Holds kind rule t cells → Declared entered t cells line k e o u after →
      Answers kind halves rule entered t (Declare line k e) (taken_of o) u × Holds kind rule u after
  declared-served t u cells after line k e (Err f) h d = ((inl d.0, d.1), held h d.1 d.2)
  declared-served t u cells after line k e (Ok y) h d =
      let p = d.1.0 in
      ((d.0, (p, d.1.1, d.1.2)), held (holds-declared narrows t cells p h) d.1.2 d.1.3)

  tried-served : {Y : Type 0} (t u : Told B C R) (cells after spare spare' : List C) (line : ℕ) (r : R) (o : Result Y Fault) → Holds kind rule t cells →
      state_denial (length t.declared) (length t.accepted) line (rule.fields t.book r t.declared) (length spare) ≡ None →
      Tried kind rule t cells line r spare o u after spare' →
      Answers kind halves rule entered t (State line r (length spare)) (taken_of o) u × Holds kind rule u after
  tried-served t u cells after spare spare' line r (Err f) h n d =
      ((inr (n, (d.0, nothing-left narrows t r cells h (d.1 h.stands.rests))), d.2), held h d.2 d.3)
  tried-served t u cells after spare spare' line r (Ok y) h n d =
      let held-now = holds-stated narrows t r cells h line (length spare) n after (d.1 h.stands.rests) in
      let holds = subst (λ x. Holds kind rule x after) (sym d.0) held-now in
      ((n, (d.0, (after, holds.stands))), holds)

  pub stated-served : {Y : Type 0} (t u : Told B C R) (cells after spare spare' : List C) (line : ℕ) (r : R) (o : Result Y Fault) → Holds kind rule t cells → Stated kind rule t cells line r spare o u after spare' →
      Answers kind halves rule entered t (State line r (length spare)) (taken_of o) u × Holds kind rule u after
  stated-served t u cells after spare spare' line r o h s = elim s [
    | inl d ↦ (subst (λ x. Answers kind halves rule entered t (State line r (length spare)) (taken_of x) u) (sym d.2) (inl d.1, d.3), held h d.3 d.4)
    | inr d ↦ tried-served t u cells after spare spare' line r o h d.0 d.1
  ]

  pub asked-served : (t : Told B C R) (cells : List C) (k : ℕ) (o : Result C Fault) → Holds kind rule t cells → Asked cells k o → Answers kind halves rule entered t (Ask k) (shown_of o) t
  asked-served t cells k (Err f) h a = (inl (subst (λ n. ask_denial n k ≡ Some f) (long t cells h) a), refl)
  asked-served t cells k (Ok p) h a = (subst (λ n. ask_denial n k ≡ None) (long t cells h) a.0, (cells, h.stands, a.1), refl)

  pub settled-served : (t : Told B C R) (cells stack stack' : List C) (line limit : ℕ) (o : Result Settled Fault) → Holds kind rule t cells → Settling kind halves rule t cells line limit stack o stack' →
      Answers kind halves rule entered t (Settle line limit (length stack)) (ended_of (take (length cells) stack') o) t
  settled-served t cells stack stack' line limit (Err f) h s = (inl (subst (λ n. settle_denial n line limit (length stack) ≡ Some f) (long t cells h) s.0), refl)
  settled-served t cells stack stack' line limit (Ok x) h s = (
    subst (λ n. settle_denial n line limit (length stack) ≡ None) (long t cells h) s.0,
    (cells, h.stands, subst (λ n. Searched kind halves rule t.book t.accepted limit (row_limit (length stack) n) cells (ending x.end (take (length cells) stack')) x.cuts) (long t cells h) (s.1.searched h.stands.rests)),
    refl,
  )

  -- ---- the same of a call that is known by an equation, and of the program's own answer

  moved : (t u : Told B C R) (c d : Call E R) (a b : Answer C) (after : List C) → c ≡ d → a ≡ b → Answers kind halves rule entered t d b u × Holds kind rule u after → Answers kind halves rule entered t c a u × Holds kind rule u after
  moved t u c d a b after e f s = (subst (λ x. Answers kind halves rule entered t x a u) (sym e) (subst (λ x. Answers kind halves rule entered t d x u) (sym f) s.0), s.1)

  pub serves-declare : {Y : Type 0} (t u : Told B C R) (cells after : List C) (line k : ℕ) (e : E) (o : Result Y Fault) (c : Call E R) (a : Answer C) → c ≡ Declare line k e → a ≡ taken_of o →
      Declared entered t cells line k e o u after → Holds kind rule t cells → Answers kind halves rule entered t c a u × Holds kind rule u after
  serves-declare t u cells after line k e o c a is same d h = moved t u c (Declare line k e) a (taken_of o) after is same (declared-served t u cells after line k e o h d)

  pub serves-state : {Y : Type 0} (t u : Told B C R) (cells after memory memory' : List C) (line n : ℕ) (r : R) (o : Result Y Fault) (c : Call E R) (a : Answer C) → c ≡ State line r n → length memory ≡ asks_for c → a ≡ taken_of o →
      Stated kind rule t cells line r memory o u after memory' → Holds kind rule t cells → Answers kind halves rule entered t c a u × Holds kind rule u after
  serves-state t u cells after memory memory' line n r o c a is asked same d h =
      moved t u c (State line r (length memory)) a (taken_of o) after (is ∙ ap (State line r) (sym (asked ∙ ap asks_for is))) same (stated-served t u cells after memory memory' line r o h d)

  pub serves-ask : (t : Told B C R) (cells : List C) (k : ℕ) (o : Result C Fault) (c : Call E R) (a : Answer C) → c ≡ Ask k → a ≡ shown_of o →
      Asked cells k o → Holds kind rule t cells → Answers kind halves rule entered t c a t × Holds kind rule t cells
  serves-ask t cells k o c a is same d h = moved t t c (Ask k) a (shown_of o) cells is same (asked-served t cells k o h d, h)

  pub serves-settle : {X : Type 0} (t : Told B C R) (cells memory memory' : List C) (line limit n : ℕ) (c : Call E R) (o : Result (Result (Reply C) Fault) X) → c ≡ Settle line limit n → length memory ≡ asks_for c →
      IfOk o (λ a. Ends kind halves rule t cells line limit memory memory' (answer_of a)) → Serves kind halves rule entered t cells c o t cells
  serves-settle t cells memory memory' line limit n c (Ok a) is asked d = λ h.
      moved t t c (Settle line limit (length memory)) (answer_of a) (ended_of (take (length cells) memory') d.0) cells (is ∙ ap (Settle line limit) (sym (asked ∙ ap asks_for is))) d.2
      (settled-served t cells memory memory' line limit d.0 h d.1, h)
  serves-settle t cells memory memory' line limit n c (Err x) is asked d = tt
