-- What every history keeps, the moments of its calls, and an answer to each further call.
use Rattle.std.proofs.Common.{◌≡◌, ℕ, ◌-◌, ◌<◌, ◌≤◌, List, [], ◌∷◌, ◌++◌, length, take, Some, None, sym, refl, ◌∙◌, subst, inl, inr, arith, length-append}
use Rattle.std.proofs.lemmas.Bool.{cases_lt}
use Rattle.std.proofs.lemmas.List.{take-append-le, take_at}
use Rattle.fault.specs.declared.Refusal.TheVariants.{Contradiction}
use Rattle.fault.specs.Refusals.{fault_of}
use Rattle.domain.specs.declared.kind.Domain as Domain
use Rattle.domain.specs.declared.kind.Halves as Halves
use Rattle.domain.specs.Options.{answered}
use Rattle.engine.specs.declared.propagator.Propagator as Propagator
use Rattle.engine.specs.Rows.{item}
use Rattle.engine.proofs.Rows.{item-append}
use Rattle.meaning.specs.Resting.{Widest}
use Rattle.meaning.proofs.Laws.{LawfulHalves}
use Rattle.meaning.proofs.Stands.{resting-theorems, search-theorems}
use Rattle.history.specs.declared.call.Call.{Call}
use Rattle.history.specs.declared.call.Call.TheVariants.{Declare, State, Ask, Settle}
use Rattle.history.specs.declared.entered.Entered as Entered
use Rattle.history.specs.Told.{Told, fresh, with_cell, with_rule, Answer, denied, taken, shown, ended}
use Rattle.history.specs.Holds.{Holds}
use Rattle.history.specs.Histories.{row_limit, denial, Takes, Answers, History, new, next, Moment}
use Rattle.history.proofs.Lists.{item-last, inside-item}
use Rattle.history.proofs.Checks.{declare-passed, state-passed, ask-passed}
use Rattle.history.proofs.Held.{holds-new, holds-declared, holds-further}

module _ {C V T B R E : Type 0} {kind : Domain.Ghosts C V T} {halves : Halves.Ghosts C V T} {rule : Propagator.Ghosts R C B V T}
    (laws : (b : B) → LawfulHalves kind halves rule b) (entered : Entered.Ghosts E C B V T) where
  abbrev Lived : B → List (Call E R) → List (Answer C) → Told B C R → Type 0
  Lived = History kind halves rule entered

  -- what lasts through each call that is taken lasts through each call
  lasts : (P : Told B C R → Type 0) → ((t : Told B C R) (c : Call E R) (u : Told B C R) → P t → denial kind halves rule entered t c ≡ None → Takes kind halves rule entered t c u → P u) →
      {b : B} {cs : List (Call E R)} {answers : List (Answer C)} {t : Told B C R} → P (fresh b) → Lived b cs answers t → P t
  lasts P f z new = z
  lasts P f z (next {u = u} c (denied x) h s) = subst P (sym s.1) (lasts P f z h)
  lasts P f z (next {t = t} {u = u} c taken h s) = f t c u (lasts P f z h) s.0 s.1
  lasts P f z (next {u = u} c (shown p) h s) = subst P (sym s.2) (lasts P f z h)
  lasts P f z (next {u = u} c (ended e cuts) h s) = subst P (sym s.2) (lasts P f z h)

  -- ---- there are standing bounds, and the statements fit

  abbrev Held : Told B C R → Type 0
  Held t = (Q : List C) × Holds kind rule t Q

  held-taken : (t : Told B C R) (c : Call E R) (u : Told B C R) → Held t → denial kind halves rule entered t c ≡ None → Takes kind halves rule entered t c u → Held u
  held-taken t (Declare line k e) u h d s = subst Held (sym s.2) (h.0 ++ (s.0 ∷ []), holds-declared (λ b. (laws b).lawful) t h.0 s.0 h.1)
  held-taken t (State line r spare) u h d s =
      let Q = s.1.0 in
      let w = subst (λ v. Widest kind rule v.book v.accepted v.declared Q) s.0 s.1.1 in
      subst Held (sym s.0) (Q, holds-further (λ b. (laws b).lawful) t r h.0 h.1 line spare d Q w)
  held-taken t (Ask k) u h d s = absurd s
  held-taken t (Settle line limit long) u h d s = absurd s

  pub holds : {b : B} {cs : List (Call E R)} {answers : List (Answer C)} {t : Told B C R} → Lived b cs answers t → (Q : List C) × Holds kind rule t Q
  holds {b} h = lasts Held held-taken ([], holds-new (λ b. (laws b).lawful) b) h

  -- ---- never more than 24 cells and 64 statements

  abbrev Few : Told B C R → Type 0
  Few t = (length t.declared ≤ 24) × (length t.accepted ≤ 64)

  few-taken : (t : Told B C R) (c : Call E R) (u : Told B C R) → Few t → denial kind halves rule entered t c ≡ None → Takes kind halves rule entered t c u → Few u
  few-taken t (Declare line k e) u h d s =
      let a = (declare-passed (length t.declared) line k (entered.unranged e) (entered.admitted t.book e) d).0 in
      let n = length-append t.declared (s.0 ∷ []) in
      subst Few (sym s.2) (omega arith, h.1)
  few-taken t (State line r spare) u h d s =
      let a = (state-passed (length t.declared) (length t.accepted) line (rule.fields t.book r t.declared) spare d).0 in
      let n = length-append t.accepted (r ∷ []) in
      subst Few (sym s.0) (h.0, omega arith)
  few-taken t (Ask k) u h d s = absurd s
  few-taken t (Settle line limit long) u h d s = absurd s

  pub few : {b : B} {cs : List (Call E R)} {answers : List (Answer C)} {t : Told B C R} → Lived b cs answers t → (length t.declared ≤ 24) × (length t.accepted ≤ 64)
  few h = lasts Few few-taken (omega arith, omega arith) h

  -- ---- moments

  as-long : {b : B} {cs : List (Call E R)} {answers : List (Answer C)} {t : Told B C R} → Lived b cs answers t → length cs ≡ length answers
  as-long new = refl
  as-long (next {cs = cs} {answers = answers} c a h s) = let i = as-long h in let j = length-append cs (c ∷ []) in let k = length-append answers (a ∷ []) in omega arith

  pub moments : {b : B} {cs : List (Call E R)} {answers : List (Answer C)} {t : Told B C R} → Lived b cs answers t → (i : ℕ) → i < length cs →
      (c : Call E R) × (a : Answer C) × (t : Told B C R) × (u : Told B C R) × Moment kind halves rule entered b cs answers i c a t u
  moments new i o = absurd (omega arith)
  moments {b} (next {cs = cs} {answers = answers} {t = t} {u = u} c a h s) i o =
      let same = as-long h in
      let more = length-append cs (c ∷ []) in
      elim (cases_lt i (length cs)) [
        | inl k ↦ let m = moments h i k in (
          m.0,
          m.1,
          m.2,
          m.3,
          record {
            call = item-append cs (c ∷ []) i k ∙ m.4.call;
            answer = item-append answers (a ∷ []) i (omega arith) ∙ m.4.answer;
            earlier = subst (λ x. Lived b x (take i (answers ++ (a ∷ []))) m.2) (sym (take-append-le i cs (c ∷ []) (omega arith)))
                (subst (λ y. Lived b (take i cs) y m.2) (sym (take-append-le i answers (a ∷ []) (omega arith))) m.4.earlier);
            answered = m.4.answered;
          },
        )
        | inr k ↦ (
          c,
          a,
          t,
          u,
          record {
            call = subst (λ j. item (cs ++ (c ∷ [])) j ≡ Some c) (let q : length cs ≡ i = omega arith in q) (item-last cs c);
            answer = subst (λ j. item (answers ++ (a ∷ [])) j ≡ Some a) (let q : length answers ≡ i = omega arith in q) (item-last answers a);
            earlier = subst (λ x. Lived b x (take i (answers ++ (a ∷ []))) t) (sym (take_at cs (c ∷ []) i (omega arith)))
                (subst (λ y. Lived b cs y t) (sym (take_at answers (a ∷ []) i (omega arith))) h);
            answered = s;
          },
        )
      ]

  -- ---- each further call has an answer

  abbrev Answered : Told B C R → Call E R → Type 0
  Answered t c = (a : Answer C) × (u : Told B C R) × Answers kind halves rule entered t c a u

  unrefused : (t : Told B C R) → Held t → (c : Call E R) → denial kind halves rule entered t c ≡ None → Answered t c
  unrefused t h (Declare line k e) d =
      let p = (declare-passed (length t.declared) line k (entered.unranged e) (entered.admitted t.book e) d).1 in
      (taken, with_cell t p.0, (d, (p.0, p.1, refl)))
  unrefused t h (State line r spare) d = elim ((resting-theorems (laws t.book).lawful).some-or-none (t.accepted ++ (r ∷ [])) t.declared) [
    | inl w ↦ (taken, with_rule t r, (d, (refl, w)))
    | inr n ↦ (denied (fault_of Contradiction line 0), t, (inr (d, (refl, n)), refl))
  ]
  unrefused t h (Ask k) d =
      let p = inside-item kind.allows h.0 t.declared (k - 1) h.1.stands.inside (ask-passed (length t.declared) k d) in
      (shown p.0, t, (d, (h.0, h.1.stands, p.1), refl))
  unrefused t h (Settle line limit long) d =
      let s = (search-theorems (laws t.book)).ends t.accepted limit (row_limit long (length t.declared)) h.0 in
      (ended s.0 s.1, t, (d, (h.0, h.1.stands, s.2), refl))

  pub answerable : {b : B} {cs : List (Call E R)} {answers : List (Answer C)} {t : Told B C R} → Lived b cs answers t → (c : Call E R) → Answered t c
  answerable {t = t} h c = elim (answered (denial kind halves rule entered t c)) [
    | inl d ↦ unrefused t (holds h) c d
    | inr x ↦ (denied x.0, t, (inl x.1, refl))
  ]
