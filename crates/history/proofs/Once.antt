-- Calls have one answer, denied exactly where a check fails.
use Rattle.std.proofs.Common.{◌≡◌, ℕ, ◌-◌, ◌⊎◌, ◌↔◌, List, [], ◌∷◌, length, None, Ok, Result, sym, refl, ap, ◌∙◌, subst, inl, inr, arith, length-append}
use Rattle.fault.specs.declared.Fault.{Fault}
use Rattle.fault.specs.declared.Refusal.TheVariants.{Contradiction}
use Rattle.fault.specs.Refusals.{fault_of}
use Rattle.domain.specs.declared.kind.Domain as Domain
use Rattle.domain.specs.declared.kind.Halves as Halves
use Rattle.std.proofs.lemmas.Option.{none-some, same_Some}
use Rattle.engine.specs.declared.propagator.Propagator as Propagator
use Rattle.engine.specs.Rows.{item}
use Rattle.meaning.specs.Search.{Ending, Searched}
use Rattle.meaning.proofs.Laws.{LawfulHalves}
use Rattle.meaning.proofs.Stands.{resting-theorems, search-theorems}
use Rattle.history.specs.declared.call.Call.{Call}
use Rattle.history.specs.declared.call.Call.TheVariants.{Declare, State, Ask, Settle}
use Rattle.history.specs.declared.entered.Entered as Entered
use Rattle.history.specs.Told.{Told, with_cell, with_rule, Answer, denied, taken, shown, ended}
use Rattle.history.specs.Histories.{row_limit, Standing, NothingLeft, denial, Contradicts, Denied, Settles, Takes, Shows, Ends, Answers, History, new, next}
use Rattle.history.proofs.Lists.{last-same}

module _ {C V T B R E : Type 0} {kind : Domain.Ghosts C V T} {halves : Halves.Ghosts C V T} {rule : Propagator.Ghosts R C B V T}
    (laws : (b : B) → LawfulHalves kind halves rule b) (entered : Entered.Ghosts E C B V T) where
  abbrev Stands : Told B C R → List C → Type 0
  Stands = Standing kind halves rule entered

  abbrev Says : Told B C R → Call E R → Answer C → Told B C R → Type 0
  Says = Answers kind halves rule entered

  pub one-standing : (t : Told B C R) (P Q : List C) → Stands t P → Stands t Q → P ≡ Q
  one-standing t P Q = (resting-theorems (laws t.book).lawful).one-widest t.accepted t.declared P Q

  -- a search from the standing bounds, as one from these
  pub settles-from : (t : Told B C R) (limit rows cuts : ℕ) (e : Ending C) (Q : List C) → Stands t Q → Settles kind halves rule entered t limit rows e cuts →
      Searched kind halves rule t.book t.accepted limit rows Q e cuts
  settles-from t limit rows cuts e Q w s = subst (λ P. Searched kind halves rule t.book t.accepted limit rows P e cuts) (one-standing t s.0 Q s.1 w) s.2

  pub settles-once : (t : Told B C R) (limit rows cuts n : ℕ) (e f : Ending C) → Settles kind halves rule entered t limit rows e cuts → Settles kind halves rule entered t limit rows f n → (e ≡ f) × (cuts ≡ n)
  settles-once t limit rows cuts n e f s y =
      (search-theorems (laws t.book)).once t.accepted limit rows y.0 e f cuts n (settles-from t limit rows cuts e y.0 y.1 s) y.2

  -- ---- which calls are taken, shown and ended

  shown-asks : (t : Told B C R) (c : Call E R) (p : C) → Shows kind halves rule entered t c p → (k : ℕ) × (c ≡ Ask k)
  shown-asks t (Declare line k e) p s = absurd s
  shown-asks t (State line r spare) p s = absurd s
  shown-asks t (Ask k) p s = (k, refl)
  shown-asks t (Settle line limit long) p s = absurd s

  ended-settles : (t : Told B C R) (c : Call E R) (x : Ending C) (cuts : ℕ) → Ends kind halves rule entered t c x cuts → (line : ℕ) × (limit : ℕ) × (long : ℕ) × (c ≡ Settle line limit long)
  ended-settles t (Declare line k e) x cuts s = absurd s
  ended-settles t (State line r spare) x cuts s = absurd s
  ended-settles t (Ask k) x cuts s = absurd s
  ended-settles t (Settle line limit long) x cuts s = (line, limit, long, refl)

  taken-shown : (t u : Told B C R) (c : Call E R) (p : C) → Takes kind halves rule entered t c u → Shows kind halves rule entered t c p → ⊥
  taken-shown t u c p s y = let k = shown-asks t c p y in subst (λ x. Takes kind halves rule entered t x u) k.1 s

  taken-ended : (t u : Told B C R) (c : Call E R) (x : Ending C) (cuts : ℕ) → Takes kind halves rule entered t c u → Ends kind halves rule entered t c x cuts → ⊥
  taken-ended t u c x cuts s y = let k = ended-settles t c x cuts y in subst (λ x. Takes kind halves rule entered t x u) k.3 s

  shown-ended : (t : Told B C R) (c : Call E R) (p : C) (x : Ending C) (cuts : ℕ) → Shows kind halves rule entered t c p → Ends kind halves rule entered t c x cuts → ⊥
  shown-ended t c p x cuts s y = let k = ended-settles t c x cuts y in subst (λ x. Shows kind halves rule entered t x p) k.3 s

  -- ---- denied exactly where a check fails

  -- with a statement that is taken, something is left
  pub something-left : (t u : Told B C R) (r : R) → u ≡ with_rule t r → (Q : List C) → Stands u Q → NothingLeft kind halves rule entered t r → ⊥
  something-left t u r e Q w n = let v = subst (λ x. Stands x Q) e w in n Q v.inside v.rests

  taken-stands : (t u : Told B C R) (c : Call E R) (f : Fault) → Takes kind halves rule entered t c u → Contradicts kind halves rule entered t c f → ⊥
  taken-stands t u (Declare line k e) f s n = n
  taken-stands t u (State line r spare) f s n = something-left t u r s.0 s.1.0 s.1.1 n.1
  taken-stands t u (Ask k) f s n = n
  taken-stands t u (Settle line limit long) f s n = n

  shown-stands : (t : Told B C R) (c : Call E R) (p : C) (f : Fault) → Shows kind halves rule entered t c p → Contradicts kind halves rule entered t c f → ⊥
  shown-stands t c p f s n = let k = shown-asks t c p s in subst (λ x. Contradicts kind halves rule entered t x f) k.1 n

  ended-stands : (t : Told B C R) (c : Call E R) (x : Ending C) (cuts : ℕ) (f : Fault) → Ends kind halves rule entered t c x cuts → Contradicts kind halves rule entered t c f → ⊥
  ended-stands t c x cuts f s n = let k = ended-settles t c x cuts s in subst (λ x. Contradicts kind halves rule entered t x f) k.3 n

  contradicts-one : (t : Told B C R) (c : Call E R) (f g : Fault) → Contradicts kind halves rule entered t c f → Contradicts kind halves rule entered t c g → f ≡ g
  contradicts-one t (Declare line k e) f g m n = absurd m
  contradicts-one t (State line r spare) f g m n = m.0 ∙ sym n.0
  contradicts-one t (Ask k) f g m n = absurd m
  contradicts-one t (Settle line limit long) f g m n = absurd m

  denied-one : (t : Told B C R) (c : Call E R) (f g : Fault) → Denied kind halves rule entered t c f → Denied kind halves rule entered t c g → f ≡ g
  denied-one t c f g (inl d) (inl e) = same_Some _ _ (sym d ∙ e)
  denied-one t c f g (inl d) (inr n) = absurd (none-some _ (sym n.0 ∙ d))
  denied-one t c f g (inr m) (inl e) = absurd (none-some _ (sym m.0 ∙ e))
  denied-one t c f g (inr m) (inr n) = contradicts-one t c f g m.1 n.1

  -- no check fails, and there is no contradiction
  undenied : (t : Told B C R) (c : Call E R) (f : Fault) → denial kind halves rule entered t c ≡ None → (Contradicts kind halves rule entered t c f → ⊥) → Denied kind halves rule entered t c f → ⊥
  undenied t c f d n (inl e) = none-some _ (sym d ∙ e)
  undenied t c f d n (inr m) = n m.1

  pub denied-exactly : (t : Told B C R) (c : Call E R) (a : Answer C) (u : Told B C R) → Says t c a u → (f : Fault) → (a ≡ denied f) ↔ Denied kind halves rule entered t c f
  denied-exactly t c (denied g) u s f = (
    λ e. let q : g ≡ f = cc in subst (Denied kind halves rule entered t c) q s.0,
    λ d. ap denied (denied-one t c g f s.0 d),
  )
  denied-exactly t c taken u s f = (λ e. let z : ◌≡◌ {A = ℕ} 0 1 = cc in absurd (omega arith), λ d. absurd (undenied t c f s.0 (taken-stands t u c f s.1) d))
  denied-exactly t c (shown p) u s f = (λ e. let z : ◌≡◌ {A = ℕ} 0 1 = cc in absurd (omega arith), λ d. absurd (undenied t c f s.0 (shown-stands t c p f s.1) d))
  denied-exactly t c (ended x cuts) u s f = (λ e. let z : ◌≡◌ {A = ℕ} 0 1 = cc in absurd (omega arith), λ d. absurd (undenied t c f s.0 (ended-stands t c x cuts f s.1) d))

  pub contradicts : (t u : Told B C R) (line spare : ℕ) (r : R) (a : Answer C) → Says t (State line r spare) a u → denial kind halves rule entered t (State line r spare) ≡ None →
      ((a ≡ denied (fault_of Contradiction line 0)) × NothingLeft kind halves rule entered t r) ⊎ ((a ≡ taken) × (NothingLeft kind halves rule entered t r → ⊥))
  contradicts t u line spare r (denied f) s d = elim s.0 [ inl e ↦ absurd (none-some _ (sym d ∙ e)) | inr n ↦ inl (ap denied n.1.0, n.1.1) ]
  contradicts t u line spare r taken s d = inr (refl, something-left t u r s.1.0 s.1.1.0 s.1.1.1)
  contradicts t u line spare r (shown p) s d = absurd s.1
  contradicts t u line spare r (ended x cuts) s d = absurd s.1

  pub unchanged : (t : Told B C R) (c : Call E R) (a : Answer C) (u : Told B C R) → Says t c a u → (a ≡ taken) ⊎ (u ≡ t)
  unchanged t c (denied f) u s = inr s.1
  unchanged t c taken u s = inl refl
  unchanged t c (shown p) u s = inr s.2
  unchanged t c (ended x cuts) u s = inr s.2

  -- ---- one answer to each call

  taken-once : (t u v : Told B C R) (c : Call E R) → Takes kind halves rule entered t c u → Takes kind halves rule entered t c v → u ≡ v
  taken-once t u v (Declare line k e) s y = s.2 ∙ ap (with_cell t) (same s.1 y.1) ∙ sym y.2
    where
      same : {X Y : Type 0} {o : Result X Y} {p q : X} → o ≡ Ok p → o ≡ Ok q → p ≡ q
      same f g = cc
  taken-once t u v (State line r spare) s y = s.0 ∙ sym y.0
  taken-once t u v (Ask k) s y = absurd s
  taken-once t u v (Settle line limit long) s y = absurd s

  shown-once : (t : Told B C R) (c : Call E R) (p q : C) → Shows kind halves rule entered t c p → Shows kind halves rule entered t c q → p ≡ q
  shown-once t (Declare line k e) p q s y = absurd s
  shown-once t (State line r spare) p q s y = absurd s
  shown-once t (Ask k) p q s y = same_Some _ _ (sym s.2 ∙ ap (λ P. item P (k - 1)) (one-standing t s.0 y.0 s.1 y.1) ∙ y.2)
  shown-once t (Settle line limit long) p q s y = absurd s

  ended-once : (t : Told B C R) (c : Call E R) (e f : Ending C) (m n : ℕ) → Ends kind halves rule entered t c e m → Ends kind halves rule entered t c f n → (e ≡ f) × (m ≡ n)
  ended-once t (Declare line k x) e f m n s y = absurd s
  ended-once t (State line r spare) e f m n s y = absurd s
  ended-once t (Ask k) e f m n s y = absurd s
  ended-once t (Settle line limit long) e f m n s y = settles-once t limit (row_limit long (length t.declared)) m n e f s y

  denied-alone : (t : Told B C R) (c : Call E R) (f : Fault) (a : Answer C) (u v : Told B C R) → Says t c (denied f) u → Says t c a v → (denied f ≡ a) × (u ≡ v)
  denied-alone t c f a u v s y = let e = (denied-exactly t c a v y f).1 s.0 in (sym e, s.1 ∙ sym (subst (λ x. Says t c x v) e y).1)

  pub answer-once : (t : Told B C R) (c : Call E R) (a b : Answer C) (u v : Told B C R) → Says t c a u → Says t c b v → (a ≡ b) × (u ≡ v)
  answer-once t c (denied f) b u v s y = denied-alone t c f b u v s y
  answer-once t c taken (denied g) u v s y = let h = denied-alone t c g taken v u y s in (sym h.0, sym h.1)
  answer-once t c taken taken u v s y = (refl, taken-once t u v c s.1 y.1)
  answer-once t c taken (shown q) u v s y = absurd (taken-shown t u c q s.1 y.1)
  answer-once t c taken (ended f n) u v s y = absurd (taken-ended t u c f n s.1 y.1)
  answer-once t c (shown p) (denied g) u v s y = let h = denied-alone t c g (shown p) v u y s in (sym h.0, sym h.1)
  answer-once t c (shown p) taken u v s y = absurd (taken-shown t v c p y.1 s.1)
  answer-once t c (shown p) (shown q) u v s y = (ap shown (shown-once t c p q s.1 y.1), s.2 ∙ sym y.2)
  answer-once t c (shown p) (ended f n) u v s y = absurd (shown-ended t c p f n s.1 y.1)
  answer-once t c (ended e m) (denied g) u v s y = let h = denied-alone t c g (ended e m) v u y s in (sym h.0, sym h.1)
  answer-once t c (ended e m) taken u v s y = absurd (taken-ended t v c e m y.1 s.1)
  answer-once t c (ended e m) (shown q) u v s y = absurd (shown-ended t c q e m y.1 s.1)
  answer-once t c (ended e m) (ended f n) u v s y = let h = ended-once t c e f m n s.1 y.1 in let i = h.0 in let j = h.1 in (cc, s.2 ∙ sym y.2)

  pub once : {b : B} {cs ds : List (Call E R)} {answers others : List (Answer C)} {t v : Told B C R} →
      History kind halves rule entered b cs answers t → History kind halves rule entered b ds others v → cs ≡ ds → (answers ≡ others) × (t ≡ v)
  once new new e = (refl, refl)
  once new (next {cs = ds} c a h s) e = absurd (let q = ap length e in let k = length-append ds (c ∷ []) in omega arith)
  once (next {cs = cs} c a h s) new e = absurd (let q = ap length e in let k = length-append cs (c ∷ []) in omega arith)
  once (next {cs = cs} {answers = answers} {t = t} {u = u} c a h s) (next {cs = ds} {answers = others} {t = v} {u = w} d b g y) e =
      let f = last-same cs ds c d e in
      let i = once h g f.0 in
      let k = answer-once t c a b u w s (subst (λ x. Says x c b w) (sym i.1) (subst (λ x. Says v x b w) (sym f.1) y)) in
      let p = i.0 in
      let q = k.0 in
      (cc, k.1)
