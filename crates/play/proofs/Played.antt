-- One call more in a history that is played.
use Rattle.std.proofs.Common.{◌≡◌, ℕ, ◌+◌, ◌<◌, ◌≤◌, List, [], ◌∷◌, ◌++◌, map, length, get_or, take, Some, Result, sym, refl, ap, ◌∙◌, subst, arith}
use native.Mathlib.Decide.{dec_lt}
use Rattle.std.proofs.lemmas.List.{take_more}
use Rattle.fault.specs.declared.Fault.{Fault}
use Rattle.domain.specs.declared.kind.Domain as Domain
use Rattle.domain.specs.declared.kind.Halves as Halves
use Rattle.std.proofs.lemmas.Option.{same_Some}
use Rattle.engine.specs.declared.propagator.Propagator as Propagator
use Rattle.engine.specs.Rows.{item}
use Rattle.engine.proofs.Rows.{item-here}
use Rattle.history.specs.declared.call.Call.{Call}
use Rattle.history.specs.declared.entered.Entered as Entered
use Rattle.history.specs.Told.{Told, fresh}
use Rattle.history.specs.Histories.{Answers, History, new, next}
use Rattle.play.specs.declared.answer.Reply.{Reply}
use Rattle.play.specs.Plays.{asks_for, answer_of}

map-last : {X Y : Type 0} (f : X → Y) (xs : List X) (x : X) → map f (xs ++ (x ∷ [])) ≡ map f xs ++ (f x ∷ [])
map-last f [] x = refl
map-last f (y ∷ ys) x = ap (λ z. f y ∷ z) (map-last f ys x)

map-none : {X Y : Type 0} (f : X → Y) → map f [] ≡ []
map-none f = refl

-- the calls before place i ask for no more than there is
abbrev pub Roomy : {E R : Type 0} → List (Call E R) → ℕ → ℕ → Type 0
Roomy {E} {R} calls memory i = (j : ℕ) (c : Call E R) → j < i → item calls j ≡ Some c → asks_for c ≤ memory

pub roomy-more : {E R : Type 0} (calls : List (Call E R)) (memory i : ℕ) (call : Call E R) → i < length calls → call ≡ get_or calls i call → asks_for call ≤ memory → Roomy calls memory i → Roomy calls memory (i + 1)
roomy-more calls memory i call lt is fits before j c below at = elim (dec_lt j i) [
  | yes l ↦ before j c l at
  | no n ↦ (let e : j ≡ i = omega arith in
      subst (λ x. asks_for x ≤ memory) (same_Some _ _ (sym (item-here calls i call lt is) ∙ ap (item calls) (sym e) ∙ at)) fits)
]

module _ {C V T B R E : Type 0} (kind : Domain.Ghosts C V T) (halves : Halves.Ghosts C V T) (rule : Propagator.Ghosts R C B V T) (entered : Entered.Ghosts E C B V T) where
  pub played-none : (b b₀ : B) (t : Told B C R) (outs : List (Result (Reply C) Fault)) → t ≡ fresh b → b₀ ≡ b → outs ≡ [] → History kind halves rule entered b₀ [] (map answer_of outs) t
  played-none b b₀ t outs e f o =
      subst (λ x. History kind halves rule entered x [] (map answer_of outs) t) (sym f)
      (subst (λ x. History kind halves rule entered b [] (map answer_of outs) x) (sym e)
      (subst (λ x. History kind halves rule entered b [] x (fresh b)) (sym (ap (map answer_of) o ∙ map-none answer_of)) new))

  pub played-next : (b : B) (calls : List (Call E R)) (i : ℕ) (call : Call E R) (a : Result (Reply C) Fault) (outs outs' : List (Result (Reply C) Fault)) (t u : Told B C R) →
      i < length calls → call ≡ get_or calls i call → outs' ≡ outs ++ (a ∷ []) →
      History kind halves rule entered b (take i calls) (map answer_of outs) t → Answers kind halves rule entered t call (answer_of a) u →
      History kind halves rule entered b (take (i + 1) calls) (map answer_of outs') u
  played-next b calls i call a outs outs' t u lt is pushed h s =
      let read : take (i + 1) calls ≡ take i calls ++ (call ∷ []) = take_more calls i call lt ∙ ap (λ x. take i calls ++ (x ∷ [])) (sym is) in
      let told : map answer_of outs' ≡ map answer_of outs ++ (answer_of a ∷ []) = ap (map answer_of) pushed ∙ map-last answer_of outs a in
      subst (λ cs. History kind halves rule entered b cs (map answer_of outs') u) (sym read) (subst (λ x. History kind halves rule entered b (take i calls ++ (call ∷ [])) x u) (sym told) (next call (answer_of a) h s))
