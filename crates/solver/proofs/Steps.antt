-- The steps of the search, as its code takes them.
use Rattle.std.proofs.Common.{◌≡◌, ℕ, zero, suc, ◌+◌, ◌<◌, ◌≤◌, true, false, ◌⊎◌, List, [], ◌∷◌, length, Err, sym, refl, ap, ◌∙◌, subst, inl, inr, arith}
use Rattle.domain.specs.declared.kind.Domain as Domain
use Rattle.domain.specs.declared.kind.Halves as Halves
use Rattle.domain.specs.Laws.{BoundsLaws}
use Rattle.engine.specs.declared.propagator.Propagator as Propagator
use Rattle.engine.specs.Rows.{item}
use Rattle.engine.specs.Laws.{NarrowingLaws}
use Rattle.engine.proofs.Rows.{inside-self, rows-same}
use Rattle.engine.proofs.Fitting.{rests-agreed}
use Rattle.meaning.specs.Resting.{Rests, Widest, NoneRests}
use Rattle.meaning.specs.Search.{change, FirstOpen, Ending, found, none, node, half, Seek, all-single, no-cut-left, no-row-left, in-first, in-second, turn-back, child}
use Rattle.solver.specs.Waking.{named_by, Namers}
use Rattle.solver.specs.Fixpoint.{OthersRest}
use Rattle.solver.specs.declared.node.Limits.{Limits}
use Rattle.solver.specs.declared.node.Progress.{Progress}
use Rattle.solver.specs.Nodes.{Looks}
use Rattle.solver.specs.Endings as Endings
use Rattle.solver.specs.Endings.{ending}
use Rattle.solver.specs.Settling.{SearchedOn}
use Rattle.solver.specs.declared.search.End.{End}
use Rattle.solver.specs.declared.search.End.TheVariants as E
use Rattle.solver.proofs.Resting.{item-in}

-- ---- endings

true-false : true ≡ false → ⊥
true-false e = let z : ◌≡◌ {A = ℕ} 0 1 = cc in omega arith

pub lifted : {C : Type 0} (e : End) (A B : List C) → (e ≡ E.Found → A ≡ B) → ending e A ≡ ending e B
lifted E.Found A B f = ap found (f refl)
lifted E.None A B f = refl
lifted E.Spent A B f = refl
lifted E.Deep A B f = refl

not-none : {C : Type 0} (e : End) (A : List C) → (e ≡ E.None → ⊥) → ending e A ≡ none → ⊥
not-none E.Found A n q = let z : ◌≡◌ {A = ℕ} 0 1 = cc in omega arith
not-none E.None A n q = n refl
not-none E.Spent A n q = let z : ◌≡◌ {A = ℕ} 0 1 = cc in omega arith
not-none E.Deep A n q = let z : ◌≡◌ {A = ℕ} 0 1 = cc in omega arith

-- ---- a cell that is cut

item-change : {C : Type 0} (f : C → C) (Q : List C) (i j : ℕ) → (j ≡ i → ⊥) → item (change f Q i) j ≡ item Q j
item-change f [] i j ne = refl
item-change f (q ∷ qs) zero zero ne = absurd (ne refl)
item-change f (q ∷ qs) zero (suc j) ne = refl
item-change f (q ∷ qs) (suc i) zero ne = refl
item-change f (q ∷ qs) (suc i) (suc j) ne = item-change f qs i j (λ e. ne (ap suc e))

module _ {C V W B R : Type 0} (kind : Domain.Ghosts C V W) (rule : Propagator.Ghosts R C B V W) (book : B) (laws : (r : R) → NarrowingLaws kind.allows (rule.names r) (rule.narrowed book r)) (rules : List R) where
  -- where bounds rest, only rules that name the cell wait after a change of it
  pub cut-waits : (f : C → C) (Q : List C) (i set : ℕ) → Namers rule.names rules i set → Rests kind rule book rules Q → OthersRest kind rule book rules set (change f Q i)
  cut-waits f Q i set named rests k r e z =
      let away : rule.names r i ≡ false = sym (ap (named_by rule.names i) e) ∙ sym (named k) ∙ z in
      rests-agreed (laws r) Q (change f Q i)
      (λ j n. sym (item-change f Q i j (λ q. true-false (sym n ∙ ap (rule.names r) q ∙ away))))
      (rests r (item-in rules k r e))

module _ {C V W B R : Type 0} (kind : Domain.Ghosts C V W) (halves : Halves.Ghosts C V W) (rule : Propagator.Ghosts R C B V W) (book : B) (rules : List R) (cut_limit row_limit : ℕ) where
  abbrev Sought : ℕ → ℕ → List C → Ending C → ℕ → Type 0
  Sought k d P e c = Seek kind halves rule book rules cut_limit row_limit half k d P e c

  pub step-first : (k d i c : ℕ) (P Q : List C) (e : End) (A B : List C) → Widest kind rule book rules P Q → FirstOpen kind.height Q i → k < cut_limit → d < row_limit → (e ≡ E.None → ⊥) →
      Sought (k + 1) (d + 1) (change halves.first Q i) (ending e A) c → (e ≡ E.Found → B ≡ A) → Sought k d P (ending e B) c
  step-first k d i c P Q e A B w f a b n t q = subst (λ x. Sought k d P x c) (lifted e A B (λ z. sym (q z))) (child w (in-first i f a b t (not-none e A n)))

  pub step-second : (k d i m c : ℕ) (P Q : List C) (e₁ e : End) (A₁ A B : List C) → Widest kind rule book rules P Q → FirstOpen kind.height Q i → k < cut_limit → d < row_limit → e₁ ≡ E.None →
      Sought (k + 1) (d + 1) (change halves.first Q i) (ending e₁ A₁) m → Sought m (d + 1) (change halves.second Q i) (ending e A) c → (e ≡ E.Found → B ≡ A) → Sought k d P (ending e B) c
  step-second k d i m c P Q e₁ e A₁ A B w f a b n t u q =
      let t' = subst (λ x. Sought (k + 1) (d + 1) (change halves.first Q i) (ending x A₁) m) n t in
      subst (λ x. Sought k d P x c) (lifted e A B (λ z. sym (q z))) (child w (in-second i f a b t' u))

  -- what the call for a half tells, of the row and the counts that it was given
  pub of-half : (waits k k' d d' c : ℕ) (P P' : List C) (e : Ending C) → k' ≡ k → d' ≡ d → P' ≡ P → OthersRest kind rule book rules waits P →
      (OthersRest kind rule book rules waits P' → Sought k' d' P' e c) → Sought k d P e c
  of-half waits k k' d d' c P P' e q r s others told =
      subst (λ x. Sought x d P e c) q (subst (λ x. Sought k' x P e c) r (subst (λ x. Sought k' d' x e c) s (told (subst (OthersRest kind rule book rules waits) (sym s) others))))

-- where no cell is to be cut, the search ends with the widest bounds that rest
module _ {C V W B R : Type 0} (kind : Domain.Ghosts C V W) (halves : Halves.Ghosts C V W) (rule : Propagator.Ghosts R C B V W) (book : B) (rules : List R) (limits : Limits) (at : Progress) (waits : ℕ) (P Q : List C)
    (few : at.cuts ≤ limits.cuts) (widest : OthersRest kind rule book rules waits P → Widest kind rule book rules P Q) where
  pub looked : (e : End) → Looks kind.height limits at Q (Err e) → Endings.Sought kind halves rule book rules limits at waits P Q (record { end = e; cuts = at.cuts })
  looked E.Found s = record { few = few; ended = λ o. child (widest o) (all-single s); kept = λ o _. inr (widest o) }
  looked E.None s = absurd s
  looked E.Spent s = record { few = few; ended = λ o. child (widest o) (no-cut-left s.0.0 s.0.1 s.1); kept = λ o _. inr (widest o) }
  looked E.Deep s = record { few = few; ended = λ o. child (widest o) (no-row-left s.0.0 s.0.1 s.1 s.2); kept = λ o _. inr (widest o) }

-- ---- from bounds that rest

module _ {C V W B R : Type 0} (kind : Domain.Ghosts C V W) (rule : Propagator.Ghosts R C B V W) (book : B) (rules : List R) where
  -- where all rest, those that do not wait rest
  pub all-rest : (set : ℕ) (P : List C) → Rests kind rule book rules P → OthersRest kind rule book rules set P
  all-rest set P rests k r e z = rests r (item-in rules k r e)

  module _ (bounds : BoundsLaws kind.allows kind.sample kind.inside) where
    -- they are the widest within themselves, and the only ones
    pub rests-only : (P Q : List C) → Rests kind rule book rules P → Widest kind rule book rules P Q → Q ≡ P
    rests-only P Q rests w = rows-same bounds Q P w.inside (w.widest P (inside-self kind.allows P) rests)

    pub stays : (P Q : List C) → Rests kind rule book rules P → NoneRests kind rule book rules P ⊎ Widest kind rule book rules P Q → Q ≡ P
    stays P Q rests (inl n) = absurd (n P (inside-self kind.allows P) rests)
    stays P Q rests (inr w) = rests-only P Q rests w

module _ {C V W B R : Type 0} (kind : Domain.Ghosts C V W) (halves : Halves.Ghosts C V W) (rule : Propagator.Ghosts R C B V W) (book : B) (rules : List R) (cut_limit row_limit : ℕ)
    (bounds : BoundsLaws kind.allows kind.sample kind.inside) where
  -- a half that rests is a node
  pub at-rest : {k d c : ℕ} {P : List C} {e : Ending C} → Rests kind rule book rules P → Seek kind halves rule book rules cut_limit row_limit half k d P e c → Seek kind halves rule book rules cut_limit row_limit node k d P e c
  at-rest {P = P} rests (turn-back n) = absurd (n P (inside-self kind.allows P) rests)
  at-rest {k} {d} {c} {e = e} rests (child {P = P} {Q = Q} w t) = subst (λ X. Seek kind halves rule book rules cut_limit row_limit node k d X e c) (rests-only kind rule book rules bounds P Q rests w) t

-- ---- no cells

module _ {C V W B R : Type 0} (kind : Domain.Ghosts C V W) (halves : Halves.Ghosts C V W) (rule : Propagator.Ghosts R C B V W) (book : B) (rules : List R) where
  pub no-cells : (cells : List C) (cut_limit : ℕ) (stack : List C) → length cells ≡ 0 → SearchedOn kind halves rule book rules cells cut_limit stack stack (record { end = E.Found; cuts = 0 })
  no-cells [] cut_limit stack e = record { room = omega arith; searched = λ rests. all-single tt; kept = λ rests n. absurd (n refl); empty = λ _. refl }
  no-cells (p ∷ ps) cut_limit stack e = absurd (omega arith)
