-- The laws of operands give the laws of the propagator on rows.
use Rattle.std.proofs.Common.{◌≡◌, ℕ, Bool, List, map, Some, None, Option, sym, ap, ◌∙◌, subst, ⊎_elim}
use Rattle.domain.specs.Laws.{BoundsLaws, HeightLaws}
use Rattle.domain.specs.Tells.{TellLaws}
use Rattle.std.proofs.lemmas.Option.{none-some, same_Some}
use Rattle.domain.specs.Options.{answered}
use Rattle.engine.specs.Rows.{Inside, Chosen, Single}
use Rattle.engine.specs.Telling.{named}
use Rattle.engine.proofs.Operands.{picked, row_narrowed, RowHolds, AllPass, OperandLaws}
use Rattle.engine.specs.Laws.{NarrowingLaws, RelationLaws}
use Rattle.engine.proofs.Rows.{inside-chosen, sample-chosen, chosen-inside, rows-same, singles-one}
use Rattle.engine.proofs.Picking.{picked-chosen, picked-past, picked-inside, picked-singles}
use Rattle.engine.proofs.Naming.{touches-named, reads-named}
use Rattle.engine.proofs.Passing.{row-pass, pass-row, all-only, all-each, all-none}

module _ {C V K : Type 0} {allows : C → V → Type 0} {inside : C → C → Bool} {sample : C → V} {height : C → ℕ} {passes : K → V → Type 0} {meet : K → C → Option C} {tells : List C → List K} {holds : List V → Type 0}
    (bounds : BoundsLaws allows sample inside) (heights : HeightLaws allows height) (told : TellLaws allows passes meet) (operands : OperandLaws allows height passes tells holds) (names : List ℕ) where
  abbrev step : List C → Option (List C)
  step = row_narrowed meet tells names

  -- a choice of the new row is one of the old that gets through at the operands
  pub step-only : (P P' : List C) (vs : List V) → step P ≡ Some P' → Chosen allows P' vs → Chosen allows P vs
  step-only P P' vs e c =
      ⊎_elim (λ n. subst (λ X. Chosen allows X vs) (sym (same_Some _ _ (rw n at e))) c)
      (λ (t : (xs : List C) × (picked P names ≡ Some xs)). let m = t.1 in (all-only told names (tells t.0) P P' vs (rw m at e) c).0)
      (answered (picked P names))

  pub step-passed : (P P' : List C) (vs us : List V) (xs : List C) → step P ≡ Some P' → Chosen allows P' vs → picked P names ≡ Some xs → picked vs names ≡ Some us → AllPass passes (tells xs) us
  step-passed P P' vs us xs e c m n = pass-row passes vs names (tells xs) us n (all-only told names (tells xs) P P' vs (rw m at e) c).1

  -- and each such choice is kept
  pub step-each : (P P' : List C) (vs : List V) → step P ≡ Some P' → Chosen allows P vs → ((xs : List C) (us : List V) → picked P names ≡ Some xs → picked vs names ≡ Some us → AllPass passes (tells xs) us) → Chosen allows P' vs
  step-each P P' vs e c h =
      ⊎_elim (λ n. subst (λ X. Chosen allows X vs) (same_Some _ _ (rw n at e)) c)
      (λ (t : (xs : List C) × (picked P names ≡ Some xs)). let m = t.1 in
      let s = picked-chosen allows P vs names t.0 c m in
      all-each told names (tells t.0) P P' vs (rw m at e) c (row-pass passes vs names (tells t.0) s.0 s.1 (h t.0 s.0 m s.1)))
      (answered (picked P names))

  pub step-none : (P : List C) (vs : List V) → step P ≡ None → Chosen allows P vs → ((xs : List C) (us : List V) → picked P names ≡ Some xs → picked vs names ≡ Some us → AllPass passes (tells xs) us) → ⊥
  step-none P vs e c h =
      ⊎_elim (λ n. none-some _ (sym (rw n at e)))
      (λ (t : (xs : List C) × (picked P names ≡ Some xs)). let m = t.1 in
      let s = picked-chosen allows P vs names t.0 c m in
      all-none told names (tells t.0) P vs (rw m at e) c (row-pass passes vs names (tells t.0) s.0 s.1 (h t.0 s.0 m s.1)))
      (answered (picked P names))

  -- a choice that gets through at a narrower row gets through at a wider one
  wider : (P Q P' : List C) (vs : List V) → Inside allows P Q → step P ≡ Some P' → Chosen allows P' vs → (ys : List C) (us : List V) → picked Q names ≡ Some ys → picked vs names ≡ Some us → AllPass passes (tells ys) us
  wider P Q P' vs a e c ys us f g =
      let d = step-only P P' vs e c in
      ⊎_elim (λ n. absurd (none-some _ (sym (picked-past allows P vs names d n) ∙ g)))
      (λ (t : (xs : List C) × (picked P names ≡ Some xs)).
      let s = picked-chosen allows P vs names t.0 d t.1 in
      let same : s.0 ≡ us = same_Some _ _ (sym s.1 ∙ g) in
      operands.monotone t.0 ys us (picked-inside allows P Q names t.0 ys a t.1 f) (subst (λ ws. Chosen allows t.0 ws) same s.2) (step-passed P P' vs us t.0 e c t.1 g))
      (answered (picked P names))

  -- it never widens a cell
  inside-old : (P P' : List C) → step P ≡ Some P' → Inside allows P' P
  inside-old P P' e = chosen-inside allows bounds.some P' P (λ vs c. step-only P P' vs e c)

  monotone : (P Q P' : List C) → Inside allows P Q → step P ≡ Some P' → (Q' : List C) × (step Q ≡ Some Q') × Inside allows P' Q'
  monotone P Q P' a e =
      ⊎_elim (λ n. let c = sample-chosen allows bounds.some P' in absurd (step-none Q (map sample P') n (inside-chosen allows P Q (map sample P') a (step-only P P' (map sample P') e c)) (wider P Q P' (map sample P') a e c)))
      (λ (t : (X : List C) × (step Q ≡ Some X)). (
        t.0,
        t.1,
        chosen-inside allows bounds.some P' t.0 (λ vs c.
            step-each Q t.0 vs t.1 (inside-chosen allows P Q vs a (step-only P P' vs e c)) (wider P Q P' vs a e c)),
      ))
      (answered (step Q))

  -- HOW IT NARROWS: the laws of operands give those of the propagator on rows
  pub narrowing-lifted : NarrowingLaws allows (named names) step
  narrowing-lifted = record { inside = inside-old; touches = touches-named meet tells names; reads = reads-named meet tells names; monotone = monotone }

  -- ---- the relation

  relation-passes : (P : List C) (vs : List V) → Chosen allows P vs → RowHolds holds names vs → (xs : List C) (us : List V) → picked P names ≡ Some xs → picked vs names ≡ Some us → AllPass passes (tells xs) us
  relation-passes P vs c m xs us e f =
      let s = picked-chosen allows P vs names xs c e in
      let same : s.0 ≡ us = same_Some _ _ (sym s.1 ∙ f) in
      operands.keeps xs us (subst (λ ws. Chosen allows xs ws) same s.2) (rw f at m)

  exact : (P P' : List C) (vs : List V) → Chosen allows P vs → Single height (named names) P → step P ≡ Some P' → RowHolds holds names vs
  exact P P' vs c s e =
      ⊎_elim (λ n. let m = picked-past allows P vs names c n in rw m tt)
      (λ (t : (xs : List C) × (picked P names ≡ Some xs)).
      let ws : List V = map sample P' in
      let d = sample-chosen allows bounds.some P' in
      let a = picked-chosen allows P vs names t.0 c t.1 in
      let b = picked-chosen allows P ws names t.0 (step-only P P' ws e d) t.1 in
      let one_list = picked-singles P names t.0 s t.1 in
      let same : b.0 ≡ a.0 = singles-one heights t.0 b.0 a.0 one_list b.2 a.2 in
      let p = step-passed P P' ws b.0 t.0 e d t.1 b.1 in
      let ea = a.1 in
      rw ea (operands.exact t.0 a.0 a.2 one_list (subst (AllPass passes (tells t.0)) same p)))
      (answered (picked P names))

  stays : (P : List C) (vs : List V) → Chosen allows P vs → Single height (named names) P → RowHolds holds names vs → step P ≡ Some P
  stays P vs c s m =
      ⊎_elim (λ n. absurd (step-none P vs n c (relation-passes P vs c m)))
      (λ (t : (X : List C) × (step P ≡ Some X)).
      let back_in : Inside allows P t.0 = chosen-inside allows bounds.some P t.0 (λ ws d. step-each P t.0 ws t.1 d (λ xs us e f.
      let a = picked-chosen allows P vs names xs c e in
      let b = picked-chosen allows P ws names xs d e in
      let one : a.0 ≡ us = singles-one heights xs a.0 b.0 (picked-singles P names xs s e) a.2 b.2 ∙ same_Some _ _ (sym b.1 ∙ f) in
      subst (AllPass passes (tells xs)) one (relation-passes P vs c m xs a.0 e a.1))) in
      t.1 ∙ ap Some (rows-same bounds t.0 P (inside-old P t.0 t.1) back_in))
      (answered (step P))

  -- WHAT IT NARROWS FOR: the relation over the operands gives that over rows
  pub relation-lifted : RelationLaws allows height (named names) (RowHolds holds names) step
  relation-lifted = record {
    keeps = λ P P' vs c m e. step-each P P' vs e c (relation-passes P vs c m);
    possible = λ P vs c m e. step-none P vs e c (relation-passes P vs c m);
    stays = stays;
    exact = exact;
  }

-- where its own cells are single and the relation does not hold, it contradicts
pub contradicts : {C V : Type 0} {allows : C → V → Type 0} {height : C → ℕ} {names : ℕ → Bool} {holds : List V → Type 0} {step : List C → Option (List C)} →
    RelationLaws allows height names holds step → (P : List C) (vs : List V) → Chosen allows P vs → Single height names P → (holds vs → ⊥) → step P ≡ None
contradicts {C} {step = step} laws P vs c s n = ⊎_elim (λ e. e) (λ (t : (X : List C) × (step P ≡ Some X)). absurd (n (laws.exact P t.0 vs c s t.1))) (answered (step P))
