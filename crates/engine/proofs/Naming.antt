-- Which cells a propagator reads and touches.
use Rattle.std.proofs.Common.{◌≡◌, ℕ, zero, suc, Bool, true, false, eqb, List, [], ◌∷◌, Some, None, Option, sym, refl, ap, ◌∙◌, subst, ⊎_elim, eqb-true}
use borrow.Author.Tests.{eqb-false}
use Rattle.std.proofs.lemmas.Option.{none-some, same_Some}
use Rattle.domain.specs.Options.{answered}
use Rattle.engine.specs.Rows.{item, Agree}
use Rattle.engine.specs.Telling.{named, onward, told_at, told_all}
use Rattle.engine.proofs.Operands.{picked, row_narrowed}
use Rattle.engine.proofs.Answered.{head-told, tail-told, onward-some, headed-some, headed-none, tailed-some, tailed-none}
use Rattle.engine.proofs.Picking.{picked-same, here-named, also-named, not-named}

-- ---- one cell that is told something

module _ {C K : Type 0} (meet : K → C → Option C) where
  -- the cell itself
  pub at-same : (P Q : List C) (i : ℕ) (k : K) → told_at meet P i k ≡ Some Q → item Q i ≡ onward (item P i) (meet k)
  at-same [] Q i k e = ap (λ X. item X i) (sym (same_Some _ _ e))
  at-same (p ∷ ps) Q zero k e = let t = headed-some (meet k p) ps Q (sym (head-told meet p ps k) ∙ e) in ap (λ X. item X zero) (sym t.2) ∙ sym t.1
  at-same (p ∷ ps) Q (suc i) k e = let t = tailed-some p (told_at meet ps i k) Q (sym (tail-told meet p ps i k) ∙ e) in ap (λ X. item X (suc i)) (sym t.2) ∙ at-same ps t.0 i k t.1

  -- each other cell
  pub at-other : (P Q : List C) (i j : ℕ) (k : K) → told_at meet P i k ≡ Some Q → (i ≡ j → ⊥) → item Q j ≡ item P j
  at-other [] Q i j k e n = ap (λ X. item X j) (sym (same_Some _ _ e))
  at-other (p ∷ ps) Q zero zero k e n = absurd (n refl)
  at-other (p ∷ ps) Q zero (suc j) k e n = let t = headed-some (meet k p) ps Q (sym (head-told meet p ps k) ∙ e) in ap (λ X. item X (suc j)) (sym t.2)
  at-other (p ∷ ps) Q (suc i) zero k e n = let t = tailed-some p (told_at meet ps i k) Q (sym (tail-told meet p ps i k) ∙ e) in ap (λ X. item X zero) (sym t.2)
  at-other (p ∷ ps) Q (suc i) (suc j) k e n = let t = tailed-some p (told_at meet ps i k) Q (sym (tail-told meet p ps i k) ∙ e) in ap (λ X. item X (suc j)) (sym t.2) ∙ at-other ps t.0 i j k t.1 (λ z. n (ap suc z))

  -- nothing is left exactly where nothing is left of the cell
  at-nothing : (P : List C) (i : ℕ) (k : K) → told_at meet P i k ≡ None → (x : C) × (item P i ≡ Some x) × (meet k x ≡ None)
  at-nothing [] i k e = absurd (none-some _ (sym e))
  at-nothing (p ∷ ps) zero k e = (p, refl, headed-none (meet k p) ps (sym (head-told meet p ps k) ∙ e))
  at-nothing (p ∷ ps) (suc i) k e = at-nothing ps i k (tailed-none p (told_at meet ps i k) (sym (tail-told meet p ps i k) ∙ e))

  at-contradicts : (P : List C) (i : ℕ) (k : K) (x : C) → item P i ≡ Some x → meet k x ≡ None → told_at meet P i k ≡ None
  at-contradicts P i k x e f = rw (e, f)

  at-reads : (P Q P' : List C) (i : ℕ) (k : K) → item P i ≡ item Q i → told_at meet P i k ≡ Some P' → (Q' : List C) × (told_at meet Q i k ≡ Some Q') × (item P' i ≡ item Q' i)
  at-reads P Q P' i k s e =
      ⊎_elim (λ n. let t = at-nothing Q i k n in absurd (none-some _ (sym (at-contradicts P i k t.0 (s ∙ t.1) t.2) ∙ e)))
      (λ (t : (Q' : List C) × (told_at meet Q i k ≡ Some Q')). (t.0, t.1, at-same P P' i k e ∙ ap (λ o. onward o (meet k)) s ∙ sym (at-same Q t.0 i k t.1)))
      (answered (told_at meet Q i k))

  -- ---- several cells

  all-other : (is : List ℕ) (ks : List K) (P Q : List C) (j : ℕ) → told_all meet is ks P ≡ Some Q → named is j ≡ false → item Q j ≡ item P j
  all-other [] ks P Q j e n = ap (λ X. item X j) (sym (same_Some _ _ e))
  all-other (i ∷ is) [] P Q j e n = ap (λ X. item X j) (sym (same_Some _ _ e))
  all-other (i ∷ is) (k ∷ ks) P Q j e n =
      let t = onward-some (told_at meet P i k) (told_all meet is ks) Q e in
      let m = not-named i is j n in
      all-other is ks t.0 Q j t.2 m.1 ∙ at-other P t.0 i j k t.1 m.0

  all-reads : (N : ℕ → Bool) (is : List ℕ) (ks : List K) (P Q P' : List C) → ((j : ℕ) → named is j ≡ true → N j ≡ true) → Agree N P Q → told_all meet is ks P ≡ Some P'
      → (Q' : List C) × (told_all meet is ks Q ≡ Some Q') × Agree N P' Q'
  all-reads N [] ks P Q P' w s e = (Q, refl, λ i n. ap (λ X. item X i) (sym (same_Some _ _ e)) ∙ s i n)
  all-reads N (i ∷ is) [] P Q P' w s e = (Q, refl, λ j n. ap (λ X. item X j) (sym (same_Some _ _ e)) ∙ s j n)
  all-reads N (i ∷ is) (k ∷ ks) P Q P' w s e =
      let t = onward-some (told_at meet P i k) (told_all meet is ks) P' e in
      let r = at-reads P Q t.0 i k (s i (w i (here-named i is))) t.1 in
      let agree : Agree N t.0 r.0 = (λ j n. elim (eqb i j) as (λ b. eqb i j ≡ b → item t.0 j ≡ item r.0 j) [
        | true ↦ λ f. (let same = eqb-true i j f in subst (λ x. item t.0 x ≡ item r.0 x) same r.2)
        | false ↦ λ f. (let other = eqb-false i j f in at-other P t.0 i j k t.1 other ∙ s j n ∙ sym (at-other Q r.0 i j k r.1 other))
      ] refl) in
      let rest = all-reads N is ks t.0 r.0 P' (λ j n. w j (also-named i j is n)) agree t.2 in
      let f = r.1 in
      (rest.0, rw f rest.1, rest.2)

-- ---- a propagator that tells its operands something

module _ {C K : Type 0} (meet : K → C → Option C) (tells : List C → List K) (names : List ℕ) where
  pub touches-named : (P P' : List C) → row_narrowed meet tells names P ≡ Some P' → (i : ℕ) → named names i ≡ false → item P' i ≡ item P i
  touches-named P P' e i n =
      ⊎_elim (λ o. ap (λ X. item X i) (sym (same_Some _ _ (rw o at e))))
      (λ (t : (xs : List C) × (picked P names ≡ Some xs)). let m = t.1 in all-other meet names (tells t.0) P P' i (rw m at e) n)
      (answered (picked P names))

  pub reads-named : (P Q P' : List C) → Agree (named names) P Q → row_narrowed meet tells names P ≡ Some P'
      → (Q' : List C) × (row_narrowed meet tells names Q ≡ Some Q') × Agree (named names) P' Q'
  reads-named P Q P' s e =
      let same = picked-same names P Q s in
      ⊎_elim (λ o. let q : picked Q names ≡ None = sym same ∙ o in (Q, rw q, λ i n. ap (λ X. item X i) (sym (same_Some _ _ (rw o at e))) ∙ s i n))
      (λ (t : (xs : List C) × (picked P names ≡ Some xs)). let m = t.1 in let q : picked Q names ≡ Some t.0 = sym same ∙ m in
      let r = all-reads meet (named names) names (tells t.0) P Q P' (λ j n. n) s (rw m at e) in
      (r.0, rw q r.1, r.2))
      (answered (picked P names))
