-- Operands picked from a row.
use Rattle.std.proofs.Common.{◌≡◌, ℕ, zero, suc, true, false, ◌||◌, eqb, List, [], ◌∷◌, Some, None, sym, refl, subst, ⊎_elim, arith, eq-eqb}
use borrow.Author.Tests.{eqb-false}
use Rattle.domain.specs.Laws.{Within}
use Rattle.std.proofs.lemmas.Option.{none-some, same_Some}
use Rattle.domain.specs.Options.{answered}
use Rattle.engine.specs.Rows.{item, Inside, Chosen, AllSingle, Single, Agree}
use Rattle.engine.specs.Telling.{named}
use Rattle.engine.proofs.Operands.{both, picked}
use Rattle.engine.proofs.Answered.{both-some}

module _ {C V : Type 0} (allows : C → V → Type 0) where
  pub item-chosen : (P : List C) (vs : List V) (i : ℕ) (x : C) → Chosen allows P vs → item P i ≡ Some x → (u : V) × (item vs i ≡ Some u) × allows x u
  item-chosen [] vs i x c e = absurd (none-some _ e)
  item-chosen (p ∷ ps) [] i x c e = absurd c
  item-chosen (p ∷ ps) (v ∷ vs) zero x c e = (v, refl, subst (λ y. allows y v) (same_Some _ _ e) c.0)
  item-chosen (p ∷ ps) (v ∷ vs) (suc i) x c e = item-chosen ps vs i x c.1 e

  pub item-past : (P : List C) (vs : List V) (i : ℕ) → Chosen allows P vs → item P i ≡ None → item vs i ≡ None
  item-past [] [] i c e = refl
  item-past [] (v ∷ vs) i c e = absurd c
  item-past (p ∷ ps) [] i c e = absurd c
  item-past (p ∷ ps) (v ∷ vs) zero c e = absurd (none-some _ (sym e))
  item-past (p ∷ ps) (v ∷ vs) (suc i) c e = item-past ps vs i c.1 e

  pub picked-chosen : (P : List C) (vs : List V) (is : List ℕ) (xs : List C) → Chosen allows P vs → picked P is ≡ Some xs → (us : List V) × (picked vs is ≡ Some us) × Chosen allows xs us
  picked-chosen P vs [] xs c e = ([], refl, subst (λ ys. Chosen allows ys []) (same_Some _ _ e) tt)
  picked-chosen P vs (i ∷ is) xs c e =
      let t = both-some (item P i) (picked P is) xs e in
      let a = item-chosen P vs i t.0 c t.2 in
      let b = picked-chosen P vs is t.1 c t.3 in
      let ea = a.1 in
      let eb = b.1 in
      (a.0 ∷ b.0, rw (ea, eb), subst (λ ys. Chosen allows ys (a.0 ∷ b.0)) (sym t.4) (a.2, b.2))

  pub picked-past : (P : List C) (vs : List V) (is : List ℕ) → Chosen allows P vs → picked P is ≡ None → picked vs is ≡ None
  picked-past P vs [] c e = absurd (none-some _ (sym e))
  picked-past P vs (i ∷ is) c e =
      ⊎_elim (λ n. let m = item-past P vs i c n in rw m)
      (λ (t : (x : C) × (item P i ≡ Some x)).
      let it = t.1 in
      let a = item-chosen P vs i t.0 c it in
      let ea = a.1 in
      ⊎_elim (λ n. let m = picked-past P vs is c n in rw (ea, m))
      (λ (s : (xs : List C) × (picked P is ≡ Some xs)). let is' = s.1 in absurd (none-some _ (sym (rw (it, is') at e))))
      (answered (picked P is)))
      (answered (item P i))

  pub item-inside : (P Q : List C) (i : ℕ) (x y : C) → Inside allows P Q → item P i ≡ Some x → item Q i ≡ Some y → Within allows x y
  item-inside [] Q i x y a e f = absurd (none-some _ e)
  item-inside (p ∷ ps) [] i x y a e f = absurd a
  item-inside (p ∷ ps) (q ∷ qs) zero x y a e f = λ v h. subst (λ z. allows z v) (same_Some _ _ f) (a.0 v (subst (λ z. allows z v) (sym (same_Some _ _ e)) h))
  item-inside (p ∷ ps) (q ∷ qs) (suc i) x y a e f = item-inside ps qs i x y a.1 e f

  pub picked-inside : (P Q : List C) (is : List ℕ) (xs ys : List C) → Inside allows P Q → picked P is ≡ Some xs → picked Q is ≡ Some ys → Inside allows xs ys
  picked-inside P Q [] xs ys a e f = subst (λ X. Inside allows X ys) (same_Some _ _ e) (subst (λ Y. Inside allows [] Y) (same_Some _ _ f) tt)
  picked-inside P Q (i ∷ is) xs ys a e f =
      let s = both-some (item P i) (picked P is) xs e in
      let t = both-some (item Q i) (picked Q is) ys f in
      subst (λ X. Inside allows X ys) (sym s.4) (subst (λ Y. Inside allows (s.0 ∷ s.1) Y) (sym t.4)
      (item-inside P Q i s.0 t.0 a s.2 t.2, picked-inside P Q is s.1 t.1 a s.3 t.3))

-- ---- which cells are named

pub here-named : (i : ℕ) (is : List ℕ) → named (i ∷ is) i ≡ true
here-named i is = let e = eq-eqb i i refl in rw e

pub also-named : (i j : ℕ) (is : List ℕ) → named is j ≡ true → named (i ∷ is) j ≡ true
also-named i j is e = elim (eqb i j) as (λ b. (b || named is j) ≡ true) [ true ↦ refl | false ↦ e ]

pub not-named : (i : ℕ) (is : List ℕ) (j : ℕ) → named (i ∷ is) j ≡ false → (i ≡ j → ⊥) × (named is j ≡ false)
not-named i is j e =
    elim (eqb i j) as (λ b. eqb i j ≡ b → (b || named is j) ≡ false → (i ≡ j → ⊥) × (named is j ≡ false)) [
      | true ↦ λ f g. let z : true ≡ false = g in absurd (let y : ◌≡◌ {A = ℕ} 0 1 = cc in omega arith)
      | false ↦ λ f g. (eqb-false i j f, g)
    ] refl e

pub picked-singles : {C : Type 0} {height : C → ℕ} (P : List C) (is : List ℕ) (xs : List C) → Single height (named is) P → picked P is ≡ Some xs → AllSingle height xs
picked-singles {height = height} P [] xs s e = subst (AllSingle height) (same_Some _ _ e) tt
picked-singles {height = height} P (i ∷ is) xs s e =
    let t = both-some (item P i) (picked P is) xs e in
    subst (AllSingle height) (sym t.4) (s i t.0 (here-named i is) t.2, picked-singles P is t.1 (λ j p n m. s j p (also-named i j is n) m) t.3)

pub picked-same : {C : Type 0} (is : List ℕ) (P Q : List C) → Agree (named is) P Q → picked P is ≡ picked Q is
picked-same [] P Q s = refl
picked-same (i ∷ is) P Q s =
    let a = s i (here-named i is) in
    let b = picked-same is P Q (λ j n. s j (also-named i j is n)) in
    (λ k. both (a k) (b k))
