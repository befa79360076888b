-- One cell of a row told after another.
use Rattle.std.proofs.Common.{◌≡◌, ℕ, Bool, true, false, ◌||◌, Ok, Err, Result, List, [], ◌∷◌, map, set, Bor, Some, None, Option, sym, refl, ap, ◌∙◌, subst}
use Rattle.domain.specs.Laws.{BoundsLaws}
use Rattle.domain.specs.Tells.{TellLaws}
use Rattle.std.proofs.lemmas.Option.{none-some, same_Some}
use Rattle.engine.specs.Rows.{item, Inside}
use Rattle.engine.specs.declared.contradiction.Contradiction.{Contradiction}
use Rattle.engine.specs.Fires.{Fires, both_fired, restored, after_both}
use Rattle.engine.specs.Telling.{onward, put_in, told_cell, told_at, told_all}
use Rattle.engine.proofs.Rows.{chosen-inside, rows-same, set-same, set-twice}
use Rattle.engine.proofs.Passing.{at-only, all-only}

-- a row with the same bounds put in is the same
pub set-is : {C : Type 0} (P : List C) (i : ℕ) (x y : C) → item P i ≡ Some x → x ≡ y → Some (set P i y) ≡ Some P
set-is P i x y e f = ap (λ z. Some (set P i z)) (sym f) ∙ ap Some (set-same P i x e)

-- a cell that was told something gets its old bounds again
module _ {C K : Type 0} (meet : K → C → Option C) (P : List C) (i : ℕ) (k : K) where
  put-back : (x : C) (o : Option C) (Q : List C) → item P i ≡ Some x → put_in P i o ≡ Some Q → set Q i x ≡ P
  put-back x None Q e f = absurd (none-some _ f)
  put-back x (Some q) Q e f = ap (λ X. set X i x) (sym (same_Some _ _ f)) ∙ set-twice P i q x ∙ set-same P i x e

  told-back : (o : Option C) (Q : List C) → item P i ≡ o → told_cell meet P i k o ≡ Some Q → restored Q i o ≡ P
  told-back None Q e f = sym (same_Some _ _ f)
  told-back (Some x) Q e f = put-back x (meet k x) Q e f

  pub told-restored : (Q : List C) → told_at meet P i k ≡ Some Q → restored Q i (item P i) ≡ P
  told-restored Q f = told-back (item P i) Q refl f

onward-same : {X : Type 0} (o : Option X) → onward o Some ≡ o
onward-same None = refl
onward-same (Some x) = refl

-- what comes of telling a cell, and then others
module _ {C V K : Type 0} {allows : C → V → Type 0} {inside : C → C → Bool} {sample : C → V} {passes : K → V → Type 0} {meet : K → C → Option C}
    (bounds : BoundsLaws allows sample inside) (told : TellLaws allows passes meet) (i : ℕ) (k : K) (is : List ℕ) (ks : List K) (P P₁ P₂ : List C) where
  narrower : told_at meet P i k ≡ Some P₁ → (P₁ ≡ P → ⊥) → told_all meet is ks P₁ ≡ Some P₂ → P₂ ≡ P → ⊥
  narrower e n f g =
      let a : Inside allows P₁ P = chosen-inside allows bounds.some P₁ P (λ vs c. (at-only told P P₁ i k vs e c).0) in
      let b : Inside allows P₂ P₁ = chosen-inside allows bounds.some P₂ P₁ (λ vs c. (all-only told is ks P₁ P₂ vs f c).0) in
      n (rows-same bounds P₁ P a (subst (λ X. Inside allows X P₁) g b))

  both : (first more : Bool) → Fires (told_at meet P i k) P P₁ (Ok first) → Fires (told_all meet is ks P₁) P₁ P₂ (Ok more) → Fires (told_all meet (i ∷ is) (k ∷ ks) P) P P₂ (Ok (first || more))
  both false false h r = let e = h.0 in (rw e (subst (λ X. told_all meet is ks X ≡ Some X) h.1 r.0), r.1 ∙ h.1)
  both false true h r = let e = h.0 in (rw e (ap (told_all meet is ks) (sym h.1) ∙ r.0), λ g. r.1 (g ∙ sym h.1))
  both true false h r = let e = h.0 in (rw e (r.0 ∙ ap Some (sym r.1)), λ g. h.1 (sym r.1 ∙ g))
  both true true h r = let e = h.0 in (rw e r.0, narrower e h.1 r.0)

  back : (first : Bool) (e : Contradiction) (P₃ : List C) → Fires (told_at meet P i k) P P₁ (Ok first) → Fires (told_all meet is ks P₁) P₁ P₂ (Err e) → P₃ ≡ restored P₂ i (item P i)
      → Fires (told_all meet (i ∷ is) (k ∷ ks) P) P P₃ (Err e)
  back false e P₃ h r o =
      let a = h.0 in (rw a (ap (told_all meet is ks) (sym h.1) ∙ r.0), o ∙ ap (λ X. restored X i (item P i)) (r.1 ∙ h.1) ∙ told-restored meet P i k P a)
  back true e P₃ h r o = let a = h.0 in (rw a r.0, o ∙ ap (λ X. restored X i (item P i)) r.1 ∙ told-restored meet P i k P₁ a)

  either : (first : Bool) (second : Result Bool Contradiction) (old : Option C) (P₃ : List C) → old ≡ item P i → Fires (told_at meet P i k) P P₁ (Ok first) → Fires (told_all meet is ks P₁) P₁ P₂ second
      → P₃ ≡ after_both second P₂ i old → Fires (told_all meet (i ∷ is) (k ∷ ks) P) P P₃ (both_fired (Ok first) second)
  either first (Ok more) old P₃ o h r a = subst (λ X. Fires (told_all meet (i ∷ is) (k ∷ ks) P) P X (Ok (first || more))) (sym a) (both first more h r)
  either first (Err e) old P₃ o h r a = back first e P₃ h r (a ∙ ap (restored P₂ i) o)

  -- one cell is told, then the others
  pub both-fire : (first : Bool) (second r : Result Bool Contradiction) (old : Option C) (P₃ : List C) → old ≡ item P i → Fires (told_all meet (i ∷ []) (k ∷ []) P) P P₁ (Ok first)
      → Fires (told_all meet is ks P₁) P₁ P₂ second → P₃ ≡ after_both second P₂ i old → r ≡ both_fired (Ok first) second → Fires (told_all meet (i ∷ is) (k ∷ ks) P) P P₃ r
  both-fire first second r old P₃ o h t a b =
      subst (λ s. Fires (told_all meet (i ∷ is) (k ∷ ks) P) P P₃ s) (sym b) (either first second old P₃ o (subst (λ m. Fires m P P₁ (Ok first)) (onward-same (told_at meet P i k)) h) t a)

-- the row after all that a list says is told
abbrev pub after : {C K : Type 0} → (K → C → Option C) → List (ℕ × Bor K) → List C → Option (List C)
after meet ts P = told_all meet (map (λ t. t.0) ts) (map (λ t. t.1.now) ts) P

-- a list of tells that begins with one of a cell
pub begun : {C K : Type 0} (meet : K → C → Option C) (t : ℕ × Bor K) (ts all : List (ℕ × Bor K)) (P Q : List C) (r : Result Bool Contradiction) → all ≡ (t ∷ ts)
    → Fires (after meet (t ∷ ts) P) P Q r → Fires (after meet all P) P Q r
begun meet t ts all P Q r h f = subst (λ us. Fires (after meet us P) P Q r) (sym h) f
