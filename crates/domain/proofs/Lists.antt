-- Lists of values in order.
use Rattle.std.proofs.Common.{◌≡◌, ◌≤◌, ◌⊎◌, List, [], ◌∷◌, ◌++◌, length, sym, refl, ◌∙◌, subst, inl, inr, suc-le-suc, zero-le, le_trans}
use native.Mathlib.Nat.{le-suc}
use Rattle.domain.specs.Counted.{In, Ascending}

module _ {V : Type 0} where
  pub in-left : (v : V) (xs ys : List V) → In v xs → In v (xs ++ ys)
  in-left v [] ys h = absurd h
  in-left v (x ∷ xs) ys (inl e) = inl e
  in-left v (x ∷ xs) ys (inr h) = inr (in-left v xs ys h)

  pub in-right : (v : V) (xs ys : List V) → In v ys → In v (xs ++ ys)
  in-right v [] ys h = h
  in-right v (x ∷ xs) ys h = inr (in-right v xs ys h)

  pub in-either : (v : V) (xs ys : List V) → In v (xs ++ ys) → In v xs ⊎ In v ys
  in-either v [] ys h = inr h
  in-either v (x ∷ xs) ys (inl e) = inl (inl e)
  in-either v (x ∷ xs) ys (inr h) = elim (in-either v xs ys h) [ inl a ↦ inl (inr a) | inr b ↦ inr b ]

module _ {V : Type 0} (before : V → V → Type 0) where
  pub ascending-append : (xs ys : List V) → Ascending before xs → Ascending before ys → ((u v : V) → In u xs → In v ys → before u v) → Ascending before (xs ++ ys)
  ascending-append [] ys a b f = b
  ascending-append (x ∷ xs) ys a b f = (
    (λ v h. elim (in-either v xs ys h) [ inl l ↦ a.0 v l | inr r ↦ f x v (inl refl) r ]),
    ascending-append xs ys a.1 b (λ u v h k. f u v (inr h) k),
  )

  -- a list in order, of values of another in order, is no longer
  pub no-longer : ((v : V) → before v v → ⊥) → ((u v w : V) → before u v → before v w → before u w)
      → (xs ys : List V) → Ascending before xs → Ascending before ys → ((v : V) → In v xs → In v ys) → length xs ≤ length ys
  no-longer irreflexive transitive [] ys a b f = zero-le
  no-longer irreflexive transitive (x ∷ xs) [] a b f = absurd (f x (inl refl))
  no-longer irreflexive transitive (x ∷ xs) (y ∷ ys) a b f =
      elim (f x (inl refl)) [
        | inl e ↦ suc-le-suc (no-longer irreflexive transitive xs ys a.1 b.1 (λ v h.
            past v (f v (inr h)) (λ q. irreflexive v (subst (λ z. before z v) (e ∙ sym q) (a.0 v h)))))
        | inr h ↦ le_trans (no-longer irreflexive transitive (x ∷ xs) ys a b.1 (λ v k. past v (f v k) (λ q.
            irreflexive v (subst (λ z. before z v) (sym q) (above v k (b.0 x h)))))) (le-suc (length ys))
      ]
    where
      past : (v : V) → In v (y ∷ ys) → (v ≡ y → ⊥) → In v ys
      past v (inl e) n = absurd (n e)
      past v (inr h) n = h

      above : (v : V) → In v (x ∷ xs) → before y x → before y v
      above v (inl e) l = subst (before y) (sym e) l
      above v (inr h) l = transitive y x v l (a.0 v h)
