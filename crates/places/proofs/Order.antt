-- The order of sets: the one that has the lowest place in which two differ comes first.
use Rattle.std.proofs.Common.{◌≡◌, ℕ, ◌<◌, Bool, true, false, T, ◌⊎◌, sym, refl, ap, ◌∙◌, subst, inl, inr, eq-zero-or-pos, arith}
use native.Mathlib.Decide.{dec_lt}
use lib.Bits.{bit_xor}
use lib.Count.{count_trailing_zeros}
use Rattle.places.specs.Members.{has}
use Rattle.places.specs.Order.{Before}
use Rattle.places.specs.Tables.{differ}
use Rattle.places.proofs.Members.{has-xor, has-none, same-places}
use Rattle.places.proofs.Lowest.{lowest-in, none-lower, below-pow}

pub before-irreflexive : (u : ℕ) → Before u u → ⊥
before-irreflexive u b = b.2 b.1

pub before-transitive : (u v w : ℕ) → Before u v → Before v w → Before u w
before-transitive u v w (k, t, n, e) (j, t', n', e') =
    elim (dec_lt k j) [
      | yes l ↦ (k, t, (λ h. n (subst T (sym (e' k l)) h)), λ i h. e i h ∙ e' i (omega arith))
      | no g ↦ elim (dec_lt j k) [
        | yes l ↦ (j, subst T (sym (e j l)) t', n', λ i h. e i (omega arith) ∙ e' i h)
        | no g' ↦ (let s : j ≡ k = omega arith in absurd (n (subst (λ x. T (has x v)) s t')))
      ]
    ]

agree : (x y : Bool) → differ x y ≡ false → x ≡ y
agree true true e = refl
agree true false e = absurd (subst T e tt)
agree false true e = absurd (subst T e tt)
agree false false e = refl

-- which of the two has it
which : (x y : Bool) → T (differ x y) → (T x × (T y → ⊥)) ⊎ (T y × (T x → ⊥))
which true true t = absurd t
which true false t = inl (tt, λ h. h)
which false true t = inr (tt, λ h. h)
which false false t = absurd t

pub before-total : (u v : ℕ) → Before u v ⊎ ((u ≡ v) ⊎ Before v u)
before-total u v =
    elim (eq-zero-or-pos (bit_xor u v)) [
      | inl z ↦ inr (inl (same-places u v (λ k. agree (has k u) (has k v) (sym (has-xor k u v) ∙ ap (has k) z ∙ has-none k))))
      | inr p ↦ first p
    ]
  where
    at : ℕ
    at = count_trailing_zeros (bit_xor u v) (bit_xor u v)

    lower : (j : ℕ) → j < at → has j u ≡ has j v
    lower j h = agree (has j u) (has j v) (sym (has-xor j u v) ∙ none-lower (bit_xor u v) (bit_xor u v) j h)

    first : 0 < bit_xor u v → Before u v ⊎ ((u ≡ v) ⊎ Before v u)
    first p =
        elim (which (has at u) (has at v) (subst T (has-xor at u v) (lowest-in (bit_xor u v) (bit_xor u v) p (below-pow (bit_xor u v))))) [
          | inl h ↦ inl (at, h.0, h.1, lower)
          | inr h ↦ inr (inr (at, h.0, h.1, λ j l. sym (lower j l)))
        ]
