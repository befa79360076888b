-- The sets of rules that name a cell, and of those that share a cell with a rule.
use Rattle.std.proofs.Common.{◌≡◌, ℕ, ◌+◌, ◌^◌, ◌<◌, ◌≤◌, Bool, true, false, ◌||◌, T, eqb, List, length, set, Some, sym, refl, ap, ◌∙◌, subst, ⊎_elim, arith, eq-eqb, ne_eqb}
use lib.Bits.{bit_or}
use Rattle.std.proofs.lemmas.Bool.{cases_lt}
use Rattle.places.specs.Members.{has}
use Rattle.places.proofs.Tables.{or-cases, or-left, or-right}
use Rattle.places.proofs.Members.{has-or, has-none}
use Rattle.places.proofs.Lowest.{has-one}
use Rattle.engine.specs.Rows.{item}
use Rattle.engine.proofs.Rows.{item-gone}
use Rattle.solver.specs.Waking.{named_by, Namers, Sharers}

or-false : (b : Bool) → (b || false) ≡ b
or-false true = refl
or-false false = refl

or-true : (b : Bool) → (b || true) ≡ true
or-true true = refl
or-true false = refl

module _ {R : Type 0} (names : R → ℕ → Bool) (rules : List R) (cell : ℕ) where
  -- the rules below i that name the cell
  pub record NamersBelow (i set : ℕ) : Type 0 where
    pub below : (k : ℕ) → k < i → has k set ≡ named_by names cell (item rules k)
    pub above : (k : ℕ) → i ≤ k → has k set ≡ false

  pub namers-none : NamersBelow 0 0
  namers-none = record { below = λ k h. absurd (omega arith); above = λ k h. has-none k }

  pub namers-all : (set : ℕ) → NamersBelow (length rules) set → Namers names rules cell set
  namers-all set n k = ⊎_elim (λ h. n.below k h) (λ h. n.above k h ∙ sym (ap (named_by names cell) (item-gone rules k h))) (cases_lt k (length rules))

  module _ (i set : ℕ) (r : R) (here : item rules i ≡ Some r) (so_far : NamersBelow i set) where
    pub namers-more : names r cell ≡ true → NamersBelow (i + 1) (bit_or set (2 ^ i))
    namers-more n = record {
      below = λ k h. has-put k ∙ ⊎_elim
          (λ l. ap (λ b. has k set || b) (ne_eqb k i (omega arith)) ∙ or-false (has k set) ∙ so_far.below k l)
          (λ l. let e : k ≡ i = omega arith in ap (λ b. has k set || b) (eq-eqb k i e) ∙ or-true (has k set) ∙ sym (ap (λ j. named_by names cell (item rules j)) e ∙ ap (named_by names cell) here ∙ n))
          (cases_lt k i);
      above = λ k h. has-put k ∙ ap (λ b. has k set || b) (ne_eqb k i (omega arith)) ∙ or-false (has k set) ∙ so_far.above k (omega arith);
    }
      where
        has-put : (k : ℕ) → has k (bit_or set (2 ^ i)) ≡ (has k set || eqb k i)
        has-put k = has-or k set (2 ^ i) ∙ ap (λ b. has k set || b) (has-one k i)

    pub namers-same : names r cell ≡ false → NamersBelow (i + 1) set
    namers-same n = record {
      below = λ k h. ⊎_elim (so_far.below k)
          (λ l. let e : k ≡ i = omega arith in so_far.above k l ∙ sym (ap (λ j. named_by names cell (item rules j)) e ∙ ap (named_by names cell) here ∙ n))
          (cases_lt k i);
      above = λ k h. so_far.above k (omega arith);
    }

-- ---- rules that share a cell

false-true : false ≡ true → ⊥
false-true e = let z : ◌≡◌ {A = ℕ} 0 1 = cc in omega arith

module _ {R : Type 0} (names : R → ℕ → Bool) (rules : List R) where
  -- who names a cell is a rule of the list
  pub namer-within : (cell set : ℕ) → Namers names rules cell set → (k : ℕ) → T (has k set) → k < length rules
  namer-within cell set n k t = ⊎_elim (λ h. h) (λ h. absurd (subst T (n k ∙ ap (named_by names cell) (item-gone rules k h)) t)) (cases_lt k (length rules))

module _ {R : Type 0} (names : R → ℕ → Bool) (rules : List R) (r : R) where
  pub sharers-none : Sharers names rules 0 r 0
  sharers-none = record { only = λ k h. absurd (subst T (has-none k) h); each = λ k i s e h. absurd (omega arith) }

  module _ (i set : ℕ) (so_far : Sharers names rules i r set) where
    pub sharers-more : (named : ℕ) → Namers names rules i named → Sharers names rules (i + 1) r (bit_or set named)
    sharers-more named n = record {
      only = λ k t. or-cases (has k set) (has k named) (so_far.only k) (namer-within names rules i named n k) (subst T (has-or k set named) t);
      each = λ k j s e h m m'. subst T (sym (has-or k set named)) (⊎_elim
          (λ l. or-left (has k set) (has k named) (so_far.each k j s e l m m'))
          (λ l. let q : i ≡ j = omega arith in or-right (has k set) (has k named) (subst T (sym (n k ∙ ap (named_by names i) e ∙ ap (names s) q ∙ m')) tt))
          (cases_lt j i));
    }

    pub sharers-same : names r i ≡ false → Sharers names rules (i + 1) r set
    sharers-same n = record {
      only = so_far.only;
      each = λ k j s e h m m'. ⊎_elim (λ l. so_far.each k j s e l m m') (λ l. let q : i ≡ j = omega arith in absurd (false-true (sym n ∙ ap (names r) q ∙ m))) (cases_lt j i);
    }
