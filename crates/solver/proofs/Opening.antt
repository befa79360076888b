-- The first cell of a row that is not single.
use Rattle.std.proofs.Common.{◌≡◌, ℕ, zero, suc, ◌+◌, ◌<◌, ◌≤◌, Bool, true, false, not, ◌==◌, nat_lt, cond, List, [], ◌∷◌, length, Some, None, Option, sym, ◌∙◌, refl, subst, arith, eqb-true}
use borrow.Author.Tests.{eqb-false}
use Rattle.std.proofs.lemmas.Bool.Decides.{nat_tests}
use Rattle.engine.specs.Rows.{AllSingle}
use Rattle.std.specs.List.{position_or_len, position}
use Rattle.meaning.specs.Search.{FirstOpen}
use Rattle.solver.specs.Nodes.{Opens}

module _ {C : Type 0} (height : C → ℕ) where
  abbrev is_open : C → Bool
  is_open p = not (height p == 0)

  opened : (row : List C) → position_or_len is_open row < length row → FirstOpen height row (position_or_len is_open row)
  opened [] l = absurd (omega arith)
  opened (p ∷ ps) l =
      let n = position_or_len is_open ps in
      elim (height p == 0) as (λ b. b ≡ (height p == 0) → cond (not (not b)) (1 + n) 0 < length (p ∷ ps) → FirstOpen height (p ∷ ps) (cond (not (not b)) (1 + n) 0)) [
        | true ↦ λ e m. subst (FirstOpen height (p ∷ ps)) (let z : suc n ≡ 1 + n = omega arith in z) (eqb-true (height p) 0 (sym e), opened ps (omega arith))
        | false ↦ λ e m. omega (arith, eqb-false (height p) 0 (sym e))
      ] refl l

  closed : (row : List C) → length row ≤ position_or_len is_open row → AllSingle height row
  closed [] l = tt
  closed (p ∷ ps) l =
      let n = position_or_len is_open ps in
      elim (height p == 0) as (λ b. b ≡ (height p == 0) → length (p ∷ ps) ≤ cond (not (not b)) (1 + n) 0 → AllSingle height (p ∷ ps)) [
        | true ↦ λ e m. (eqb-true (height p) 0 (sym e), closed ps (omega arith))
        | false ↦ λ e m. absurd (omega arith)
      ] refl l

  opens : (row : List C) → Opens height row (position is_open row)
  opens row =
      let n = position_or_len is_open row in
      elim (nat_lt n (length row)) as (λ b. b ≡ nat_lt n (length row) → Opens height row (cond b (Some n) None)) [
        | true ↦ λ e. opened row (grind (arith, nat_tests))
        | false ↦ λ e. closed row (grind (arith, nat_tests))
      ] refl

  -- the first cell for which the test fails is the first that is not single
  pub opens-at : (row : List C) (o : Option ℕ) → o ≡ position is_open row → (r : Option ℕ) → o ≡ r → Opens height row r
  opens-at row o e r f = subst (Opens height row) (sym e ∙ f) (opens row)

  pub open-within : (row : List C) (i : ℕ) → FirstOpen height row i → i < length row
  open-within [] i o = absurd o
  open-within (p ∷ ps) zero o = omega arith
  open-within (p ∷ ps) (suc i) o = let h = open-within ps i o.1 in omega arith
