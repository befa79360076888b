-- Numbers read digit by digit, and the round trip through their text.
use Rattle.std.proofs.Common.{◌≡◌, ℕ, ◌+◌, ◌-◌, ◌*◌, ◌^◌, ◌<◌, ◌≤◌, true, cond, ◌&&◌, leb, ◌⊎◌, List, [], ◌∷◌, length, get_or, drop, Some, None, decimal, Option, refl, ap, ◌∙◌, inl, inr, ⊎_elim, arith, rules}
use Rattle.std.proofs.lemmas.Bool.Decides.{nat_tests}
use Rattle.std.proofs.lemmas.Bool.{cases_eq}
use Rattle.std.proofs.lemmas.List.{at_drop_more}
use Rattle.std.proofs.lemmas.Str.Parse.{IsNumeralModel, numerals_by_fold}
use Rattle.std.proofs.lemmas.Fmt.{digits_decimal, digits_value-decimal, decimal_nonempty, first_decimal, decimal_digit, decimal-digits_value}
use Rattle.std.specs.Str.{all_ascii_digits}
use Rattle.text.specs.Numbers.{digits_on, number_of, within, NumbersRound}

pub digit-step : (n : ℕ) (s : List ℕ) (i : ℕ) → i < length s → digits_on n (drop i s) ≡ cond (leb 48 (get_or s i 0) && leb (get_or s i 0) 57) (digits_on (n * 10 + (get_or s i 0 - 48)) (drop (i + 1) s)) None
digit-step n s i lt = at_drop_more (digits_on n) s i 0 lt

-- further digits only raise a number
pub beyond : (high n : ℕ) (ds : List ℕ) → high < n → within 0 high (digits_on n ds) ≡ None
beyond high n [] lt = grind (arith, nat_tests)
beyond high n (c ∷ cs) lt = let r = beyond high (n * 10 + (c - 48)) cs (omega arith) in grind (arith, nat_tests)

abbrev value_on : ℕ → List ℕ → ℕ
value_on n [] = n
value_on n (c ∷ cs) = value_on (n * 10 + (c - 48)) cs

own : IsNumeralModel (λ ds. all_ascii_digits ds ≡ true) (value_on 0)
own = numerals_by_fold _ (search rules) value_on (search rules)

run : (n : ℕ) (ds : List ℕ) → all_ascii_digits ds ≡ true → digits_on n ds ≡ Some (value_on n ds)
run n [] p = refl
run n (c ∷ cs) p = let r = run (n * 10 + (c - 48)) cs in grind (arith, nat_tests)

ran : (n m : ℕ) (ds : List ℕ) → digits_on n ds ≡ Some m → (all_ascii_digits ds ≡ true) × (m ≡ value_on n ds)
ran n m [] e = grind arith
ran n m (c ∷ cs) e = let r = ran (n * 10 + (c - 48)) m cs in grind (arith, nat_tests)

shape : (s : List ℕ) → 0 < length s → (get_or s 0 0 ≡ 48 → length s ≡ 1) → number_of s ≡ digits_on 0 s
shape [] some one = absurd (omega arith)
shape (c ∷ []) some one = refl
shape (c ∷ d ∷ ds) some one = let ne : c ≡ 48 → ⊥ = λ e. omega (arith, one e) in grind (arith, nat_tests)

shaped : (n : ℕ) (s : List ℕ) → number_of s ≡ Some n → (0 < length s) × (get_or s 0 0 ≡ 48 → length s ≡ 1) × (digits_on 0 s ≡ Some n)
shaped n [] e = grind arith
shaped n (c ∷ []) e = (omega arith, λ _. refl, e)
shaped n (c ∷ d ∷ ds) e = (omega arith, grind (arith, nat_tests), grind (arith, nat_tests))

zero-or : (n : ℕ) → (n ≡ 0) ⊎ (0 < n)
zero-or n = ⊎_elim (λ e. inl e) (λ ne. inr (omega arith)) (cases_eq n 0)

reads : (n : ℕ) → n < 2 ^ 64 → number_of (decimal n) ≡ Some n
reads n small =
    let d = digits_decimal own n small in
    let v = digits_value-decimal own n small in
    let one : get_or (decimal n) 0 0 ≡ 48 → length (decimal n) ≡ 1 =
    ⊎_elim (λ z. λ _. ap length (decimal_digit n (omega arith))) (λ p. λ e. absurd (omega (arith, first_decimal n p small))) (zero-or n) in
    shape (decimal n) (decimal_nonempty n small) one ∙ run 0 (decimal n) d ∙ ap Some v

writes : (n : ℕ) (s : List ℕ) → n < 2 ^ 64 → number_of s ≡ Some n → decimal n ≡ s
writes n s small e = let h = shaped n s e in let r = ran 0 n s h.2 in
    ap decimal r.1 ∙ decimal-digits_value own s r.0 h.0 h.1 (omega arith)

pub within-some : (low high n : ℕ) (o : Option ℕ) → within low high o ≡ Some n → (o ≡ Some n) × (low ≤ n) × (n ≤ high)
within-some low high n None e = grind arith
within-some low high n (Some m) e = grind (arith, nat_tests)

within-at : (low high n : ℕ) (o : Option ℕ) → o ≡ Some n → low ≤ n → n ≤ high → within low high o ≡ Some n
within-at low high n None e lo hi = grind arith
within-at low high n (Some m) e lo hi = grind (arith, nat_tests)

pub numbers-round : NumbersRound
numbers-round = record {
  read-back = λ low high n small lo hi. within-at low high n (number_of (decimal n)) (reads n (omega arith)) lo hi;
  written-back = λ low high n s small e. let h = within-some low high n (number_of s) e in (writes n s (omega (arith, h.2)) h.0, h.1, h.2);
}
