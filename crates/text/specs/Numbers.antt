-- Numbers of a ticket: digits alone, with no zero in front, within a range.
use Rattle.std.specs.Prelude.{◌≡◌, ℕ, ◌+◌, ◌-◌, ◌*◌, ◌^◌, ◌<◌, ◌≤◌, cond, ◌&&◌, List, [], ◌∷◌, Some, None, decimal, Option, Result, ◌==◌, nat_le}
use Rattle.std.specs.Option.{ok_or}
use Rattle.fault.specs.declared.Fault.{Fault}
use Rattle.fault.specs.declared.Refusal.TheVariants.{BadNumber}
use Rattle.fault.specs.Refusals.{fault_of}

-- the number that these digits write after those of n; none where a byte is no digit
abbrev pub digits_on : ℕ → List ℕ → Option ℕ
digits_on n [] = Some n
digits_on n (c ∷ cs) = cond (nat_le 48 c && nat_le c 57) (digits_on (n * 10 + (c - 48)) cs) None

-- the number that a text writes
abbrev pub number_of : List ℕ → Option ℕ
number_of [] = None
number_of (c ∷ []) = digits_on 0 (c ∷ [])
number_of (c ∷ d ∷ ds) = cond (c == 48) None (digits_on 0 (c ∷ d ∷ ds))

-- a number from low to high
abbrev pub within : ℕ → ℕ → Option ℕ → Option ℕ
within low high None = None
within low high (Some n) = cond (nat_le low n && nat_le n high) (Some n) None

-- the number in a field: 4 where it is malformed or out of its range
abbrev pub number_at : ℕ → ℕ → ℕ → ℕ → List ℕ → Result ℕ Fault
number_at low high line field s = ok_or (within low high (number_of s)) (fault_of BadNumber line field)

-- a text is read as n exactly where it is what is written of n, and n is in range
pub record NumbersRound : Type 0 where
  pub read-back : (low high n : ℕ) → high < 2 ^ 64 → low ≤ n → n ≤ high → within low high (number_of (decimal n)) ≡ Some n
  pub written-back : (low high n : ℕ) (s : List ℕ) → high < 2 ^ 64 → within low high (number_of s) ≡ Some n → (decimal n ≡ s) × (low ≤ n) × (n ≤ high)
