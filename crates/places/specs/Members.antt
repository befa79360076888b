-- A set of places is a number: its binary digits, the lowest first, say of each place from 1 on whether it is in the set.
use Rattle.std.specs.Prelude.{ℕ, zero, suc, ◌-◌, ◌/◌, ◌%◌, ◌^◌, Bool, false, T, ◌==◌, bit_and, bit_or, bit_xor, count_ones}

-- is the place that has k places below it, k + 1, in the set n?
abbrev pub has : ℕ → ℕ → Bool
has zero n = n % 2 == 1
has (suc k) n = has k (n / 2)

-- is the place p in the set n? There is no place 0
abbrev pub holds : ℕ → ℕ → Bool
holds zero n = false
holds (suc k) n = has k n

-- each place of a is a place of b
abbrev pub Sub : ℕ → ℕ → Type 0
Sub a b = (k : ℕ) → T (has k a) → T (has k b)

-- the set with no place
abbrev pub none : ℕ
none = 0

-- the place p alone
abbrev pub one : ℕ → ℕ
one p = 2 ^ (p - 1)

-- the places from 1 to n
abbrev pub up_to : ℕ → ℕ
up_to n = 2 ^ n - 1

-- what is in a or in b
abbrev pub union : ℕ → ℕ → ℕ
union a b = bit_or a b

-- what is in a and in b
abbrev pub intersection : ℕ → ℕ → ℕ
intersection a b = bit_and a b

-- what is in a and not in b
abbrev pub minus : ℕ → ℕ → ℕ
minus a b = bit_xor a (bit_and a b)

-- is each place of a a place of b?
abbrev pub subset : ℕ → ℕ → Bool
subset a b = intersection a b == a

-- how many places n has
abbrev pub count : ℕ → ℕ
count n = count_ones n
