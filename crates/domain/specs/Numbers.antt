-- The bounds of a number: all values from low to high.
use Rattle.std.specs.Prelude.{◌≡◌, ℕ, ◌+◌, ◌-◌, ◌/◌, ◌<◌, ◌≤◌, min, max, Bool, true, false, ◌&&◌, Some, None, Option, nat_le, nat_lt, refl}
use Rattle.std.proofs.Common.{arith, ltb-true}
use Rattle.domain.specs.declared.bounds.Number.{Number}
use Rattle.domain.specs.declared.bounds.NumberTell.{NumberTell}

abbrev pub NumberAllows : Number → ℕ → Type 0
NumberAllows p v = (p.low ≤ v) × (v ≤ p.high)

abbrev pub number_sample : Number → ℕ
number_sample p = p.low

abbrev pub number_inside : Number → Number → Bool
number_inside p q = nat_le q.low p.low && nat_le p.high q.high

abbrev pub number_height : Number → ℕ
number_height p = p.high - p.low

-- it is at least `raise` and below `below`
abbrev pub NumberPasses : NumberTell → ℕ → Type 0
NumberPasses t v = (t.raise ≤ v) × (v < t.below)

-- the bounds from l to the last value before e, as the test of l below e turns out
abbrev pub number_if : (l e : ℕ) → e ≤ 1000001 → (b : Bool) → nat_lt l e ≡ b → Option Number
number_if l e h true f = Some (record { low = l; high = e - 1; ok = (omega (arith, ltb-true l e f), omega arith) })
number_if l e h false f = None

-- all values from l that are below e and at most 1,000,000, or nothing where there are none
unfoldable pub number_of : ℕ → ℕ → Option Number
number_of l e = number_if l (min e 1000001) (omega arith) (nat_lt l (min e 1000001)) refl

abbrev pub number_meet : NumberTell → Number → Option Number
number_meet t p = number_of (max p.low t.raise) (min (p.high + 1) t.below)

-- where a number is split
abbrev pub middle : Number → ℕ
middle p = (p.low + p.high) / 2

-- from low to the middle
abbrev pub number_first : Number → Number
number_first p = record { low = p.low; high = middle p; ok = (omega arith, omega arith) }

-- from the middle and 1 to high; all of a single number
abbrev pub number_second : Number → Number
number_second p = record { low = min (middle p + 1) p.high; high = p.high; ok = (omega arith, p.ok.1) }
