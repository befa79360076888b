-- The lowest place of a set.
use Rattle.std.specs.Prelude.{◌≡◌, ℕ, ◌-◌, ◌<◌, false, T}
use Rattle.places.specs.Members.{has, minus}

-- k is in n, and nothing below it is
abbrev pub First : ℕ → ℕ → Type 0
First k n = T (has k n) × ((j : ℕ) → j < k → has j n ≡ false)

-- the lowest place alone: n less 1 lacks it, and has every place of n above it
abbrev pub lowest : ℕ → ℕ
lowest n = minus n (n - 1)
