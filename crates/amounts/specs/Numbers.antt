-- The words over numbers, u, v and w: sum and most.
use Rattle.std.specs.Prelude.{◌≡◌, ℕ, ◌+◌, ◌-◌, ◌≤◌}
use Rattle.domain.specs.declared.bounds.Number.{Number}
use Rattle.domain.specs.declared.bounds.NumberTell.{NumberTell}

-- a number's low end is raised to l and its high end lowered to the last number below e
abbrev pub told_below : ℕ → ℕ → NumberTell
told_below l e = record { raise = l; below = e }

-- ---- sum: u + v = w

abbrev pub SumHolds : ℕ → ℕ → ℕ → Type 0
SumHolds u v w = u + v ≡ w

-- u's low end is raised to w's low less v's high, and its high end lowered to w's high less v's low; v's likewise. w's low end is raised to the
-- sum of the lows, and its high end lowered to the sum of the highs. A low end less a higher high end is 0, which raises nothing; what is below
-- w's high and 1, less v's low, is nothing at all where v's low is above w's high
abbrev pub sum_tells : Number → Number → Number → NumberTell × NumberTell × NumberTell
sum_tells u v w = (
  told_below (w.low - v.high) ((w.high + 1) - v.low),
  told_below (w.low - u.high) ((w.high + 1) - u.low),
  told_below (u.low + v.low) ((u.high + v.high) + 1),
)

-- ---- most: u at most v

abbrev pub MostHolds : ℕ → ℕ → Type 0
MostHolds u v = u ≤ v

-- u's high end is lowered to v's, and v's low end raised to u's
abbrev pub most_tells : Number → Number → NumberTell × NumberTell
most_tells u v = (told_below u.low (v.high + 1), told_below u.low (v.high + 1))
