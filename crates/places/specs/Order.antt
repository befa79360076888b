-- The order of sets.
use Rattle.std.specs.Prelude.{◌≡◌, ℕ, ◌<◌, T}
use Rattle.places.specs.Members.{has}

-- u has the lowest place in which u and v differ
abbrev pub Before : ℕ → ℕ → Type 0
Before u v = (k : ℕ) × T (has k u) × (T (has k v) → ⊥) × ((j : ℕ) → j < k → has j u ≡ has j v)
