-- A number as a value of a ranged type, or as none.
use Rattle.std.specs.Prelude.{◌≡◌, ℕ, ◌≤◌, Option, MatchOption}

-- r is the value of the number n where n is from low to high, and nothing elsewhere
abbrev pub InRange : {X : Type 0} → ℕ → ℕ → (X → ℕ) → ℕ → Option X → Type 0
InRange low high figure n r = MatchOption r (low ≤ n → n ≤ high → ⊥) (λ x. (low ≤ n) × (n ≤ high) × (figure x ≡ n))
