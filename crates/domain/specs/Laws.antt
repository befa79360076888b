-- The laws of a kind of cell: what bounds allow, how high they stand, and how they are split.
use Rattle.std.specs.Prelude.{◌≡◌, ℕ, ◌<◌, Bool, T, ◌⊎◌, ◌≢◌}

-- each value that p allows, q allows
abbrev pub Within : {P V : Type 0} → (P → V → Type 0) → P → P → Type 0
Within {P} {V} allows p q = (v : V) → allows p v → allows q v

-- any two values that p allows are one
abbrev pub OneValue : {P V : Type 0} → (P → V → Type 0) → P → Type 0
OneValue {P} {V} allows p = (u v : V) → allows p u → allows p v → u ≡ v

-- Bounds are never empty. They are inside others exactly when those allow all their values. Bounds that allow the same values are equal.
pub record BoundsLaws {P V : Type 0} (allows : P → V → Type 0) (sample : P → V) (inside : P → P → Bool) : Type 0 where
  pub some : (p : P) → allows p (sample p)
  pub inside-only : (p q : P) → T (inside p q) → Within allows p q
  pub inside-each : (p q : P) → Within allows p q → T (inside p q)
  pub same : (p q : P) → Within allows p q → Within allows q p → p ≡ q

-- Bounds strictly inside others have a lower height. It is 0 exactly where one value is allowed: the bounds are then single.
pub record HeightLaws {P V : Type 0} (allows : P → V → Type 0) (height : P → ℕ) : Type 0 where
  pub lower : (p q : P) → Within allows p q → (p ≢ q) → height p < height q
  pub single-only : (p : P) → height p ≡ 0 → OneValue allows p
  pub single-each : (p : P) → OneValue allows p → height p ≡ 0

-- Values have a total order. Bounds not single are split into two halves inside them; each allowed value is in one of them, and all
-- values of the first come before all of the second, so that none is in both. Neither half is empty, since no bounds are.
pub record HalvesLaws {P V : Type 0} (allows : P → V → Type 0) (height : P → ℕ) (before : V → V → Type 0) (first second : P → P) : Type 0 where
  pub irreflexive : (v : V) → before v v → ⊥
  pub transitive : (u v w : V) → before u v → before v w → before u w
  pub total : (u v : V) → before u v ⊎ ((u ≡ v) ⊎ before v u)
  pub first-inside : (p : P) → 0 < height p → Within allows (first p) p
  pub second-inside : (p : P) → 0 < height p → Within allows (second p) p
  pub covered : (p : P) → 0 < height p → (v : V) → allows p v → allows (first p) v ⊎ allows (second p) v
  pub ordered : (p : P) → 0 < height p → (u v : V) → allows (first p) u → allows (second p) v → before u v
