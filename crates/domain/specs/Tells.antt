-- What a propagator tells one cell.
use Rattle.std.specs.Prelude.{◌≡◌, Some, None, Option}

-- Bounds p that are told t become bounds that allow exactly those values of p that pass t, or nothing where none of them passes.
pub record TellLaws {P V K : Type 0} (allows : P → V → Type 0) (passes : K → V → Type 0) (meet : K → P → Option P) : Type 0 where
  pub only : (t : K) (p q : P) → meet t p ≡ Some q → (v : V) → allows q v → allows p v
  pub passed : (t : K) (p q : P) → meet t p ≡ Some q → (v : V) → allows q v → passes t v
  pub each : (t : K) (p q : P) → meet t p ≡ Some q → (v : V) → allows p v → passes t v → allows q v
  pub none : (t : K) (p : P) → meet t p ≡ None → (v : V) → allows p v → passes t v → ⊥
