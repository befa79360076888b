-- How many values bounds allow: the length of a list of them in order.
use Rattle.std.specs.Prelude.{◌≡◌, ℕ, ◌+◌, ◌<◌, ◌≤◌, ◌⊎◌, List, [], ◌∷◌, length}
use Rattle.domain.specs.Laws.{Within}

abbrev pub In : {V : Type 0} → V → List V → Type 0
In v [] = ⊥
In v (x ∷ xs) = (v ≡ x) ⊎ In v xs

-- each comes before all that follow it, so that none stands there twice
abbrev pub Ascending : {V : Type 0} → (V → V → Type 0) → List V → Type 0
Ascending before [] = Unit {0}
Ascending {V} before (x ∷ xs) = ((v : V) → In v xs → before x v) × Ascending before xs

-- p allows n values: exactly those of a list in order, n long
pub record Counted {P V : Type 0} (allows : P → V → Type 0) (before : V → V → Type 0) (p : P) (n : ℕ) : Type 0 where
  pub values : List V
  pub ascending : Ascending before values
  pub only : (v : V) → In v values → allows p v
  pub every : (v : V) → allows p v → In v values
  pub long : length values ≡ n

-- The values that p allows can be counted, to one number only and at least to 1; bounds inside p allow no more. Bounds not single allow as
-- many values as both halves together.
pub record Counting {P V : Type 0} (allows : P → V → Type 0) (height : P → ℕ) (before : V → V → Type 0) (first second : P → P) (p : P) : Type 0 where
  pub number : ℕ
  pub counted : Counted allows before p number
  pub some : 1 ≤ number
  pub unique : (n : ℕ) → Counted allows before p n → n ≡ number
  pub no-more : (q : P) (n : ℕ) → Within allows q p → Counted allows before q n → n ≤ number
  pub halves : 0 < height p → (m n : ℕ) → Counted allows before (first p) m → Counted allows before (second p) n → m + n ≡ number
