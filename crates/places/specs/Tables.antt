-- Laws of bits, tested at every row of their truth table.
use Rattle.std.specs.Prelude.{ℕ, zero, suc, Bool, true, false, not, ◌&&◌, T}

infixr 4 ◌⇒◌
abbrev pub ◌⇒◌ : Bool → Bool → Bool
true ⇒ b = b
false ⇒ b = true

-- both or neither
abbrev pub agree : Bool → Bool → Bool
agree true b = b
agree false b = not b

-- exactly one of two
abbrev pub differ : Bool → Bool → Bool
differ true b = not b
differ false b = b

-- a test of n bits
abbrev pub Test : ℕ → Type 0
Test zero = Bool
Test (suc n) = Bool → Test n

-- it passes at all rows
abbrev pub rows : (n : ℕ) → Test n → Bool
rows zero f = f
rows (suc n) f = rows n (f true) && rows n (f false)

-- it passes, at whichever bits
abbrev pub Holds : (n : ℕ) → Test n → Type 0
Holds zero f = T f
Holds (suc n) f = (b : Bool) → Holds n (f b)
