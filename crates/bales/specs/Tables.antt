-- The weights of bales in the order of their places, and as a table of 64.
use Rattle.std.specs.Prelude.{ℕ, ◌-◌, List, ◌++◌, map, length, replicate}
use Rattle.bales.specs.declared.list.Bale.{Bale}

abbrev pub weights : List Bale → List ℕ
weights bs = map (λ b. b.weight.number) bs

-- with 0 for each place past the last bale
abbrev pub table_of : List ℕ → List ℕ
table_of ws = ws ++ replicate (64 - length ws) 0
