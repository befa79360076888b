-- The last line of a listing.
use Rattle.std.specs.Prelude.{ℕ, List, ◌++◌, codes, decimal}

-- T,lines,refused
abbrev pub totals_text : ℕ → ℕ → List ℕ
totals_text lines refused = codes "T," ++ (decimal lines ++ (codes "," ++ decimal refused))
