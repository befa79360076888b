-- Weights of the places of a set: the weight of place 1 stands first in a list, and a place past the list's end weighs 0.
use Rattle.std.specs.Prelude.{ℕ, zero, ◌+◌, ◌*◌, ◌/◌, Bool, cond, ◌&&◌, List, [], ◌∷◌}
use Rattle.places.specs.Members.{has}

-- the weights of the places of n, added up
abbrev pub weigh : List ℕ → ℕ → ℕ
weigh [] n = 0
weigh (w ∷ ws) n = cond (has zero n) w 0 + weigh ws (n / 2)

-- the places of n whose weight passes the test f
abbrev pub sieve : (ℕ → Bool) → List ℕ → ℕ → ℕ
sieve f [] n = cond (f 0) n 0
sieve f (w ∷ ws) n = cond (has zero n && f w) 1 0 + 2 * sieve f ws (n / 2)
