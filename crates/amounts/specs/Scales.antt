-- The words over a group, A, and a number, n: count and weigh.
use Rattle.std.specs.Prelude.{◌≡◌, ℕ, ◌+◌, ◌-◌, cond, List, Option, ◌==◌, nat_lt}
use Rattle.places.specs.Members.{none, minus, count}
use Rattle.places.specs.Sums.{weigh, sieve}
use Rattle.domain.specs.declared.bounds.BaleSet.{BaleSet}
use Rattle.domain.specs.declared.bounds.Group.{Group}
use Rattle.domain.specs.declared.bounds.GroupTell.{GroupTell}
use Rattle.domain.specs.declared.bounds.Number.{Number}
use Rattle.domain.specs.declared.bounds.NumberTell.{NumberTell}
use Rattle.domain.specs.declared.mixed.Either.TheVariants.{Left, Right}
use Rattle.domain.specs.Groups.{undecided}
use Rattle.engine.specs.Parts.{first_of, second_of, left_of, right_of}
use Rattle.engine.specs.Arity.{two_narrowed, TwoHold}
use Rattle.words.specs.Cells.{Cell, Value, cell_meet}
use Rattle.words.specs.Tells.{sure, possible, told}
use Rattle.amounts.specs.Numbers.{told_below}

-- a number's low is raised to the first figure, and its high is lowered to the second
abbrev pub between : ℕ → ℕ → NumberTell
between least most = told_below least (most + 1)

-- ---- count: n bales are in A

abbrev pub CountHolds : BaleSet → ℕ → Type 0
CountHolds a n = count a.places.bits ≡ n

-- n's low is raised to the count of A's sure bales, and its high lowered to the count of A's possible ones. If low is the count of the possible
-- bales, the sure bales gain them; if high is the count of the sure bales, the possible ones keep only these
abbrev pub count_tells : Group → Number → GroupTell × NumberTell
count_tells a n = (
  told (cond (n.low == count (possible a)) (possible a) none) (cond (n.high == count (sure a)) (sure a) (possible a)),
  between (count (sure a)) (count (possible a)),
)

-- ---- weigh: A weighs n, where the bales have the weights ws

abbrev pub WeighHolds : List ℕ → BaleSet → ℕ → Type 0
WeighHolds ws a n = weigh ws a.places.bits ≡ n

-- the undecided bales without which the possible weight is below low
abbrev pub needed : List ℕ → Group → ℕ → ℕ
needed ws a low = sieve (λ w. nat_lt (weigh ws (possible a) - w) low) ws (undecided a)

-- the undecided bales with which the sure weight is above high
abbrev pub excess : List ℕ → Group → ℕ → ℕ
excess ws a high = sieve (λ w. nat_lt high (weigh ws (sure a) + w)) ws (undecided a)

-- n's low is raised to the weight of A's sure bales, and its high lowered to the weight of A's possible ones. An undecided bale is sure if the
-- possible weight less its own is below low, and goes if the sure weight plus its own is above high
abbrev pub weigh_tells : List ℕ → Group → Number → GroupTell × NumberTell
weigh_tells ws a n = (told (needed ws a n.low) (minus (possible a) (excess ws a n.high)), between (weigh ws (sure a)) (weigh ws (possible a)))

-- ---- on rows: a row is let be, and nothing is said of it, where the first cell is no group or the second no number

abbrev pub narrowed_scales : (Group → Number → GroupTell × NumberTell) → ℕ → ℕ → List Cell → Option (List Cell)
narrowed_scales tells = two_narrowed cell_meet first_of second_of Left Right tells

abbrev pub HoldsScales : (BaleSet → ℕ → Type 0) → ℕ → ℕ → List Value → Type 0
HoldsScales holds = TwoHold left_of right_of holds
