-- The laws of union, both and less on their groups.
use Rattle.std.specs.Prelude.{not, ◌&&◌, ◌||◌}
use Rattle.places.specs.Tables.{agree}
use Rattle.places.proofs.Tables.{agree-eq, eq-agree}
use Rattle.domain.specs.Groups.{GroupAllows, group_height, GroupPasses}
use Rattle.engine.specs.Arity.{ThreeLaws}
use Rattle.words.specs.Tells.{member}
use Rattle.words.specs.Triples.{union_tells, UnionHolds, both_tells, BothHold, less_tells, LessHolds}
use Rattle.words.specs.Places.{sure_a, possible_a, sure_b, possible_b, sure_c, possible_c, ◌∩◌, ◌∪◌, ◌∖◌, Word}
use Rattle.words.specs.Carrying.{three-carried, three-said}

abbrev union-word : Word
union-word = record { relation = λ a b c. agree c (a || b); gain-a = sure_c ∖ possible_b; keep-a = possible_c; gain-b = sure_c ∖ possible_a; keep-b = possible_c; gain-c = sure_a ∪ sure_b; keep-c = possible_a ∪ possible_b }

pub union-laws : ThreeLaws GroupAllows group_height GroupPasses union_tells UnionHolds
union-laws = three-said (three-carried union-word (record { monotone = tt; keeps = tt; exact = tt }))
    (λ a b c h k. eq-agree (member k c) (member k a || member k b) (h k)) (λ a b c h k. agree-eq (member k c) (member k a || member k b) (h k))

abbrev both-word : Word
both-word = record { relation = λ a b c. agree c (a && b); gain-a = sure_c; keep-a = possible_a ∖ (sure_b ∖ possible_c); gain-b = sure_c; keep-b = possible_b ∖ (sure_a ∖ possible_c); gain-c = sure_a ∩ sure_b; keep-c = possible_a ∩ possible_b }

pub both-laws : ThreeLaws GroupAllows group_height GroupPasses both_tells BothHold
both-laws = three-said (three-carried both-word (record { monotone = tt; keeps = tt; exact = tt }))
    (λ a b c h k. eq-agree (member k c) (member k a && member k b) (h k)) (λ a b c h k. agree-eq (member k c) (member k a && member k b) (h k))

abbrev less-word : Word
less-word = record { relation = λ a b c. agree c (a && not b); gain-a = sure_c; keep-a = possible_b ∪ possible_c; gain-b = sure_a ∖ possible_c; keep-b = possible_b ∖ sure_c; gain-c = sure_a ∖ possible_b; keep-c = possible_a ∖ sure_b }

pub less-laws : ThreeLaws GroupAllows group_height GroupPasses less_tells LessHolds
less-laws = three-said (three-carried less-word (record { monotone = tt; keeps = tt; exact = tt }))
    (λ a b c h k. eq-agree (member k c) (member k a && not (member k b)) (h k)) (λ a b c h k. agree-eq (member k c) (member k a && not (member k b)) (h k))
