-- The laws of sub, same and apart on their groups.
use Rattle.std.specs.Prelude.{Bool, true, false, not, ◌&&◌, T, refl}
use Rattle.places.specs.Tables.{◌⇒◌, agree}
use Rattle.places.proofs.Tables.{follows, implied, agree-eq, eq-agree}
use Rattle.domain.specs.Groups.{GroupAllows, group_height, GroupPasses}
use Rattle.engine.specs.Arity.{TwoLaws}
use Rattle.words.specs.Tells.{member}
use Rattle.words.specs.Pairs.{sub_tells, SubHolds, same_tells, SameHolds, apart_tells, ApartHolds}
use Rattle.words.specs.Places.{no_places, sure_a, possible_a, sure_b, possible_b, sure_c, possible_c, ◌∖◌, Word}
use Rattle.words.specs.Carrying.{two-carried, two-said}

abbrev sub-word : Word
sub-word = record { relation = λ a b c. a ⇒ b; gain-a = no_places; keep-a = possible_b; gain-b = sure_a; keep-b = possible_b; gain-c = sure_c; keep-c = possible_c }

pub sub-laws : TwoLaws GroupAllows group_height GroupPasses GroupAllows group_height GroupPasses sub_tells SubHolds
sub-laws = two-said (two-carried sub-word (record { monotone = tt; keeps = tt; exact = tt }) refl refl)
    (λ a b h k. implied (member k a) (member k b) (h k)) (λ a b h k. follows (member k a) (member k b) (h k))

abbrev same-word : Word
same-word = record { relation = λ a b c. agree a b; gain-a = sure_b; keep-a = possible_b; gain-b = sure_a; keep-b = possible_a; gain-c = sure_c; keep-c = possible_c }

pub same-laws : TwoLaws GroupAllows group_height GroupPasses GroupAllows group_height GroupPasses same_tells SameHolds
same-laws = two-said (two-carried same-word (record { monotone = tt; keeps = tt; exact = tt }) refl refl)
    (λ a b h k. eq-agree (member k a) (member k b) (h k)) (λ a b h k. agree-eq (member k a) (member k b) (h k))

not-both : (a b : Bool) → (T a → T b → ⊥) → T (not (a && b))
not-both true true f = f tt tt
not-both true false f = tt
not-both false b f = tt

both-not : (a b : Bool) → T (not (a && b)) → T a → T b → ⊥
both-not true true t s r = t
both-not true false t s r = r
both-not false b t s r = s

abbrev apart-word : Word
apart-word = record { relation = λ a b c. not (a && b); gain-a = no_places; keep-a = possible_a ∖ sure_b; gain-b = no_places; keep-b = possible_b ∖ sure_a; gain-c = sure_c; keep-c = possible_c }

pub apart-laws : TwoLaws GroupAllows group_height GroupPasses GroupAllows group_height GroupPasses apart_tells ApartHolds
apart-laws = two-said (two-carried apart-word (record { monotone = tt; keeps = tt; exact = tt }) refl refl)
    (λ a b h k. not-both (member k a) (member k b) (h k)) (λ a b h k. both-not (member k a) (member k b) (h k))
