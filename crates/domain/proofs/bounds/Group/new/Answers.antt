-- The test fails only where a sure bale is not possible; what is found is what the definition finds.
use Rattle.std.proofs.Common.{Some, None, T, sym, refl, subst}
use Rattle.places.specs.Members.{Sub}
use Rattle.places.proofs.Members.{subset-each}
use Rattle.domain.specs.GroupsLemmas.{group-of}
use Rattle.domain.proofs.bounds.Group.new.Goals as goal

pub returns-then-is_subset-clause-named : goal.returns-then-is_subset-clause-named
returns-then-is_subset-clause-named c = group-of c.args.sure c.args.possible (Some _) (refl, refl)

pub returns-else-is_subset : goal.returns-else-is_subset
returns-else-is_subset c =
    let none : Sub c.args.sure.bits c.args.possible.bits → ⊥ = (λ s. subst T (sym c.if-is_subset.ensures) (subset-each _ _ s)) in
    record { cases = none; named = group-of c.args.sure c.args.possible None none }
