-- The first half is sound, and it is the one defined.
use Rattle.std.proofs.Common.{◌≡◌, sym, ap, ◌∙◌, subst}
use Rattle.places.specs.Members.{union, intersection}
use Rattle.domain.specs.Groups.{group_first}
use Rattle.domain.proofs.bounds.Group.with_lowest.Goals as goal

pub invariant_of-result : goal.invariant_of-result
invariant_of-result c = record {
  ok = subst (λ n. intersection n c.args.self.possible.bits ≡ n) (sym (c.union.ensures ∙ ap (union c.args.self.sure.bits) c.requires)) (group_first c.args.self).ok;
}
