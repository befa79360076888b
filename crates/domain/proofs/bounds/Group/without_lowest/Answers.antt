-- The second half is sound, and it is the one defined.
use Rattle.std.proofs.Common.{◌≡◌, sym, ap, ◌∙◌, subst}
use Rattle.places.specs.Members.{minus, intersection}
use Rattle.domain.specs.Groups.{group_second}
use Rattle.domain.proofs.bounds.Group.without_lowest.Goals as goal

pub invariant_of-result : goal.invariant_of-result
invariant_of-result c = record {
  ok = subst (λ n. intersection c.args.self.sure.bits n ≡ c.args.self.sure.bits) (sym (c.without.ensures ∙ ap (minus c.args.self.possible.bits) c.requires))
      (group_second c.args.self).ok;
}
