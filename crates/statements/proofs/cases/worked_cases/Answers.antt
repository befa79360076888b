-- The worked cases, computed.
use Rattle.std.proofs.Common.{◌≡◌, [], ◌∷◌, Some, sym, refl, ap, subst, ap₂, lit≤}
use lib.Count.{ones}
use Rattle.domain.specs.declared.mixed.Mixed.TheVariants.{First, Second}
use Rattle.domain.specs.declared.bounds.Group.{Group}
use Rattle.domain.specs.declared.bounds.Number.{Number}
use Rattle.domain.specs.Groups.{group_of}
use Rattle.domain.specs.Numbers.{number_of}
use Rattle.domain.specs.GroupsLemmas.{group-eq}
use Rattle.domain.specs.NumbersLemmas.{number-eq}
use Rattle.places.specs.Members.{one, up_to}
use Rattle.words.specs.Cells.{Cell}
use Rattle.amounts.specs.Scales.{weigh_tells, narrowed_scales}
use Rattle.statements.specs.Cases.{group, number}
use Rattle.statements.proofs.cases.worked_cases.Goals as goal

-- cells with the same ends are the same
same-groups : (p q : Group) → p.sure.bits ≡ q.sure.bits → p.possible.bits ≡ q.possible.bits → ◌≡◌ {A = Cell} (First p) (First q)
same-groups p q e f = ap First (group-eq p q e f)

same-numbers : (p q : Number) → p.low ≡ q.low → p.high ≡ q.high → ◌≡◌ {A = Cell} (Second p) (Second q)
same-numbers p q e f = ap Second (number-eq p q e f)

three : {p p' q q' r r' : Cell} → p ≡ p' → q ≡ q' → r ≡ r' → Some (p ∷ (q ∷ (r ∷ []))) ≡ Some (p' ∷ (q' ∷ (r' ∷ [])))
three e f g = λ i. Some (e i ∷ (f i ∷ (g i ∷ [])))

pub returns : goal.returns
unfolding group_of number_of ones
returns c = record {
  within = λ b. ap₂ (λ p q. Some (p ∷ (q ∷ []))) (same-groups _ _ refl refl) (same-groups _ _ refl refl);
  counted = λ b. ap₂ (λ p q. Some (p ∷ (q ∷ []))) (same-groups _ _ refl refl) (same-numbers _ _ refl refl);
  weighed = λ b e. subst (λ ws. narrowed_scales (weigh_tells ws) 0 1 (group (one 2) (up_to 2) refl ∷ (number 0 100 (lit≤ tt) (lit≤ tt) ∷ [])) ≡ Some (group (one 2) (up_to 2) refl ∷ (number 3 7 (lit≤ tt) (lit≤ tt) ∷ []))) (sym e)
      (ap₂ (λ p q. Some (p ∷ (q ∷ []))) (same-groups _ _ refl refl) (same-numbers _ _ refl refl));
  united = λ b. three (same-groups _ _ refl refl) (same-groups _ _ refl refl) (same-groups _ _ refl refl);
  apart-from-itself = λ b. ap (λ p. Some (p ∷ [])) (same-groups _ _ refl refl);
  summed = λ b. three (same-numbers _ _ refl refl) (same-numbers _ _ refl refl) (same-numbers _ _ refl refl);
}
