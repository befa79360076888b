-- The possible weight less a bale's own is below `low` exactly where `low` and its own are above the possible weight.
use Rattle.std.proofs.Common.{◌≡◌, ℕ, ◌+◌, ltb, List, ◌∙◌, ap₂}
use Rattle.places.specs.Sums.{weigh, sieve}
use Rattle.places.proofs.Sums.{missed-above}
use Rattle.bales.specs.Lists.{closed_weights}
use Rattle.domain.specs.declared.bounds.Group.{Group}
use Rattle.domain.specs.Groups.{undecided}
use Rattle.words.specs.Tells.{sure, possible}
use Rattle.amounts.specs.Scales.{needed}
use Rattle.amounts.proofs.scales.needed.Goals as goal

found : (ws : List ℕ) (a : Group) (low most loose set : ℕ) → set ≡ sieve (λ w. ltb most (low + w)) ws loose → most ≡ weigh ws (possible a) → loose ≡ undecided a → set ≡ needed ws a low
found ws a low most loose set e f g = e ∙ ap₂ (λ m s. sieve (λ w. ltb m (low + w)) ws s) f g ∙ missed-above ws low (possible a) (sure a)

pub returns : goal.returns
returns c = found (closed_weights c.args.list.now) c.args.a c.args.low c.args.most c.undecided.result.bits c.too_heavy.result.bits c.too_heavy.ensures c.requires c.undecided.ensures
