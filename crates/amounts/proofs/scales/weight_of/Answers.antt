-- Places past the last bale weigh nothing.
use Rattle.std.proofs.Common.{◌-◌, length, ap, ◌∙◌}
use Rattle.places.specs.Sums.{weigh}
use Rattle.places.proofs.Sums.{weigh-padded}
use Rattle.bales.specs.Lists.{closed_weights}
use Rattle.amounts.proofs.scales.weight_of.Goals as goal

pub returns : goal.returns
returns c =
    let ws = closed_weights c.args.list.now in record {
      sum = c.weight.ensures.sum ∙ ap (λ t. weigh t c.args.set.bits) c.table.ensures ∙ weigh-padded ws (64 - length ws) c.args.set.bits;
      small = c.weight.ensures.small;
    }
