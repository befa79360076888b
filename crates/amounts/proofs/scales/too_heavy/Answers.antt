-- Places past the last bale weigh nothing.
use Rattle.std.proofs.Common.{ℕ, ◌+◌, ◌-◌, Bool, ltb, length, ap, ◌∙◌}
use Rattle.places.specs.Sums.{sieve}
use Rattle.places.proofs.Sums.{sieve-padded}
use Rattle.bales.specs.Lists.{closed_weights}
use Rattle.amounts.proofs.scales.too_heavy.Goals as goal

pub returns : goal.returns
returns c =
    let ws = closed_weights c.args.list.now in
    let f : ℕ → Bool = λ w. ltb c.args.high (c.args.sure + w) in
    c.too_heavy.ensures ∙ ap (λ t. sieve f t c.args.set.bits) c.table.ensures ∙ sieve-padded f ws (64 - length ws) c.args.set.bits
