-- A turn decides the lowest place.
use Rattle.std.proofs.Common.{◌+◌, ◌-◌, ltb, sym, ap, ◌∙◌, arith, le-ltb, lt-ltb}
use lib.Bits.{bit_or, or_zero_r, and_le_r}
use Rattle.places.specs.Sums.{sieve}
use Rattle.places.proofs.Sums.{sieve-none, sieve-pass, sieve-fail}
use Rattle.places.proofs.scales.heavy_of.Goals as goal

pub loop-rest-preserved-then-high-sure : goal.loop-rest-preserved-then-high-sure
loop-rest-preserved-then-high-sure c = (
  sieve-pass (λ w. ltb c.args.high (c.args.sure + w)) c.args.weights.now 64 c.loop-rest.rest c.loop-rest.found (omega arith) c.loop-rest.invariant.1 (lt-ltb _ _ c.if-high-sure.true)
      ∙ c.loop-rest.invariant.0,
  omega (arith, and_le_r c.loop-rest.rest (c.loop-rest.rest - 1)),
)

pub loop-rest-preserved : goal.loop-rest-preserved
loop-rest-preserved c = (
  sieve-fail (λ w. ltb c.args.high (c.args.sure + w)) c.args.weights.now 64 c.loop-rest.rest c.loop-rest.found (omega arith) c.loop-rest.invariant.1 (le-ltb _ _ c.if-high-sure.false)
      ∙ c.loop-rest.invariant.0,
  omega (arith, and_le_r c.loop-rest.rest (c.loop-rest.rest - 1)),
)

pub returns : goal.returns
returns c =
    sym (or_zero_r c.loop-rest.found)
    ∙ ap (bit_or c.loop-rest.found) (sym (sieve-none (λ w. ltb c.args.high (c.args.sure + w)) c.args.weights.now))
    ∙ ap (λ n. bit_or c.loop-rest.found (sieve (λ w. ltb c.args.high (c.args.sure + w)) c.args.weights.now n)) (sym c.loop-rest-test.false)
    ∙ c.loop-rest.invariant.0
