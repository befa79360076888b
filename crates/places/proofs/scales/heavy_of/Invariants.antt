-- What is found, and what is still to be found in the rest, are the places looked for.
use Rattle.std.proofs.Common.{◌≡◌, ◌+◌, ◌^◌, ◌<◌, ltb}
use lib.Bits.{bit_or}
use Rattle.places.specs.Sums.{sieve}
use Rattle.places.proofs.scales.heavy_of.Given as goal

abbrev pub invariant-loop-rest : goal.invariant-loop-rest
invariant-loop-rest l = (bit_or l.found (sieve (λ w. ltb l.high (l.sure + w)) l.weights l.rest) ≡ sieve (λ w. ltb l.high (l.sure + w)) l.weights l.initial.rest) × (l.rest < 2 ^ 64)

abbrev pub decreases-loop-rest : goal.decreases-loop-rest
decreases-loop-rest l = l.rest
