use Rattle.std.proofs.Common.{refl, arith}
use Rattle.matching.proofs.Runs.{ran}
use Rattle.matching.proofs.listing.run_lines.Goals as goal

pub returns : goal.returns
returns c = ran _ _ _ _ _ c.loop-i.i _ c.loop-i.invariant (omega arith) refl
