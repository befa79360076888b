-- Each reason comes before those after it.
use Rattle.std.proofs.Common.{rules}
use Rattle.engine.proofs.Fitting.{or-else, in-turn}
use Rattle.engine.proofs.misfit.first_misfit.Goals as goal

pub returns : goal.returns
returns c = search (or-else, in-turn, rules)
