-- Bounds with these ends, or none, as defined.
use Rattle.std.proofs.Common.{refl}
use Rattle.domain.specs.NumbersLemmas.{number-some, number-none}
use Rattle.domain.proofs.bounds.Number.of.Goals as goal

pub returns-then-low-end : goal.returns-then-low-end
returns-then-low-end c = number-some c.args.low c.args.end _ c.requires c.if-low-end.true refl refl

pub returns-else-low-end : goal.returns-else-low-end
returns-else-low-end c = number-none c.args.low c.args.end c.if-low-end.false
