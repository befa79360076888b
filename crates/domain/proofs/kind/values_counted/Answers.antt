-- The count follows from the laws of any kind.
use Rattle.domain.proofs.Counts.{counting}
use Rattle.domain.proofs.kind.values_counted.Goals as goal

pub returns : goal.returns
returns g c = counting g.met.D.Domain.bounds g.met.D.Domain.heights g.met.D.Halves.halves c.args.bounds
