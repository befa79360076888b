-- The laws of the kind and of the propagators, and what follows from them.
use Rattle.meaning.proofs.Stands.{resting-theorems}
use Rattle.meaning.proofs.resting_theorems.Goals as goal

pub returns : goal.returns
returns g c = resting-theorems (record {
  bounds = g.met.C.Domain.bounds;
  heights = g.met.C.Domain.heights;
  narrowing = g.met.R.Propagator.narrowing c.args.book.now;
  relation = g.met.R.Propagator.relation c.args.book.now;
  fitting = g.met.R.Propagator.fitting c.args.book.now;
})
