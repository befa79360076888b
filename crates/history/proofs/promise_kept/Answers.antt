-- The laws of the kind, of its halves and of the propagators, for every book; and what follows for every history.
use Rattle.history.proofs.Promises.{promise}
use Rattle.history.proofs.promise_kept.Goals as goal

pub returns : goal.returns
returns g c = promise (λ b. record {
  lawful = record {
    bounds = g.met.C.Domain.bounds;
    heights = g.met.C.Domain.heights;
    narrowing = g.met.R.Propagator.narrowing b;
    relation = g.met.R.Propagator.relation b;
    fitting = g.met.R.Propagator.fitting b;
  };
  split = g.met.C.Halves.halves;
}) g.E.Entered
