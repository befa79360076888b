-- The laws of the kind, of its halves and of the propagators, and what follows from them.
use Rattle.meaning.proofs.Stands.{search-theorems}
use Rattle.meaning.proofs.search_theorems.Goals as goal

pub returns : goal.returns
returns g c = search-theorems (record {
  lawful = record {
    bounds = g.met.C.Domain.bounds;
    heights = g.met.C.Domain.heights;
    narrowing = g.met.R.Propagator.narrowing c.args.book.now;
    relation = g.met.R.Propagator.relation c.args.book.now;
    fitting = g.met.R.Propagator.fitting c.args.book.now;
  };
  split = g.met.C.Halves.halves;
})
