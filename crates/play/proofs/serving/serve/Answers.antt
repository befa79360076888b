-- Each call is served as the sheet's own call ensures.
use Rattle.meaning.proofs.Laws.{LawfulHalves}
use Rattle.sheet.specs.Sheets.{told_of, bounds_of}
use Rattle.play.specs.Plays.{answer_of}
use Rattle.play.proofs.Served.{serves-declare, serves-state, serves-ask, serves-settle}
use Rattle.play.proofs.serving.serve.Given as given
use Rattle.play.proofs.serving.serve.Goals as goal

laws : (g : given.Over) (b : g.row.B.Denot) → LawfulHalves g.C.Domain g.C.Halves g.R.Propagator b
laws g b = record {
  lawful = record {
    bounds = g.met.C.Domain.bounds;
    heights = g.met.C.Domain.heights;
    narrowing = g.met.R.Propagator.narrowing b;
    relation = g.met.R.Propagator.relation b;
    fitting = g.met.R.Propagator.fitting b;
  };
  split = g.met.C.Halves.halves;
}

pub returns-in-Declare : goal.returns-in-Declare
returns-in-Declare g c asked h =
    serves-declare (laws g) g.E.Entered (told_of c.args.sheet.now) (told_of c.declare.new.self) (bounds_of c.args.sheet.now) (bounds_of c.declare.new.self)
    c.in-Declare.line c.in-Declare.cell c.in-Declare.bounds c.declare.result c.args.call (answer_of c.taken.result) c.in-Declare.is c.taken.ensures c.declare.ensures h

pub returns-in-State : goal.returns-in-State
returns-in-State g c asked h =
    serves-state (laws g) g.E.Entered (told_of c.args.sheet.now) (told_of c.state.new.self) (bounds_of c.args.sheet.now) (bounds_of c.state.new.self) c.args.memory.now c.state.new.spare
    c.in-State.line c.in-State.spare c.in-State.rule c.state.result c.args.call (answer_of c.taken-in-State.result) c.in-State.is asked c.taken-in-State.ensures c.state.ensures h
