-- The sheet holds the standing bounds, the answers so far make a history, and no call so far asked for too much.
use Rattle.std.proofs.Common.{map, length, take, vec_items}
use Rattle.history.specs.Histories.{History}
use Rattle.history.specs.Holds.{Holds}
use Rattle.sheet.specs.Sheets.{told_of, bounds_of}
use Rattle.play.specs.Plays.{answer_of}
use Rattle.play.proofs.Played.{Roomy}
use Rattle.play.proofs.playing.play.Given as goal

abbrev pub invariant-loop-i : goal.invariant-loop-i
invariant-loop-i g l =
    Holds g.C.Domain g.R.Propagator (told_of l.sheet) (bounds_of l.sheet)
    × History g.C.Domain g.C.Halves g.R.Propagator g.E.Entered l.initial.sheet.book (take l.i l.calls) (map answer_of (vec_items l.answers)) (told_of l.sheet)
    × Roomy l.calls (length l.initial.memory) l.i
