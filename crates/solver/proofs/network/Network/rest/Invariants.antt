-- Each resting row inside the first is inside this one, and the rules that do not wait rest.
use Rattle.std.proofs.Common.{◌+◌, ◌*◌, ◌^◌}
use Rattle.solver.specs.Fixpoint.{OfRules, OthersRest}
use Rattle.solver.proofs.Resting.{Holding, total}
use Rattle.solver.proofs.network.Network.rest.Given as goal

abbrev pub invariant-loop-place : goal.invariant-loop-place
invariant-loop-place g l =
    OfRules l.rules l.waiting.bits ×
    (OthersRest g.C.Domain g.R.Propagator l.self.book.now l.rules l.fn.waits.bits l.initial.row →
    Holding g.C.Domain g.R.Propagator l.self.book.now l.rules l.initial.row l.row × OthersRest g.C.Domain g.R.Propagator l.self.book.now l.rules l.waiting.bits l.row)

-- a firing that narrows lowers the row, and any other leaves fewer that wait
abbrev pub decreases-loop-place : goal.decreases-loop-place
decreases-loop-place g l = total g.C.Domain.height l.row * 2 ^ 64 + l.waiting.bits
