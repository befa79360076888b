-- Each call has fewer cells to tell.
use Rattle.std.proofs.Common.{length}
use Rattle.engine.proofs.telling.+tell_all.Given as goal

abbrev pub decreases-tell_all : goal.decreases-tell_all
decreases-tell_all g a = length a.tells.now
