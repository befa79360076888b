use Rattle.std.proofs.Common.{length}
use Rattle.text.specs.Parts.{parts_of}
use Rattle.text.specs.Lists.{rising}
use Rattle.text.proofs.Rising.{Reading}
use Rattle.text.proofs.list.read.parse_places.Given as goal

abbrev pub invariant-loop-part : goal.invariant-loop-part
invariant-loop-part l = Reading (parts_of 43 l.text) (length l.yielded) l.bits l.last (rising 0 (parts_of 43 l.text))
