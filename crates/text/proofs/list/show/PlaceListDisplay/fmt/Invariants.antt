use Rattle.text.specs.Lists.{listed}
use Rattle.text.proofs.Shown.{Writing}
use Rattle.text.proofs.list.show.PlaceListDisplay.fmt.Given as goal

abbrev pub invariant-loop-place : goal.invariant-loop-place
invariant-loop-place g l = Writing g.W.Write.write_str_gives (listed l.self) l.initial.f l.place l.rest l.before l.f
