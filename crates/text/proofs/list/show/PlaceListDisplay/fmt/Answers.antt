use Rattle.std.proofs.Common.{is_ok, ap, arith}
use Rattle.text.proofs.Shown.{writing-none, writing-take, writing-pass, written-some, written-none}
use Rattle.text.proofs.list.show.PlaceListDisplay.fmt.Goals as goal
use Rattle.text.proofs.list.show.PlaceListDisplay.fmt.Goals.{then-rest-eq1+in_ok-write_place, else-rest-eq1}

pub loop-place-init : goal.loop-place-init
loop-place-init g c = writing-none g.W.Write.write_str_gives c.args.f.now c.args.self.now.bits

pub loop-place-preserved : goal.loop-place-preserved
loop-place-preserved g c =
    elim c.if-rest-eq1.branch [
      | then-rest-eq1+in_ok-write_place w ↦ writing-take g.W.Write.write_str_gives _ _ _ _ _ _ c.loop-place.invariant (omega arith) w.if-rest-eq1.true w.write_place.result _ (ap is_ok w.in_ok-write_place.was) w.write_place.ensures _ _ (ap (λ x. x.now) w.before-is) w.f-is
      | else-rest-eq1 w ↦ writing-pass g.W.Write.write_str_gives _ _ _ _ _ _ c.loop-place.invariant (omega arith) w.if-rest-eq1.false _ _ (ap (λ x. x.now) w.before-is) w.f-is
    ]

pub returns-then-is_empty-clause-writes : goal.returns-then-is_empty-clause-writes
returns-then-is_empty-clause-writes g c plain ok = written-none g.W.Write.write_str_gives _ _ _ _ _ _ c.loop-place.invariant (omega arith) (grind (arith, c.is_empty.ensures, c.if-is_empty.true)) _ _ ok c.write.ensures.writes plain

pub returns-else-is_empty-clause-writes : goal.returns-else-is_empty-clause-writes
returns-else-is_empty-clause-writes g c plain ok = written-some g.W.Write.write_str_gives _ _ _ _ _ _ c.loop-place.invariant (omega arith) (grind (arith, c.is_empty.ensures, c.if-is_empty.false)) plain
