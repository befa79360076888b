-- One cell is told, then the others.
use Rattle.std.proofs.Common.{map}
use Rattle.engine.proofs.Firing.{both-fire, begun}
use Rattle.engine.proofs.telling.+tell_all.Goals as goal

pub returns : goal.returns
returns g n = λ c.
    let t = c.in-Some.first.now in
    let ts = c.in-Some.others.now in
    begun g.D.Domain.meet t ts c.args.tells.now c.args.row.now c.joined.new.row c.joined.result c.in-Some.ensures.cases.0
    (both-fire g.met.D.Domain.bounds g.met.D.Domain.tells t.0 t.1.now (map (λ u. u.0) ts) (map (λ u. u.1.now) ts)
    c.args.row.now _ c.tell_all-more.new.row c.in_ok-changed.changed c.tell_all-more.result c.joined.result c.cell_at-old.result c.joined.new.row
    c.cell_at-old.ensures c.in_ok-changed.ensures c.tell_all-more.ensures c.joined.ensures.row c.joined.ensures.answer)
