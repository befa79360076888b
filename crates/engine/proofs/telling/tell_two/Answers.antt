-- One cell is told, then what is left.
use Rattle.std.proofs.Common.{[], ◌∷◌}
use Rattle.engine.proofs.Firing.{both-fire}
use Rattle.engine.proofs.telling.tell_two.Goals as goal

pub returns-in-Ok : goal.returns-in-Ok
returns-in-Ok g c =
    both-fire g.met.D.Domain.bounds g.met.D.Domain.tells c.args.a c.args.x (c.args.b ∷ []) (c.args.y ∷ [])
    c.args.row.now _ c.tell_one-more.new.row c.in-Ok.changed c.tell_one-more.result c.joined.result c.cell_at-old.result c.joined.new.row
    c.cell_at-old.ensures c.in-Ok.ensures c.tell_one-more.ensures c.joined.ensures.row c.joined.ensures.answer
