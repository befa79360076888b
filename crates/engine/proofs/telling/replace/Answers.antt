-- The same bounds make the same row, and others another.
use Rattle.std.proofs.Common.{refl}
use Rattle.engine.proofs.Firing.{set-is}
use Rattle.engine.proofs.telling.replace.Goals as goal

pub returns-then-same : goal.returns-then-same
returns-then-same g c = (set-is c.args.row.now c.args.cell c.args.old c.args.new c.requires (c.if-same.ensures.0 tt), refl)
