use Rattle.std.proofs.Common.{◌<◌, length, refl, arith, rules}
use Rattle.std.proofs.lemmas.Bool.Decides.{nat_tests}
use Rattle.ticket.proofs.LineEnds.{first-line}
use Rattle.ticket.proofs.lines.LinesIterator.next.Goals as goal

pub returns : goal.returns
returns c =
    let some : 0 < length c.args.self.now.rest.now = grind (arith, nat_tests) in
    let e = first-line c.args.self.now.rest.now c.cut.result.0.now c.cut.result.1 _ c.unwrap_or-self.result c.unwrap_or-self.ensures refl c.cut.ensures.whole c.cut.ensures.parts some in
    search rules
