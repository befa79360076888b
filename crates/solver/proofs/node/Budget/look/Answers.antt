-- The first cell that is not single decides, where there is one.
use Rattle.std.proofs.Common.{Some, None, sym, arith, eqb-true}
use borrow.Author.Tests.{eqb-false}
use Rattle.solver.proofs.Opening.{opens-at}
use Rattle.solver.proofs.node.Budget.look.Goals as goal

pub returns-in_default : goal.returns-in_default
returns-in_default g c = opens-at g.C.Domain.height c.args.row.now c.first_open.result c.first_open.ensures None c.in_default.is

pub returns-then-is_spent : goal.returns-then-is_spent
returns-then-is_spent g c = (
  (c.in-Some.i, opens-at g.C.Domain.height c.args.row.now c.first_open.result c.first_open.ensures (Some c.in-Some.i) c.in-Some.is),
  eqb-true c.args.self.at.cuts c.args.self.limits.cuts (sym c.if-is_spent.ensures),
)

pub returns-then-is_deep : goal.returns-then-is_deep
returns-then-is_deep g c = (
  (c.in-Some.i, opens-at g.C.Domain.height c.args.row.now c.first_open.result c.first_open.ensures (Some c.in-Some.i) c.in-Some.is),
  omega (arith, c.args.self.cuts, eqb-false c.args.self.at.cuts c.args.self.limits.cuts (sym c.if-is_spent.ensures)),
  eqb-true c.args.self.at.depth c.args.self.limits.rows (sym c.if-is_deep.ensures),
)

pub returns : goal.returns
returns g c = (
  opens-at g.C.Domain.height c.args.row.now c.first_open.result c.first_open.ensures (Some c.in-Some.i) c.in-Some.is,
  omega (arith, c.args.self.cuts, eqb-false c.args.self.at.cuts c.args.self.limits.cuts (sym c.if-is_spent.ensures)),
  omega (arith, c.args.self.depth, eqb-false c.args.self.at.depth c.args.self.limits.rows (sym c.if-is_deep.ensures)),
)
