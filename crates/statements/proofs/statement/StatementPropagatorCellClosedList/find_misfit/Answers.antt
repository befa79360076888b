-- Where a cell past the end of the row counts as no group, the same is first at fault.
use Rattle.std.proofs.Common.{◌∙◌}
use Rattle.statements.proofs.Misfits.{same-fault}
use Rattle.statements.proofs.statement.StatementPropagatorCellClosedList.find_misfit.Goals as goal

pub returns : goal.returns
returns c = c.find_fault.ensures ∙ same-fault c.args.book.now c.args.self.now c.args.row.now
