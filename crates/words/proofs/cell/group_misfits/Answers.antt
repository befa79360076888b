-- What is first at fault is the same.
use Rattle.words.specs.GroupFields.{group-misfits}
use Rattle.words.proofs.cell.group_misfits.Goals as goal

pub returns : goal.returns
returns c = group-misfits
