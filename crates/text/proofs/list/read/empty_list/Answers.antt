use Rattle.text.proofs.Members.{members-none}
use Rattle.text.proofs.list.read.empty_list.Goals as goal

pub returns : goal.returns
returns c = members-none
