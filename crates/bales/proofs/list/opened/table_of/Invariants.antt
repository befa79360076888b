-- The places before i are filled.
use Rattle.std.proofs.Common.{◌≡◌}
use Rattle.bales.proofs.Tables.{filled}
use Rattle.bales.proofs.list.opened.table_of.Given as goal

abbrev pub invariant-loop-i : goal.invariant-loop-i
invariant-loop-i l = l.table ≡ filled l.bales l.i
