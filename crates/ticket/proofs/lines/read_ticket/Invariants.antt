use Rattle.std.proofs.Common.{◌≡◌, ◌+◌, ◌≤◌, ◌++◌, map, length, vec_items, vec_len}
use Rattle.ticket.specs.Tickets.{lines_of, told, readings}
use Rattle.ticket.proofs.lines.read_ticket.Given as goal

abbrev pub invariant-loop-line : goal.invariant-loop-line
invariant-loop-line l = (map told (vec_items l.readings) ++ readings l.dialect (vec_len l.readings + 1) (lines_of l.line-iterator.rest.now) ≡ readings l.dialect 1 (lines_of l.text)) × (vec_len l.readings + length (lines_of l.line-iterator.rest.now) ≤ 65536)
