use Rattle.std.proofs.Common.{map, string_bytes}
use Rattle.ticket.specs.Tickets.{told}
use Rattle.matching.specs.Parts.{part_of}
use Rattle.matching.specs.Listings.{answers}
use Rattle.matching.proofs.Runs.{Running}
use Rattle.matching.proofs.listing.run_lines.Given as goal

abbrev pub invariant-loop-i : goal.invariant-loop-i
invariant-loop-i l = Running (answers (part_of l.initial.part) 1 (map told l.readings)) (string_bytes l.initial.listing) (string_bytes l.listing) l.refused (part_of l.part) l.i l.readings
