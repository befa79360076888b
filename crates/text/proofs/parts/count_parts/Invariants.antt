use Rattle.std.proofs.Common.{◌≡◌, ◌+◌, ◌≤◌, eqb, take}
use Rattle.std.specs.List.{count_by}
use Rattle.text.proofs.parts.count_parts.Given as goal

abbrev pub invariant-loop-byte : goal.invariant-loop-byte
invariant-loop-byte l = (l.count ≡ count_by (λ b. eqb b l.separator) (take l.byte-index l.text) + 1) × (l.count ≤ l.byte-index + 1)
