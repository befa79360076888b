use Rattle.std.proofs.Common.{◌≡◌, ◌≤◌, drop}
use Rattle.text.specs.Numbers.{digits_on, within}
use Rattle.text.proofs.numbers.digits.Given as goal

abbrev pub invariant-loop-byte : goal.invariant-loop-byte
invariant-loop-byte l = (within 0 1000000 (digits_on l.number (drop l.byte-index l.text)) ≡ within 0 1000000 (digits_on 0 l.text)) × (l.number ≤ 1000000)
