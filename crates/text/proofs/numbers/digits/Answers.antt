use Rattle.std.proofs.Common.{◌+◌, ◌-◌, ◌*◌, get_or, drop, arith}
use Rattle.std.proofs.lemmas.Bool.Decides.{nat_tests}
use Rattle.text.proofs.Digits.{digit-step, beyond}
use Rattle.text.proofs.numbers.digits.Goals as goal

pub returns-then-number-gt-LARGEST : goal.returns-then-number-gt-LARGEST
returns-then-number-gt-LARGEST c =
    let e = digit-step c.loop-byte.number c.args.text.now c.loop-byte.byte-index (omega arith) in
    let b = beyond 1000000 (c.loop-byte.number * 10 + (get_or c.args.text.now c.loop-byte.byte-index 0 - 48)) (drop (c.loop-byte.byte-index + 1) c.args.text.now) (omega arith) in
    grind (arith, nat_tests)
