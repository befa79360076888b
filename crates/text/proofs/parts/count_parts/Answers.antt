use Rattle.std.proofs.Common.{arith, eqb, eq-eqb, ne_eqb, ap, take_all}
use Rattle.std.specs.List.{count_by}
use Rattle.std.proofs.lemmas.List.Splits.{length-slice_split}
use Rattle.std.proofs.lemmas.List.Sums.{count_by_more_yes, count_by_more_no}
use Rattle.text.proofs.parts.count_parts.Goals as goal
use Rattle.text.proofs.parts.count_parts.Goals.{then-byte-separator, else-byte-separator}

pub loop-byte-preserved : goal.loop-byte-preserved
loop-byte-preserved c =
    let i = c.loop-byte.byte-index in
    elim c.if-byte-separator.branch [
      | then-byte-separator w ↦ (omega (arith, w.count-is, count_by_more_yes (λ b. eqb b c.args.separator) c.args.text.now i 0 (omega arith) (eq-eqb _ _ w.if-byte-separator.true)), omega (arith, w.count-is))
      | else-byte-separator w ↦ (omega (arith, w.count-is, count_by_more_no (λ b. eqb b c.args.separator) c.args.text.now i 0 (omega arith) (ne_eqb _ _ w.if-byte-separator.false)), omega (arith, w.count-is))
    ]

pub returns : goal.returns
returns c = omega (arith, length-slice_split (λ b. eqb b c.args.separator) c.args.text.now, ap (count_by (λ b. eqb b c.args.separator)) (take_all c.loop-byte.byte-index c.args.text.now (omega arith)))
