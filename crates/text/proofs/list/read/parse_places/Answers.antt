use Rattle.std.proofs.Common.{◌≡◌, ◌^◌, ◌≤◌, Some, eqb, sym, ap, ◌∙◌, arith, rules, tests, pow_mono}
use Rattle.std.proofs.lemmas.Iterator.Consumers.{YieldsList-turn, YieldsList-end}
use Rattle.std.proofs.lemmas.List.{length_push}
use Rattle.std.proofs.lemmas.Iterator.Splits.{YieldsList-from_slice_split}
use Rattle.text.specs.Numbers.{number_of, within}
use Rattle.text.specs.Parts.{parts_of}
use Rattle.text.proofs.Members.{bit-more}
use Rattle.text.proofs.Rising.{reading-none, reading-all, part-bad, part-low, part-more}
use Rattle.text.proofs.list.read.parse_places.Goals as goal

pub loop-part-init : goal.loop-part-init
loop-part-init c = reading-none (parts_of 43 c.args.text.now)

pub returns-in_err-parse_ranged : goal.returns-in_err-parse_ranged
returns-in_err-parse_ranged c =
    let t = YieldsList-turn (YieldsList-from_slice_split {s = c.into_iter-part-iterator.result} _ (λ b. eqb b 43) c.args.text.now (cc) (cc) (cc) (λ x r q k. search (rules, tests))) c.loop-part.yielded _ c.loop-part.yielded_by _ _ c.in-Some.part c.in-Some.is c.next.ensures.steps in
    let e = part-bad (parts_of 43 c.args.text.now) _ _ _ _ c.loop-part.invariant c.in-Some.part.now t (sym c.in_err-parse_ranged.ensures) in
    rw c.from_residual.ensures (sym e)

pub returns-then-place-last : goal.returns-then-place-last
returns-then-place-last c =
    let t = YieldsList-turn (YieldsList-from_slice_split {s = c.into_iter-part-iterator.result} _ (λ b. eqb b 43) c.args.text.now (cc) (cc) (cc) (λ x r q k. search (rules, tests))) c.loop-part.yielded _ c.loop-part.yielded_by _ _ c.in-Some.part c.in-Some.is c.next.ensures.steps in
    let n : within 1 99 (number_of c.in-Some.part.now) ≡ Some c.number-place.result = sym c.in_ok-parse_ranged.ensures ∙ ap Some (sym c.number-place.ensures) in
    sym (part-low (parts_of 43 c.args.text.now) _ _ _ _ c.loop-part.invariant c.in-Some.part.now t _ n (omega arith))

pub overflow_add-bits : goal.overflow_add-bits
overflow_add-bits c = let h = bit-more c.loop-part.bits c.loop-part.last c.number-place.result (omega arith) (omega arith) (omega arith) in omega arith

pub loop-part-preserved : goal.loop-part-preserved
loop-part-preserved c =
    let t = YieldsList-turn (YieldsList-from_slice_split {s = c.into_iter-part-iterator.result} _ (λ b. eqb b 43) c.args.text.now (cc) (cc) (cc) (λ x r q k. search (rules, tests))) c.loop-part.yielded _ c.loop-part.yielded_by _ _ c.in-Some.part c.in-Some.is c.next.ensures.steps in
    let n : within 1 99 (number_of c.in-Some.part.now) ≡ Some c.number-place.result = sym c.in_ok-parse_ranged.ensures ∙ ap Some (sym c.number-place.ensures) in
    let h = bit-more c.loop-part.bits c.loop-part.last c.number-place.result (omega arith) (omega arith) (omega arith) in
    part-more (parts_of 43 c.args.text.now) _ _ _ _ c.loop-part.invariant c.in-Some.part.now t _ n (omega arith) _ _ h.0 (length_push c.loop-part.yielded c.in-Some.part)

pub invariant_of-result : goal.invariant_of-result
invariant_of-result c = let p : 2 ^ c.loop-part.last ≤ 2 ^ 99 = pow_mono c.loop-part.invariant.2 in record { few = omega arith }

pub returns : goal.returns
returns c =
    let t = YieldsList-end (YieldsList-from_slice_split {s = c.into_iter-part-iterator.result} _ (λ b. eqb b 43) c.args.text.now (cc) (cc) (cc) (λ x r q k. search (rules, tests))) c.loop-part.yielded _ c.loop-part.yielded_by _ _ c.in-None.is c.next.ensures.steps in
    sym (reading-all (parts_of 43 c.args.text.now) _ _ _ _ c.loop-part.invariant (omega (arith, t.1)))
