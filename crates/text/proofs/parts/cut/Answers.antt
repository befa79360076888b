use Rattle.std.proofs.Common.{◌+◌, sym, ◌∙◌, arith, rules}
use Rattle.std.proofs.lemmas.List.{take_rest, length-drop}
use Rattle.text.proofs.Cuts.{cut-at, uncut, lacks-free, parts-whole}
use Rattle.text.proofs.parts.cut.Goals as goal

pub returns-in-Some : goal.returns-in-Some
returns-in-Some c =
    let h = cut-at c.args.separator c.args.text.now c.in-Some.i (sym c.position.ensures ∙ c.in-Some.is) in
    let whole = h.whole in
    let parts = h.parts in
    let r = take_rest c.args.text.now (c.in-Some.i + 1) in
    record { plain = search (rules, h.plain); whole = grind (arith, whole, r); parts = (grind (arith, parts, r), simp (take_rest, length-drop) (omega (arith, h.inside))) }

pub returns-in-None : goal.returns-in-None
returns-in-None c =
    let free = uncut c.args.separator c.args.text.now (sym c.position.ensures ∙ c.in-None.is) in
    let plain = lacks-free c.args.separator c.args.text.now free in
    let parts = parts-whole c.args.separator c.args.text.now free in
    record { plain = search (rules, plain); whole = search rules; parts = search (rules, parts) }
