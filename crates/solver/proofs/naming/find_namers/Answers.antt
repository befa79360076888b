-- Each turn puts a rule in that names the cell.
use Rattle.std.proofs.Common.{◌≡◌, ◌+◌, length, List, Some, sym, ap, ◌∙◌, subst, arith}
use lib.Bits.{bit_or}
use Rattle.engine.specs.Rows.{item}
use Rattle.engine.proofs.Rows.{item-here}
use Rattle.solver.specs.Waking.{Namers}
use Rattle.solver.proofs.Sharing.{NamersBelow, namers-none, namers-all, namers-more, namers-same}
use Rattle.solver.proofs.naming.find_namers.Goals as goal
use Rattle.solver.proofs.naming.find_namers.Goals.{then-names_cell, else-names_cell}

pub loop-k-init : goal.loop-k-init
loop-k-init g c =
    let rules = c.as_slice-rule-items.result.now in
    subst (NamersBelow g.R.Propagator.names rules c.args.cell 0) (sym c.empty-set.ensures) (namers-none _ rules c.args.cell)

pub loop-k-preserved : goal.loop-k-preserved
loop-k-preserved g c =
    let names = g.R.Propagator.names in
    let rules = c.as_slice-rule-items.result.now in
    let k = c.loop-k.k in
    let here : item rules k ≡ Some c.rule-item.result = item-here rules k c.rule-item.result (omega arith) c.rule-item.is in
    elim c.if-names_cell.branch [
      | then-names_cell w ↦ subst (NamersBelow names rules c.args.cell (k + 1))
          (sym (ap (λ s. s.bits) w.set-is ∙ w.union-set.ensures ∙ ap (bit_or c.loop-k.set.bits) w.alone.ensures))
          (namers-more names rules c.args.cell k _ _ here c.loop-k.invariant (sym c.names_cell.ensures ∙ w.if-names_cell.true))
      | else-names_cell w ↦ subst (NamersBelow names rules c.args.cell (k + 1)) (sym (ap (λ s. s.bits) w.set-is))
          (namers-same names rules c.args.cell k _ _ here c.loop-k.invariant (sym c.names_cell.ensures ∙ w.if-names_cell.false))
    ]

pub returns : goal.returns
returns g c =
    let names = g.R.Propagator.names in
    let rules = c.as_slice-rule-items.result.now in
    let all : c.loop-k.k ≡ length rules = omega arith in
    let Of : List g.row.R.Denot → Type 0 = λ rs. Namers names rs c.args.cell c.loop-k.set.bits in
    subst Of c.as_slice-rule-items.ensures.listed
    (namers-all names rules c.args.cell _ (subst (λ n. NamersBelow names rules c.args.cell n c.loop-k.set.bits) all c.loop-k.invariant))
