-- Each turn puts the rules in that name a cell which this rule names.
use Rattle.std.proofs.Common.{ℕ, ◌+◌, sym, ap, ◌∙◌, subst}
use Rattle.rules.specs.Listed.{listed}
use Rattle.solver.specs.Waking.{Sharers}
use Rattle.solver.proofs.Sharing.{sharers-none, sharers-more, sharers-same}
use Rattle.solver.proofs.naming.Naming.sharers.Goals as goal
use Rattle.solver.proofs.naming.Naming.sharers.Goals.{then-names_cell, else-names_cell}

pub loop-cell-init : goal.loop-cell-init
loop-cell-init g c =
    let rules = listed c.args.self.now.rules.now in
    let P : ℕ → Type 0 = Sharers g.R.Propagator.names rules 0 c.args.rule in
    subst P (sym c.empty-set.ensures) (sharers-none _ rules c.args.rule)

pub loop-cell-preserved : goal.loop-cell-preserved
loop-cell-preserved g c =
    let names = g.R.Propagator.names in
    let rules = listed c.args.self.now.rules.now in
    let i = c.loop-cell.cell in
    let P : ℕ → Type 0 = Sharers names rules (i + 1) c.args.rule in
    elim c.if-names_cell.branch [
      | then-names_cell w ↦ subst P (sym (ap (λ s. s.bits) w.set-is ∙ w.union-set.ensures)) (sharers-more names rules c.args.rule i _ c.loop-cell.invariant _ w.namers.ensures)
      | else-names_cell w ↦ subst P (sym (ap (λ s. s.bits) w.set-is)) (sharers-same names rules c.args.rule i _ c.loop-cell.invariant (sym w.if-names_cell.ensures))
    ]
