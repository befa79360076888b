-- What is first at fault in the fields decides.
use Rattle.std.proofs.Common.{sym, subst}
use Rattle.sheet.specs.Misfits.{Denies}
use Rattle.sheet.proofs.Misfits.{early-denial, late-denial}
use Rattle.sheet.proofs.checks.check_state.Goals as goal

pub returns-then-is_unranged : goal.returns-then-is_unranged
returns-then-is_unranged c fs e =
    subst (λ d. Denies d c.check_fits.result) (early-denial c.args.count c.args.accepted c.args.line fs c.args.spare c.args.misfit e (sym c.if-is_unranged.ensures)) c.check_fits.ensures

pub returns-else-is_unranged : goal.returns-else-is_unranged
returns-else-is_unranged c fs e =
    subst (λ d. Denies d c.check_late.result) (late-denial c.args.count c.args.accepted c.args.line fs c.args.spare c.args.misfit e (sym c.if-is_unranged.ensures)) c.check_late.ensures
