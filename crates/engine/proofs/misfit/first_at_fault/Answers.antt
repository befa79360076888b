-- The field that is found is the first.
use Rattle.std.proofs.Common.{None, sym, ap, ◌∙◌}
use Rattle.engine.proofs.Fitting.{fault_or, found-first}
use Rattle.engine.proofs.misfit.first_at_fault.Goals as goal

pub returns-in_err-field : goal.returns-in_err-field
returns-in_err-field c = c.from_residual.ensures ∙ ap (λ o. fault_or c.args.reason o None) (c.in_err-field.ensures) ∙ sym (found-first c.args.reason c.args.fields.now None)

pub returns : goal.returns
returns c = ap (λ o. fault_or c.args.reason o None) (c.in_ok-field.ensures) ∙ sym (found-first c.args.reason c.args.fields.now None)
