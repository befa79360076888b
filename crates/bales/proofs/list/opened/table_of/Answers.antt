-- A turn fills one place more.
use Rattle.std.proofs.Common.{set, ap, ◌∙◌, ap₂}
use Rattle.bales.specs.declared.list.Bale.{Bale}
use Rattle.bales.proofs.Tables.{filled-more}
use Rattle.bales.proofs.list.opened.table_of.Goals as goal

pub loop-i-preserved : goal.loop-i-preserved
loop-i-preserved c =
    c.put_weight.ensures
    ∙ ap₂ (λ t w. set t c.loop-i.i w) c.loop-i.invariant (ap (λ (b : Bale). b.weight.number) c.index-bales-i.is)
    ∙ filled-more c.args.bales.now c.loop-i.i c.index-bales-i.result c.loop-i-test.true c.requires
