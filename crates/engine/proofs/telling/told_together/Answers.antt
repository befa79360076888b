-- The choices that pass are the same.
use Rattle.engine.proofs.Passing.{all-swap, all-join}
use Rattle.engine.proofs.telling.told_together.Goals as goal

pub returns : goal.returns
returns g c =
    let bounds = g.met.D.Domain.bounds in
    let tells = g.met.D.Domain.tells in
    record {
      swapped = λ i j s t is ts P. all-swap bounds tells i j s t is ts P;
      again = λ i t is ts P. all-join bounds tells t t t (λ v h. (h, h)) (λ v h k. h) i is ts P;
    }
