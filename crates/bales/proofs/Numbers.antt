-- Numbers of a range.
use Rattle.std.proofs.Common.{◌≡◌, ◌≤◌}
use mathlib.Core.HLevel.{is_prop→PathP}
use native.Mathlib.Bridge.{le_prop}
use Rattle.bales.specs.declared.ranged.Range.{Ghosts}
use Rattle.bales.specs.declared.ranged.Ranged.{Ranged}

-- a value is told by its number
pub ranged-same : {X : Type 0} {range : Ghosts X} (k l : Ranged X range) → k.number ≡ l.number → k ≡ l
ranged-same {X} {range} k l e = λ i. record { number = e i; of = k.of; least = is_prop→PathP (λ j. range.LOW ≤ e j) (λ j. le_prop) k.least l.least i; most = is_prop→PathP (λ j. e j ≤ range.HIGH) (λ j. le_prop) k.most l.most i }
