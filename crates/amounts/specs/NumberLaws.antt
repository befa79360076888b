-- The laws of sum and most on their numbers.
use Rattle.std.specs.Prelude.{◌≡◌, ℕ}
use Rattle.std.proofs.Common.{arith}
use Rattle.domain.specs.declared.bounds.Number.{Number}
use Rattle.domain.specs.Numbers.{NumberAllows, number_height, NumberPasses}
use Rattle.domain.specs.NumbersLemmas.{over}
use Rattle.engine.specs.Arity.{TwoLaws, ThreeLaws}
use Rattle.amounts.specs.Numbers.{sum_tells, SumHolds, most_tells, MostHolds}

-- a single number is its value
pub single-number : (n : Number) (v : ℕ) → NumberAllows n v → number_height n ≡ 0 → (n.low ≡ v) × (n.high ≡ v)
single-number n v a h = let k = n.ok in (omega arith, omega arith)

pub sum-laws : ThreeLaws NumberAllows number_height NumberPasses sum_tells SumHolds
sum-laws = record {
  monotone = λ x y z x' y' z' a b c i j k p q r h.
      let ox = over x x' i in let oy = over y y' j in let oz = over z z' k in
      ((omega arith, omega arith), (omega arith, omega arith), (omega arith, omega arith));
  keeps = λ x y z a b c p q r s. ((omega arith, omega arith), (omega arith, omega arith), (omega arith, omega arith));
  exact = λ x y z a b c p q r hx hy hz h. let ex = single-number x a p hx in let ey = single-number y b q hy in let h2 = h.2 in omega arith;
}

pub most-laws : TwoLaws NumberAllows number_height NumberPasses NumberAllows number_height NumberPasses most_tells MostHolds
most-laws = record {
  monotone = λ x y x' y' a b i j p q h.
      let ox = over x x' i in let oy = over y y' j in
      ((omega arith, omega arith), (omega arith, omega arith));
  keeps = λ x y a b p q s. ((omega arith, omega arith), (omega arith, omega arith));
  exact = λ x y a b p q hx hy h. let ex = single-number x a p hx in let ey = single-number y b q hy in let h0 = h.0 in omega arith;
}
