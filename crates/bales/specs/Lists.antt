-- What a bale list holds, and what it answers to a bale and to closing.
use Rattle.std.specs.Prelude.{ℕ, ◌+◌, cond, List, length, Ok, Err, vec_items, Result, ◌==◌, nat_lt}
use Rattle.fault.specs.declared.Fault.{Fault}
use Rattle.fault.specs.declared.Refusal.TheVariants.{Full, NotNext, NoBales}
use Rattle.fault.specs.Refusals.{fault_of}
use Rattle.bales.specs.declared.list.OpenList.{OpenList}
use Rattle.bales.specs.declared.list.ClosedList.{ClosedList}
use Rattle.bales.specs.Tables.{weights}

abbrev pub open_weights : OpenList → List ℕ
open_weights l = weights (vec_items l.bales)

abbrev pub closed_weights : ClosedList → List ℕ
closed_weights l = weights (vec_items l.bales)

-- a bale at this place, where the list holds these weights: 9 for the 65th, then 8 where the place is not the next
abbrev pub entering : List ℕ → ℕ → ℕ → Result (Unit {0}) Fault
entering ws line place = cond (nat_lt (length ws) 64) (cond (place == length ws + 1) (Ok tt) (Err (fault_of NotNext line 2))) (Err (fault_of Full line 0))

-- 10 where the list has no bale
abbrev pub closing : List ℕ → ℕ → Result (Unit {0}) Fault
closing ws line = cond (length ws == 0) (Err (fault_of NoBales line 0)) (Ok tt)
