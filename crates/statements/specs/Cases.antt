-- Six worked cases of narrowing. Cells are counted from 0.
use Rattle.std.specs.Prelude.{◌≡◌, ℕ, ◌≤◌, List, [], ◌∷◌, Some, refl}
use Rattle.std.proofs.Common.{lit≤}
use Rattle.places.specs.Members.{none, one, up_to, union, intersection}
use Rattle.bales.specs.Lists.{closed_weights}
use Rattle.bales.specs.declared.list.ClosedList.{ClosedList}
use Rattle.domain.specs.declared.mixed.Mixed.TheVariants.{First, Second}
use Rattle.statements.specs.declared.statement.Statement.{Statement}
use Rattle.statements.specs.declared.statement.Statement.TheVariants.{Sub, Apart, Union, Count, Weigh, Sum}
use Rattle.words.specs.Cells.{Cell}
use Rattle.statements.specs.Statements.{narrowing_of}

-- a group with these sure and possible bales
abbrev pub group : (s p : ℕ) → intersection s p ≡ s → Cell
group s p ok = First (record { sure = record { bits = s }; possible = record { bits = p }; ok = ok })

-- a number from l to h
abbrev pub number : (l h : ℕ) → l ≤ h → h ≤ 1000000 → Cell
number l h below most = Second (record { low = l; high = h; ok = (below, most) })

-- the statement makes this of the row
abbrev pub Makes : ClosedList → Statement → List Cell → List Cell → Type 0
Makes b s before after = narrowing_of b s before ≡ Some after

pub record WorkedCases : Type 0 where
  -- sure 1, possible 1 to 4, is sub of sure 3, possible 1 to 3: possible 1 to 3; sure 1 and 3
  pub within : (b : ClosedList) → Makes b (Sub (record { word = record {}; first = 0; second = 1 }))
      (group (one 1) (up_to 4) refl ∷ (group (one 3) (up_to 3) refl ∷ []))
      (group (one 1) (up_to 3) refl ∷ (group (union (one 1) (one 3)) (up_to 3) refl ∷ []))
  -- sure 1, possible 1 to 4, counts 1: single
  pub counted : (b : ClosedList) → Makes b (Count (record { word = record {}; first = 0; second = 1 }))
      (group (one 1) (up_to 4) refl ∷ (number 1 1 (lit≤ tt) (lit≤ tt) ∷ []))
      (group (one 1) (one 1) refl ∷ (number 1 1 (lit≤ tt) (lit≤ tt) ∷ []))
  -- of weights 4 and 3, sure 2, possible 1 and 2, weighs 0 to 100: 3 to 7
  pub weighed : (b : ClosedList) → closed_weights b ≡ (4 ∷ (3 ∷ [])) → Makes b (Weigh (record { word = record {}; first = 0; second = 1 }))
      (group (one 2) (up_to 2) refl ∷ (number 0 100 (lit≤ tt) (lit≤ tt) ∷ []))
      (group (one 2) (up_to 2) refl ∷ (number 3 7 (lit≤ tt) (lit≤ tt) ∷ []))
  -- possible 1 and possible 2 unite to sure 2, possible 1 to 3: the second is sure of 2, and the third has possible 1 and 2
  pub united : (b : ClosedList) → Makes b (Union (record { word = record {}; first = 0; second = 1; third = 2 }))
      (group none (one 1) refl ∷ (group none (one 2) refl ∷ (group (one 2) (up_to 3) refl ∷ [])))
      (group none (one 1) refl ∷ (group (one 2) (one 2) refl ∷ (group (one 2) (up_to 2) refl ∷ [])))
  -- possible 1, apart from itself: rests
  pub apart-from-itself : (b : ClosedList) → Makes b (Apart (record { word = record {}; first = 0; second = 0 }))
      (group none (one 1) refl ∷ [])
      (group none (one 1) refl ∷ [])
  -- 0 to 5 and 2 to 3 sum to 4 to 6: the first is 1 to 4
  pub summed : (b : ClosedList) → Makes b (Sum (record { word = record {}; first = 0; second = 1; third = 2 }))
      (number 0 5 (lit≤ tt) (lit≤ tt) ∷ (number 2 3 (lit≤ tt) (lit≤ tt) ∷ (number 4 6 (lit≤ tt) (lit≤ tt) ∷ [])))
      (number 1 4 (lit≤ tt) (lit≤ tt) ∷ (number 2 3 (lit≤ tt) (lit≤ tt) ∷ (number 4 6 (lit≤ tt) (lit≤ tt) ∷ [])))
