-- What a sheet has been told, and what it answers.
use Rattle.std.specs.Prelude.{◌≡◌, ℕ, List, [], ◌∷◌, ◌++◌}
use Rattle.fault.specs.declared.Fault.{Fault}
use Rattle.meaning.specs.Resting.{SameRules}
use Rattle.meaning.specs.Search.{Ending}

-- its book, the bounds declared, and the statements accepted, in the order of the calls
pub record Told (B C R : Type 0) : Type 0 where
  pub book : B
  pub declared : List C
  pub accepted : List R

-- a new sheet has been told nothing but its book
abbrev pub fresh : {B C R : Type 0} → B → Told B C R
fresh b = record { book = b; declared = []; accepted = [] }

abbrev pub with_cell : {B C R : Type 0} → Told B C R → C → Told B C R
with_cell t p = record { book = t.book; declared = t.declared ++ (p ∷ []); accepted = t.accepted }

abbrev pub with_rule : {B C R : Type 0} → Told B C R → R → Told B C R
with_rule t r = record { book = t.book; declared = t.declared; accepted = t.accepted ++ (r ∷ []) }

-- told alike: the same book, the same declared bounds cell by cell, and the same statements in whatever order
pub record Alike {B C R : Type 0} (t u : Told B C R) : Type 0 where
  pub same-book : t.book ≡ u.book
  pub same-declared : t.declared ≡ u.declared
  pub same-rules : SameRules t.accepted u.accepted

-- what a call is answered: a refusal; that it was taken; the bounds of a cell; how a search ended, and its cuts
pub data Answer (C : Type 0) : Type 0 where
  denied : Fault → Answer C
  taken : Answer C
  shown : C → Answer C
  ended : Ending C → ℕ → Answer C
