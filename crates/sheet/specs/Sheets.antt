-- What a sheet has been told, and the bounds that it holds.
use Rattle.std.specs.Prelude.{List, vec_items}
use Rattle.history.specs.Told.{Told}
use Rattle.rules.specs.Listed.{listed, but_newest}
use Rattle.sheet.specs.declared.sheet.Sheet.{Sheet}

abbrev pub told_of : {C B R : Type 0} → Sheet C B R → Told B C R
told_of s = record { book = s.book; declared = vec_items s.declared; accepted = listed s.rules }

abbrev pub bounds_of : {C B R : Type 0} → Sheet C B R → List C
bounds_of s = vec_items s.cells

-- what the caller's spare row held, while a statement is tried there
abbrev pub saved_of : {C B R : Type 0} → Sheet C B R → List C
saved_of s = vec_items s.saved

abbrev pub without_newest : {B C R : Type 0} → Told B C R → Told B C R
without_newest t = record { book = t.book; declared = t.declared; accepted = but_newest t.accepted }
