-- What is first at fault in the fields of a word is first at fault in those of its statement.
use Rattle.std.proofs.Common.{◌≡◌, List, [], ◌∷◌, refl}
use Rattle.bales.specs.declared.list.ClosedList.{ClosedList}
use Rattle.engine.specs.Fits.{first_misfit}
use Rattle.words.specs.Cells.{Cell}
use Rattle.words.specs.Fields.{place_field}
use Rattle.words.specs.GroupFields.{group-misfits}
use Rattle.statements.specs.declared.statement.Statement.{Statement}
use Rattle.statements.specs.declared.statement.Statement.TheVariants.{Sub, Same, Apart, Union, Both, Less, Has, Lacks, Count, Weigh, Sum, Most}
use Rattle.statements.specs.Statements.{fields_of, word_fields}

pub same-fault : (b : ClosedList) (s : Statement) (P : List Cell) → first_misfit (word_fields b s P) ≡ first_misfit (fields_of b s P)
same-fault b (Sub w) P = group-misfits.two w.first w.second P
same-fault b (Same w) P = group-misfits.two w.first w.second P
same-fault b (Apart w) P = group-misfits.two w.first w.second P
same-fault b (Union w) P = group-misfits.three w.first w.second w.third P
same-fault b (Both w) P = group-misfits.three w.first w.second w.third P
same-fault b (Less w) P = group-misfits.three w.first w.second w.third P
same-fault b (Has w) P = group-misfits.one w.cell (place_field 4 w.place b ∷ []) P
same-fault b (Lacks w) P = group-misfits.one w.cell (place_field 4 w.place b ∷ []) P
same-fault b (Count w) P = group-misfits.scales w.first w.second P
same-fault b (Weigh w) P = group-misfits.scales w.first w.second P
same-fault b (Sum w) P = refl
same-fault b (Most w) P = refl
