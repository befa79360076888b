-- Each refusal's number, its layer, and whether it is of one field.
use Rattle.std.specs.Prelude.{ℕ, Bool, true, false, cond}
use Rattle.fault.specs.declared.Layer.{Layer}
use Rattle.fault.specs.declared.Layer.TheVariants.{Text, Line, Sheet}
use Rattle.fault.specs.declared.Fault.{Fault}
use Rattle.fault.specs.declared.Refusal.{Refusal}
use Rattle.fault.specs.declared.Refusal.TheVariants.{LineTooLong, UnknownLetter, FieldCount, BadNumber, BadList, UnknownWord, WrongPart, NotNext, Full, NoBales, NotOnTicket, Crossed, NotDeclared, WrongKind, Contradiction, ShortMemory, TicketTooLong}

abbrev pub number_of : Refusal → ℕ
number_of LineTooLong = 1
number_of UnknownLetter = 2
number_of FieldCount = 3
number_of BadNumber = 4
number_of BadList = 5
number_of UnknownWord = 6
number_of WrongPart = 7
number_of NotNext = 8
number_of Full = 9
number_of NoBales = 10
number_of NotOnTicket = 11
number_of Crossed = 12
number_of NotDeclared = 13
number_of WrongKind = 14
number_of Contradiction = 15
number_of ShortMemory = 16
number_of TicketTooLong = 17

-- text for 1 and 17, line for 2 to 6, sheet for the rest
abbrev pub layer_of : Refusal → Layer
layer_of LineTooLong = Text
layer_of UnknownLetter = Line
layer_of FieldCount = Line
layer_of BadNumber = Line
layer_of BadList = Line
layer_of UnknownWord = Line
layer_of WrongPart = Sheet
layer_of NotNext = Sheet
layer_of Full = Sheet
layer_of NoBales = Sheet
layer_of NotOnTicket = Sheet
layer_of Crossed = Sheet
layer_of NotDeclared = Sheet
layer_of WrongKind = Sheet
layer_of Contradiction = Sheet
layer_of ShortMemory = Sheet
layer_of TicketTooLong = Text

-- 1, 3, 7, 9, 10, 12, 15, 16 and 17 are of no one field, and their field is 0
abbrev pub names_field : Refusal → Bool
names_field LineTooLong = false
names_field UnknownLetter = true
names_field FieldCount = false
names_field BadNumber = true
names_field BadList = true
names_field UnknownWord = true
names_field WrongPart = false
names_field NotNext = true
names_field Full = false
names_field NoBales = false
names_field NotOnTicket = true
names_field Crossed = false
names_field NotDeclared = true
names_field WrongKind = true
names_field Contradiction = false
names_field ShortMemory = false
names_field TicketTooLong = false

-- the refusal x at a line and a field
abbrev pub fault_of : Refusal → ℕ → ℕ → Fault
fault_of x line field = record { refusal = x; line = line; field = cond (names_field x) field 0; layer = layer_of x }
