-- A line of a ticket: its fields, and the entry or the fault that it is read as.
use Rattle.std.specs.Prelude.{ℕ, ◌+◌, ◌-◌, cond, List, [], ◌∷◌, length, Ok, Err, Result, ◌==◌, nat_lt, slice_index_or}
use Rattle.fault.specs.declared.Fault.{Fault}
use Rattle.fault.specs.declared.Refusal.TheVariants.{LineTooLong, UnknownLetter, FieldCount, BadNumber}
use Rattle.fault.specs.Refusals.{fault_of}
use Rattle.ticket.specs.declared.word.Word.{Word}
use Rattle.ticket.specs.declared.word.Word.TheVariants.{Pair, Triple, Member}
use Rattle.ticket.specs.declared.word.PairWord.{PairWord}
use Rattle.ticket.specs.declared.word.TripleWord.{TripleWord}
use Rattle.ticket.specs.declared.word.MemberWord.{MemberWord}
use Rattle.ticket.specs.declared.word.Dialect.{Dialect}
use Rattle.ticket.specs.declared.word.Letter.{Letter}
use Rattle.ticket.specs.declared.word.Letter.TheVariants.{Bale, Close, Group, Number, State, Settle}
use Rattle.text.specs.Answers.{and_then}
use Rattle.text.specs.Numbers.{number_at}
use Rattle.text.specs.Lists.{list_at}
use Rattle.text.specs.Parts.{parts_of}
use Rattle.ticket.specs.Words.{letter_at, word_at, field_count}
use Rattle.ticket.specs.Entries.{group, number, pair, triple, member, Said, bale, close, declare, state, settle}

-- the fields of a line, parted by commas
abbrev pub fields_of : List ℕ → List (List ℕ)
fields_of s = parts_of 44 s

-- field k of a line, counted from 1, where fs are the fields after the letter
abbrev pub field : ℕ → List (List ℕ) → List ℕ
field k fs = slice_index_or fs (k - 2) []

abbrev pub cell_at : ℕ → ℕ → List (List ℕ) → Result ℕ Fault
cell_at line k fs = number_at 1 99 line k (field k fs)

abbrev pub place_at : ℕ → ℕ → List (List ℕ) → Result ℕ Fault
place_at line k fs = number_at 1 99 line k (field k fs)

abbrev pub weight_at : ℕ → ℕ → List (List ℕ) → Result ℕ Fault
weight_at line k fs = number_at 1 1000 line k (field k fs)

-- an end of a range, or a cut limit
abbrev pub amount_at : ℕ → ℕ → List (List ℕ) → Result ℕ Fault
amount_at line k fs = number_at 0 1000000 line k (field k fs)

abbrev pub places_at : ℕ → ℕ → List (List ℕ) → Result (List ℕ) Fault
places_at line k fs = list_at line k (field k fs)

-- the third operand of a word of two is `-`, and anything else there is 4
abbrev pub dash_at : ℕ → ℕ → List ℕ → Result (Unit {0}) Fault
dash_at line k [] = Err (fault_of BadNumber line k)
dash_at line k (c ∷ []) = cond (c == 45) (Ok tt) (Err (fault_of BadNumber line k))
dash_at line k (c ∷ d ∷ ds) = Err (fault_of BadNumber line k)

abbrev pub unused_at : ℕ → ℕ → List (List ℕ) → Result (Unit {0}) Fault
unused_at line k fs = dash_at line k (field k fs)

-- B,place,weight
abbrev pub bale_at : ℕ → List (List ℕ) → Result Said Fault
bale_at line fs = and_then (place_at line 2 fs) (λ p. and_then (weight_at line 3 fs) (λ w. Ok (bale p w)))

-- G,cell,sure,possible
abbrev pub group_at : ℕ → List (List ℕ) → Result Said Fault
group_at line fs = and_then (cell_at line 2 fs) (λ c. and_then (places_at line 3 fs) (λ s. and_then (places_at line 4 fs) (λ p. Ok (declare (group c s p)))))

-- N,cell,low,high
abbrev pub range_at : ℕ → List (List ℕ) → Result Said Fault
range_at line fs = and_then (cell_at line 2 fs) (λ c. and_then (amount_at line 3 fs) (λ l. and_then (amount_at line 4 fs) (λ h. Ok (declare (number c l h)))))

-- a cell, then a number from low to high, then `-`
abbrev pub two_at : ℕ → ℕ → ℕ → List (List ℕ) → Result (ℕ × ℕ) Fault
two_at low high line fs = and_then (cell_at line 3 fs) (λ a. and_then (number_at low high line 4 (field 4 fs)) (λ b. and_then (unused_at line 5 fs) (λ _. Ok (a, b))))

-- S,word,first,second,-
abbrev pub pair_at : ℕ → PairWord → List (List ℕ) → Result Said Fault
pair_at line word fs = and_then (cell_at line 3 fs) (λ a. and_then (cell_at line 4 fs) (λ b. and_then (unused_at line 5 fs) (λ _. Ok (state (pair word a b)))))

-- S,word,first,second,third
abbrev pub triple_at : ℕ → TripleWord → List (List ℕ) → Result Said Fault
triple_at line word fs = and_then (cell_at line 3 fs) (λ a. and_then (cell_at line 4 fs) (λ b. and_then (cell_at line 5 fs) (λ c. Ok (state (triple word a b c)))))

-- S,word,first,place,-
abbrev pub member_at : ℕ → MemberWord → List (List ℕ) → Result Said Fault
member_at line word fs = and_then (cell_at line 3 fs) (λ a. and_then (place_at line 4 fs) (λ p. and_then (unused_at line 5 fs) (λ _. Ok (state (member word a p)))))

abbrev pub operands_at : ℕ → List (List ℕ) → Word → Result Said Fault
operands_at line fs (Pair word) = pair_at line word fs
operands_at line fs (Triple word) = triple_at line word fs
operands_at line fs (Member word) = member_at line word fs

-- an unknown word hides what follows it
abbrev pub statement_at : Dialect → ℕ → List (List ℕ) → Result Said Fault
statement_at dialect line fs = and_then (word_at dialect line (field 2 fs)) (operands_at line fs)

-- W,cutlimit
abbrev pub settle_at : ℕ → List (List ℕ) → Result Said Fault
settle_at line fs = and_then (amount_at line 2 fs) (λ n. Ok (settle n))

abbrev pub body_at : Dialect → ℕ → List (List ℕ) → Letter → Result Said Fault
body_at dialect line fs Bale = bale_at line fs
body_at dialect line fs Close = Ok close
body_at dialect line fs Group = group_at line fs
body_at dialect line fs Number = range_at line fs
body_at dialect line fs State = statement_at dialect line fs
body_at dialect line fs Settle = settle_at line fs

-- 3 where the line has not as many fields as its letter asks, the letter among them
abbrev pub counted_at : Dialect → ℕ → List (List ℕ) → Letter → Result Said Fault
counted_at dialect line fs letter = cond (length fs + 1 == field_count letter) (body_at dialect line fs letter) (Err (fault_of FieldCount line 0))

-- the letter first, then the count of fields, then the fields from left to right
abbrev pub fields_at : Dialect → ℕ → List (List ℕ) → Result Said Fault
fields_at dialect line [] = Err (fault_of UnknownLetter line 1)
fields_at dialect line (f ∷ fs) = and_then (letter_at dialect line f) (counted_at dialect line fs)

-- what a line is read as; 1 where it has more than 400 bytes
abbrev pub line_at : Dialect → ℕ → List ℕ → Result Said Fault
line_at dialect line s = cond (nat_lt 400 (length s)) (Err (fault_of LineTooLong line 0)) (fields_at dialect line (fields_of s))
