-- The letters and the words that each dialect knows.
use Rattle.std.specs.Prelude.{ℕ, Bool, true, false, cond, List, [], ◌∷◌, Some, None, Err, codes, Option, Result, ◌==◌}
use Rattle.std.specs.List.{find}
use Rattle.std.specs.Option.{ok_or}
use Rattle.std.specs.Str.{bytes_eq}
use Rattle.fault.specs.declared.Fault.{Fault}
use Rattle.fault.specs.declared.Refusal.TheVariants.{UnknownLetter, UnknownWord}
use Rattle.fault.specs.Refusals.{fault_of}
use Rattle.ticket.specs.declared.word.Word.{Word}
use Rattle.ticket.specs.declared.word.Word.TheVariants.{Pair, Triple, Member}
use Rattle.ticket.specs.declared.word.PairWord.TheVariants.{Sub, Same, Apart, Count, Weigh, Most}
use Rattle.ticket.specs.declared.word.TripleWord.TheVariants.{Union, Both, Less, Sum}
use Rattle.ticket.specs.declared.word.MemberWord.TheVariants.{Has, Lacks}
use Rattle.ticket.specs.declared.word.Dialect.{Dialect}
use Rattle.ticket.specs.declared.word.Dialect.TheVariants.{Match, Scale}
use Rattle.ticket.specs.declared.word.Letter.{Letter}
use Rattle.ticket.specs.declared.word.Letter.TheVariants.{Bale, Close, Group, Number, State, Settle}

abbrev pub name_of : Word → List ℕ
name_of (Pair Sub) = codes "sub"
name_of (Pair Same) = codes "same"
name_of (Pair Apart) = codes "apart"
name_of (Pair Count) = codes "count"
name_of (Pair Weigh) = codes "weigh"
name_of (Pair Most) = codes "most"
name_of (Triple Union) = codes "union"
name_of (Triple Both) = codes "both"
name_of (Triple Less) = codes "less"
name_of (Triple Sum) = codes "sum"
name_of (Member Has) = codes "has"
name_of (Member Lacks) = codes "lacks"

abbrev pub words_of : Dialect → List Word
words_of Match = Pair Sub ∷ Pair Same ∷ Pair Apart ∷ Triple Union ∷ Triple Both ∷ Triple Less ∷ Member Has ∷ Member Lacks ∷ Pair Count ∷ Pair Weigh ∷ Triple Sum ∷ Pair Most ∷ []
words_of Scale = Triple Sum ∷ Pair Most ∷ []

-- the word of that name among these
abbrev pub named : List Word → List ℕ → Option Word
named ws s = find (λ w. bytes_eq (name_of w) s) ws

-- the word in field 2: 6 where the dialect knows none of that name
abbrev pub word_at : Dialect → ℕ → List ℕ → Result Word Fault
word_at dialect line s = ok_or (named (words_of dialect) s) (fault_of UnknownWord line 2)

-- B, C, G, N, S, W
abbrev pub letter_of : ℕ → Option Letter
letter_of c = cond (c == 66) (Some Bale) (cond (c == 67) (Some Close) (cond (c == 71) (Some Group) (cond (c == 78) (Some Number) (cond (c == 83) (Some State) (cond (c == 87) (Some Settle) None)))))

abbrev pub knows_letter : Dialect → Letter → Bool
knows_letter Match letter = true
knows_letter Scale Bale = false
knows_letter Scale Close = false
knows_letter Scale Group = false
knows_letter Scale Number = true
knows_letter Scale State = true
knows_letter Scale Settle = true

abbrev pub known : Dialect → Option Letter → Option Letter
known dialect None = None
known dialect (Some letter) = cond (knows_letter dialect letter) (Some letter) None

-- the letter in field 1: 2 where it is not exactly one letter that the dialect knows
abbrev pub letter_at : Dialect → ℕ → List ℕ → Result Letter Fault
letter_at dialect line [] = Err (fault_of UnknownLetter line 1)
letter_at dialect line (c ∷ []) = ok_or (known dialect (letter_of c)) (fault_of UnknownLetter line 1)
letter_at dialect line (c ∷ d ∷ ds) = Err (fault_of UnknownLetter line 1)

-- how many fields a line has, by its letter
abbrev pub field_count : Letter → ℕ
field_count Bale = 3
field_count Close = 1
field_count Group = 4
field_count Number = 4
field_count State = 5
field_count Settle = 2
