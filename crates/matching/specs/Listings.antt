-- What a whole ticket is answered, and the listing that shows it.
use Rattle.std.specs.Prelude.{ℕ, ◌+◌, cond, List, [], ◌∷◌, ◌++◌, length, Ok, Err, Result, nat_lt}
use Rattle.fault.specs.declared.Fault.{Fault}
use Rattle.fault.specs.declared.Refusal.TheVariants.{TicketTooLong}
use Rattle.fault.specs.Refusals.{fault_of}
use Rattle.fault.specs.Text.{fault_text}
use Rattle.ticket.specs.declared.word.Dialect.TheVariants.{Match}
use Rattle.text.specs.Answers.{and_then}
use Rattle.ticket.specs.Entries.{Said}
use Rattle.ticket.specs.Tickets.{lines_of, readings}
use Rattle.matching.specs.Parts.{Stage, taking, answering, following}
use Rattle.matching.specs.Totals.{totals_text}

-- what a line is answered: the fault that its reading found, or what its entry is answered
abbrev pub line_answer : Stage → ℕ → Result Said Fault → Result (Unit {0}) Fault
line_answer s n r = and_then r (answering s n)

-- where a line leads; one that cannot be read leaves everything as it was
abbrev pub line_after : Stage → ℕ → Result Said Fault → Stage
line_after s n (Ok e) = following s n e
line_after s n (Err f) = s

-- each line in turn takes effect on what its forerunners left
abbrev pub answers : Stage → ℕ → List (Result Said Fault) → List (Result (Unit {0}) Fault)
answers s n [] = []
answers s n (r ∷ rs) = line_answer s n r ∷ answers (line_after s n r) (n + 1) rs

-- the answers to all lines of a ticket, which begins with an empty bale list
abbrev pub ticket_answers : List ℕ → List (Result (Unit {0}) Fault)
ticket_answers s = answers (taking []) 1 (readings Match 1 (lines_of s))

-- a line of the listing for each refusal, in order
abbrev pub answer_text : Result (Unit {0}) Fault → List ℕ
answer_text (Ok u) = []
answer_text (Err f) = fault_text f ++ (10 ∷ [])

abbrev pub answers_text : List (Result (Unit {0}) Fault) → List ℕ
answers_text [] = []
answers_text (a ∷ as') = answer_text a ++ answers_text as'

-- how many of the answers are refusals
abbrev pub refusal : Result (Unit {0}) Fault → ℕ
refusal (Ok u) = 0
refusal (Err f) = 1

abbrev pub refusals : List (Result (Unit {0}) Fault) → ℕ
refusals [] = 0
refusals (a ∷ as') = refusal a + refusals as'

-- the whole listing; a ticket above 65,536 bytes is refused whole
abbrev pub answers_listing : List (Result (Unit {0}) Fault) → List ℕ
answers_listing as' = answers_text as' ++ (totals_text (length as') (refusals as') ++ (10 ∷ []))

abbrev pub listing_of : List ℕ → List ℕ
listing_of s = cond (nat_lt 65536 (length s)) (answer_text (Err (fault_of TicketTooLong 0 0))) (answers_listing (ticket_answers s))
