-- A whole ticket: its lines, and what each is read as.
use Rattle.std.specs.Prelude.{◌≡◌, ℕ, ◌+◌, ◌-◌, ◌<◌, ◌≤◌, ◌⊎◌, List, [], ◌∷◌, ◌++◌, map, length, Ok, Err, Result, ◌≢◌, slice_index}
use Rattle.std.specs.List.{flat_map}
use Rattle.fault.specs.declared.Fault.{Fault}
use Rattle.fault.specs.declared.failure.Failure.{Failure}
use Rattle.fault.specs.declared.failure.Failure.TheVariants.{Refused, NoMemory}
use Rattle.fault.specs.declared.Refusal.TheVariants.{TicketTooLong}
use Rattle.fault.specs.Refusals.{fault_of}
use Rattle.ticket.specs.declared.entry.Entry.{Entry}
use Rattle.ticket.specs.declared.word.Dialect.{Dialect}
use Rattle.ticket.specs.Entries.{Said, said}
use Rattle.ticket.specs.Lines.{line_at}
use Rattle.text.specs.Parts.{parts_of, Lacks, All}

-- an empty last part is no line
abbrev pub last_line : List ℕ → List (List ℕ)
last_line [] = []
last_line (c ∷ cs) = (c ∷ cs) ∷ []

abbrev pub ended : List (List ℕ) → List (List ℕ)
ended [] = []
ended (p ∷ []) = last_line p
ended (p ∷ q ∷ qs) = p ∷ ended (q ∷ qs)

-- the lines of a text: each ends with a byte 10, which the last may lack
abbrev pub lines_of : List ℕ → List (List ℕ)
lines_of s = ended (parts_of 10 s)

-- the lines written out, each with its byte 10
abbrev pub lines_text : List (List ℕ) → List ℕ
lines_text ls = flat_map (λ l. l ++ (10 ∷ [])) ls

-- these are all the lines of the text, in order: nothing is skipped and nothing stands there twice.
-- The last byte 10 may be missing, and then there is a byte before its place and it is another one.
pub record Splits (s : List ℕ) (ls : List (List ℕ)) : Type 0 where
  pub plain : All (Lacks 10) ls
  pub whole : (lines_text ls ≡ s) ⊎ ((lines_text ls ≡ s ++ (10 ∷ [])) × (0 < length s) × (slice_index s (length s - 1) ≢ 10))

-- what a reading means
abbrev pub told : Result Entry Fault → Result Said Fault
told (Ok e) = Ok (said e)
told (Err f) = Err f

-- what the lines are read as, numbered from n on
abbrev pub readings : Dialect → ℕ → List (List ℕ) → List (Result Said Fault)
readings dialect n [] = []
readings dialect n (l ∷ ls) = line_at dialect n l ∷ readings dialect (n + 1) ls

-- a ticket of at most 65,536 bytes is read to its end: an entry or a fault for each line
pub record Reads (dialect : Dialect) (s : List ℕ) (items : List (Result Entry Fault)) : Type 0 where
  pub small : length s ≤ 65536
  pub few : length items ≤ 65536
  pub each : map told items ≡ readings dialect 1 (lines_of s)

-- a larger ticket is refused whole with 17; the one other way to fail is want of memory
abbrev pub Refuses : List ℕ → Failure → Type 0
Refuses s (Refused f) = (65536 < length s) × (f ≡ fault_of TicketTooLong 0 0)
Refuses s NoMemory = length s ≤ 65536
