-- Rows as text.
use Rattle.std.specs.Prelude.{◌≡◌, ℕ, ◌≤◌, true, List, ◌++◌, length, Ok, codes, decimal}
use Rattle.ticket.specs.declared.entry.Row.{Row}
use Rattle.ticket.specs.declared.word.Dialect.{Dialect}
use Rattle.ticket.specs.declared.word.Letter.{Letter}
use Rattle.ticket.specs.declared.word.Letter.TheVariants.{Group, Number}
use Rattle.ticket.specs.Entries.{Bounds, group, number, declare, bounds}
use Rattle.ticket.specs.Lines.{line_at}
use Rattle.text.specs.Lists.{list_text}
use Rattle.text.specs.Parts.{All}
use Rattle.ticket.specs.Words.{knows_letter}

-- G,cell,sure,possible or N,cell,low,high
abbrev pub row_text : Bounds → List ℕ
row_text (group cell sure possible) = codes "G," ++ (decimal cell ++ (codes "," ++ (list_text sure ++ (codes "," ++ list_text possible))))
row_text (number cell low high) = codes "N," ++ (decimal cell ++ (codes "," ++ (decimal low ++ (codes "," ++ decimal high))))

abbrev pub row_letter : Bounds → Letter
row_letter (group cell sure possible) = Group
row_letter (number cell low high) = Number

-- no place above 64, the most that a ticket has
abbrev pub OnTicket : Bounds → Type 0
OnTicket (group cell sure possible) = All (λ p. p ≤ 64) sure × All (λ p. p ≤ 64) possible
OnTicket (number cell low high) = Unit {0}

-- a row written and read again is the same row; a row read and written again is the same text
pub record RowsRound : Type 0 where
  pub read-back : (dialect : Dialect) (line : ℕ) (row : Row) → knows_letter dialect (row_letter (bounds row)) ≡ true → length (row_text (bounds row)) ≤ 400 → line_at dialect line (row_text (bounds row)) ≡ Ok (declare (bounds row))
  pub written-back : (dialect : Dialect) (line : ℕ) (s : List ℕ) (b : Bounds) → line_at dialect line s ≡ Ok (declare b) → row_text b ≡ s
  -- two rows of the same meaning are the same row
  pub same : (k l : Row) → bounds k ≡ bounds l → k ≡ l
  -- a row of a ticket's own places is never too long for a line
  pub fits : (row : Row) → OnTicket (bounds row) → length (row_text (bounds row)) ≤ 400
