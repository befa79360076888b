-- Rows to text and back.
use Rattle.std.proofs.Common.{◌≡◌, ℕ, ◌+◌, ◌^◌, ◌<◌, ◌≤◌, Bool, true, false, cond, eqb, ltb, List, [], ◌∷◌, ◌++◌, length, get_or, Some, None, Ok, Err, decimal, Option, Result, sym, refl, ap, ◌∙◌, append-nil, arith, eqb-true}
use Rattle.std.specs.Option.{ok_or}
use Rattle.std.proofs.lemmas.Bool.Decides.{nat_tests}
use Rattle.std.proofs.lemmas.Fmt.{length-decimal-le}
use Rattle.std.proofs.lemmas.List.{length-append}
use Rattle.fault.specs.declared.Fault.{Fault}
use Rattle.bales.proofs.Numbers.{ranged-same}
use Rattle.ticket.specs.declared.entry.Row.{Row}
use Rattle.ticket.specs.declared.entry.Row.TheVariants.{Group, Number}
use Rattle.ticket.specs.declared.word.Dialect.{Dialect}
use Rattle.ticket.specs.declared.word.Letter.{Letter}
use Rattle.ticket.specs.declared.word.Letter.TheVariants.{Bale as BaleLetter, Close as CloseLetter, Group as GroupLetter, Number as NumberLetter, State as StateLetter, Settle as SettleLetter}
use Rattle.ticket.specs.declared.word.Word.{Word}
use Rattle.ticket.specs.declared.word.Word.TheVariants.{Pair, Triple, Member}
use Rattle.text.specs.Answers.{and_then}
use Rattle.ticket.specs.Entries.{Bounds, group, number, Said, declare, bounds}
use Rattle.ticket.specs.Lines.{fields_of, fields_at, line_at, body_at, counted_at, group_at, range_at, cell_at, place_at, weight_at, amount_at, places_at, unused_at, field, bale_at, settle_at, operands_at}
use Rattle.text.specs.Lists.{list_of, list_at, list_text, listed}
use Rattle.text.specs.Numbers.{number_of, within, number_at}
use Rattle.text.specs.Parts.{rejoined}
use Rattle.ticket.specs.Rows.{row_text, row_letter, OnTicket, RowsRound}
use Rattle.ticket.specs.Words.{knows_letter, known, letter_of, letter_at, word_at, field_count}
use Rattle.text.proofs.Cuts.{Free, free-lacks, parts-whole, parts-cut, rejoined-parts}
use Rattle.text.proofs.Digits.{numbers-round}
use Rattle.text.proofs.Lists.{lists-round, digits-free, list-free, list-fits}

-- the four fields of a row
one-free : (letter : ℕ) → (letter ≡ 44 → ⊥) → Free 44 (letter ∷ [])
one-free letter ne = free-lacks 44 (letter ∷ []) (ne, tt)

four-fields : (letter : ℕ) (a b d : List ℕ) → (letter ≡ 44 → ⊥) → Free 44 a → Free 44 b → Free 44 d → fields_of ((letter ∷ []) ++ (44 ∷ (a ++ (44 ∷ (b ++ (44 ∷ d)))))) ≡ (letter ∷ []) ∷ a ∷ b ∷ d ∷ []
four-fields letter a b d ne fa fb fd =
    parts-cut 44 (letter ∷ []) (a ++ (44 ∷ (b ++ (44 ∷ d)))) (one-free letter ne)
    ∙ ap (λ t. (letter ∷ []) ∷ t) (parts-cut 44 a (b ++ (44 ∷ d)) fa ∙ ap (λ t. a ∷ t) (parts-cut 44 b d fb ∙ ap (λ t. b ∷ t) (parts-whole 44 d fd)))

short-line : (dialect : Dialect) (line : ℕ) (s : List ℕ) (fs : List (List ℕ)) → length s ≤ 400 → fields_of s ≡ fs → line_at dialect line s ≡ fields_at dialect line fs
short-line dialect line s fs short e = let b : ltb 400 (length s) ≡ false = grind (arith, nat_tests) in rw (b, e)

reads : (dialect : Dialect) (line : ℕ) (row : Row) → knows_letter dialect (row_letter (bounds row)) ≡ true → length (row_text (bounds row)) ≤ 400 → line_at dialect line (row_text (bounds row)) ≡ Ok (declare (bounds row))
reads dialect line (Group cell sure possible) k short =
    short-line dialect line (row_text (bounds (Group cell sure possible))) _ short (four-fields 71 (decimal cell.number) (list_text (listed sure)) (list_text (listed possible)) (λ e. omega (arith, e)) (digits-free 44 cell.number (omega (arith, cell.most)) (omega arith)) (list-free sure) (list-free possible))
    ∙ rw (k, numbers-round.read-back 1 99 cell.number (omega arith) cell.least cell.most, lists-round.read-back sure, lists-round.read-back possible)
reads dialect line (Number cell low high) k short =
    short-line dialect line (row_text (bounds (Number cell low high))) _ short (four-fields 78 (decimal cell.number) (decimal low.number) (decimal high.number) (λ e. omega (arith, e)) (digits-free 44 cell.number (omega (arith, cell.most)) (omega arith)) (digits-free 44 low.number (omega (arith, low.most)) (omega arith)) (digits-free 44 high.number (omega (arith, high.most)) (omega arith)))
    ∙ rw (k, numbers-round.read-back 1 99 cell.number (omega arith) cell.least cell.most, numbers-round.read-back 0 1000000 low.number (omega arith) (omega arith) low.most, numbers-round.read-back 0 1000000 high.number (omega arith) (omega arith) high.most)

-- what an answer that is an entry tells of the reading
then-ok : {X Y E : Type 0} (r : Result X E) (f : X → Result Y E) (y : Y) → and_then r f ≡ Ok y → (x : X) × (r ≡ Ok x) × (f x ≡ Ok y)
then-ok (Ok x) f y e = (x, refl, e)
then-ok (Err d) f y e = cc

some-ok : {X E : Type 0} (o : Option X) (d : E) (x : X) → ok_or o d ≡ Ok x → o ≡ Some x
some-ok (Some y) d x e = let z : y ≡ x = cc in ap Some z
some-ok None d x e = cc

three : {X : Type 0} (xs : List X) → length xs + 1 ≡ 4 → (d : X) → xs ≡ get_or xs 0 d ∷ get_or xs 1 d ∷ get_or xs 2 d ∷ []
three [] e d = absurd (omega arith)
three (a ∷ []) e d = absurd (omega arith)
three (a ∷ b ∷ []) e d = absurd (omega arith)
three (a ∷ b ∷ c ∷ []) e d = refl
three (a ∷ b ∷ c ∷ g ∷ gs) e d = absurd (omega arith)

-- a choice that is an entry was not the fault
cond-ok : {Y E : Type 0} (t : Bool) (r : Result Y E) (d : E) (y : Y) → cond t r (Err d) ≡ Ok y → (t ≡ true) × (r ≡ Ok y)
cond-ok true r d y e = (refl, e)
cond-ok false r d y e = cc

cond-err : {Y E : Type 0} (t : Bool) (r : Result Y E) (d : E) (y : Y) → cond t (Err d) r ≡ Ok y → r ≡ Ok y
cond-err true r d y e = cc
cond-err false r d y e = e

known-some : (dialect : Dialect) (o : Option Letter) (letter : Letter) → known dialect o ≡ Some letter → o ≡ Some letter
known-some dialect None letter e = absurd (grind arith)
known-some dialect (Some l) letter e = grind (arith, nat_tests)

letter-ok : (dialect : Dialect) (line : ℕ) (f : List ℕ) (letter : Letter) → letter_at dialect line f ≡ Ok letter → (c : ℕ) × (f ≡ c ∷ []) × (letter_of c ≡ Some letter)
letter-ok dialect line [] letter e = cc
letter-ok dialect line (c ∷ []) letter e = (c, refl, known-some dialect (letter_of c) letter (some-ok (known dialect (letter_of c)) _ letter e))
letter-ok dialect line (c ∷ d ∷ ds) letter e = cc

-- the text of a field that is read as a number, or as a list
number-text : (low high line k n : ℕ) (f : List ℕ) → high < 2 ^ 64 → number_at low high line k f ≡ Ok n → decimal n ≡ f
number-text low high line k n f small e = (numbers-round.written-back low high n f small (some-ok (within low high (number_of f)) _ n e)).0

list-text : (line k : ℕ) (ps f : List ℕ) → list_at line k f ≡ Ok ps → list_text ps ≡ f
list-text line k ps f e = lists-round.written-back f ps (some-ok (list_of f) _ ps e)

row-of : (letter : ℕ) (x y z a b c : List ℕ) → x ≡ a → y ≡ b → z ≡ c → letter ∷ 44 ∷ (x ++ (44 ∷ (y ++ (44 ∷ z)))) ≡ rejoined 44 ((letter ∷ []) ∷ a ∷ b ∷ c ∷ [])
row-of letter x y z a b c p q r = rw (p, q, r, append-nil)

declared : {x y : Bounds} → ◌≡◌ {A = Result Said Fault} (Ok (declare x)) (Ok (declare y)) → x ≡ y
declared e = cc

module _ (line c : ℕ) (fs : List (List ℕ)) (b : Bounds) (many : length fs + 1 ≡ 4) where
  whole : rejoined 44 ((c ∷ []) ∷ get_or fs 0 [] ∷ get_or fs 1 [] ∷ get_or fs 2 [] ∷ []) ≡ rejoined 44 ((c ∷ []) ∷ fs)
  whole = ap (λ t. rejoined 44 ((c ∷ []) ∷ t)) (sym (three fs many []))

  group-written : c ≡ 71 → group_at line fs ≡ Ok (declare b) → row_text b ≡ rejoined 44 ((c ∷ []) ∷ fs)
  group-written l e =
      let x = then-ok (cell_at line 2 fs) _ _ e in
      let y = then-ok (places_at line 3 fs) _ _ x.2 in
      let z = then-ok (places_at line 4 fs) _ _ y.2 in
      let d : b ≡ group x.0 y.0 z.0 = sym (declared z.2) in
      ap row_text d ∙ row-of 71 _ _ _ _ _ _ (number-text 1 99 line 2 x.0 _ (omega arith) x.1) (list-text line 3 y.0 _ y.1) (list-text line 4 z.0 _ z.1)
      ∙ ap (λ t. rejoined 44 ((t ∷ []) ∷ get_or fs 0 [] ∷ get_or fs 1 [] ∷ get_or fs 2 [] ∷ [])) (sym l) ∙ whole

  range-written : c ≡ 78 → range_at line fs ≡ Ok (declare b) → row_text b ≡ rejoined 44 ((c ∷ []) ∷ fs)
  range-written l e =
      let x = then-ok (cell_at line 2 fs) _ _ e in
      let y = then-ok (amount_at line 3 fs) _ _ x.2 in
      let z = then-ok (amount_at line 4 fs) _ _ y.2 in
      let d : b ≡ number x.0 y.0 z.0 = sym (declared z.2) in
      ap row_text d ∙ row-of 78 _ _ _ _ _ _ (number-text 1 99 line 2 x.0 _ (omega arith) x.1) (number-text 0 1000000 line 3 y.0 _ (omega arith) y.1) (number-text 0 1000000 line 4 z.0 _ (omega arith) z.1)
      ∙ ap (λ t. rejoined 44 ((t ∷ []) ∷ get_or fs 0 [] ∷ get_or fs 1 [] ∷ get_or fs 2 [] ∷ [])) (sym l) ∙ whole

-- lines of other letters are no rows
module _ (line : ℕ) (fs : List (List ℕ)) (b : Bounds) where
  not-bale : bale_at line fs ≡ Ok (declare b) → ⊥
  not-bale e =
      let x = then-ok (place_at line 2 fs) _ _ e in
      let y = then-ok (weight_at line 3 fs) _ _ x.2 in
      let h = y.2 in cc

  not-settle : settle_at line fs ≡ Ok (declare b) → ⊥
  not-settle e = let x = then-ok (amount_at line 2 fs) _ _ e in let h = x.2 in cc

  not-operands : (w : Word) → operands_at line fs w ≡ Ok (declare b) → ⊥
  not-operands (Pair word) e =
      let x = then-ok (cell_at line 3 fs) _ _ e in
      let y = then-ok (cell_at line 4 fs) _ _ x.2 in
      let u = then-ok (unused_at line 5 fs) _ _ y.2 in
      let h = u.2 in cc
  not-operands (Triple word) e =
      let x = then-ok (cell_at line 3 fs) _ _ e in
      let y = then-ok (cell_at line 4 fs) _ _ x.2 in
      let u = then-ok (cell_at line 5 fs) _ _ y.2 in
      let h = u.2 in cc
  not-operands (Member word) e =
      let x = then-ok (cell_at line 3 fs) _ _ e in
      let y = then-ok (place_at line 4 fs) _ _ x.2 in
      let u = then-ok (unused_at line 5 fs) _ _ y.2 in
      let h = u.2 in cc

by-letter : (dialect : Dialect) (line c : ℕ) (fs : List (List ℕ)) (b : Bounds) (letter : Letter) → letter_of c ≡ Some letter → length fs + 1 ≡ field_count letter → body_at dialect line fs letter ≡ Ok (declare b) → row_text b ≡ rejoined 44 ((c ∷ []) ∷ fs)
by-letter dialect line c fs b BaleLetter l n e = absurd (not-bale line fs b e)
by-letter dialect line c fs b CloseLetter l n e = cc
by-letter dialect line c fs b GroupLetter l n e = group-written line c fs b n (grind (arith, nat_tests)) e
by-letter dialect line c fs b NumberLetter l n e = range-written line c fs b n (grind (arith, nat_tests)) e
by-letter dialect line c fs b StateLetter l n e = let x = then-ok (word_at dialect line (field 2 fs)) (operands_at line fs) _ e in absurd (not-operands line fs b x.0 x.2)
by-letter dialect line c fs b SettleLetter l n e = absurd (not-settle line fs b e)

from-fields : (dialect : Dialect) (line : ℕ) (fs : List (List ℕ)) (b : Bounds) → fields_at dialect line fs ≡ Ok (declare b) → row_text b ≡ rejoined 44 fs
from-fields dialect line [] b e = cc
from-fields dialect line (f ∷ fs) b e =
    let x = then-ok (letter_at dialect line f) (counted_at dialect line fs) _ e in
    let l = letter-ok dialect line f x.0 x.1 in
    let n = cond-ok (eqb (length fs + 1) (field_count x.0)) _ _ _ x.2 in
    by-letter dialect line l.0 fs b x.0 l.2 (eqb-true (length fs + 1) (field_count x.0) n.0) n.1 ∙ ap (λ t. rejoined 44 (t ∷ fs)) (sym l.1)

written : (dialect : Dialect) (line : ℕ) (s : List ℕ) (b : Bounds) → line_at dialect line s ≡ Ok (declare b) → row_text b ≡ s
written dialect line s b e = from-fields dialect line (fields_of s) b (cond-err (ltb 400 (length s)) _ _ _ e) ∙ rejoined-parts 44 s

-- the meaning of a row tells the row
same : (k l : Row) → bounds k ≡ bounds l → k ≡ l
same (Group c s p) (Group c' s' p') e =
    let ce : c.number ≡ c'.number = cc in
    let se : listed s ≡ listed s' = cc in
    let pe : listed p ≡ listed p' = cc in
    λ i. Group (ranged-same c c' ce i) (lists-round.same s s' se i) (lists-round.same p p' pe i)
same (Group c s p) (Number c' l h) e = cc
same (Number c l h) (Group c' s p) e = cc
same (Number c l h) (Number c' l' h') e =
    let ce : c.number ≡ c'.number = cc in
    let le : l.number ≡ l'.number = cc in
    let he : h.number ≡ h'.number = cc in
    λ i. Number (ranged-same c c' ce i) (ranged-same l l' le i) (ranged-same h h' he i)

-- four fields of at most these lengths
row-length : (letter m n k : ℕ) (a b d : List ℕ) → length a ≤ m → length b ≤ n → length d ≤ k → length (letter ∷ 44 ∷ (a ++ (44 ∷ (b ++ (44 ∷ d))))) ≤ 4 + m + n + k
row-length letter m n k a b d p q r = omega (arith, length-append a (44 ∷ (b ++ (44 ∷ d))), length-append b (44 ∷ d))

fits : (row : Row) → OnTicket (bounds row) → length (row_text (bounds row)) ≤ 400
fits (Group cell sure possible) a =
    omega (arith, row-length 71 2 193 193 (decimal cell.number) (list_text (listed sure)) (list_text (listed possible)) (length-decimal-le 2 cell.number (omega arith) (omega (arith, cell.most)) (omega (arith, cell.most))) (list-fits sure a.0) (list-fits possible a.1))
fits (Number cell low high) a =
    omega (arith, row-length 78 2 7 7 (decimal cell.number) (decimal low.number) (decimal high.number) (length-decimal-le 2 cell.number (omega arith) (omega (arith, cell.most)) (omega (arith, cell.most))) (length-decimal-le 7 low.number (omega arith) (omega (arith, low.most)) (omega (arith, low.most))) (length-decimal-le 7 high.number (omega arith) (omega (arith, high.most)) (omega (arith, high.most))))

pub rows-round : RowsRound
rows-round = record { read-back = reads; written-back = written; same = same; fits = fits }
