-- Lists of places to text and back.
use Rattle.std.proofs.Common.{◌≡◌, ℕ, zero, suc, ◌+◌, ◌*◌, ◌/◌, ◌%◌, ◌^◌, ◌<◌, ◌≤◌, Bool, true, false, cond, eqb, List, [], ◌∷◌, ◌++◌, map, length, get_or, Some, None, decimal, Option, sym, refl, ap, ◌∙◌, mul_assoc, mul_comm, mul-add, arith, eqb-true}
use mathlib.Core.HLevel.{is_prop→PathP}
use native.Mathlib.Bridge.{le_prop}
use borrow.Author.Tests.{eqb-false}
use Rattle.std.specs.List.{flat_map}
use Rattle.std.specs.Option.{option_map}
use Rattle.std.proofs.lemmas.Bool.Decides.{nat_tests}
use Rattle.std.proofs.lemmas.Bool.{cond_both}
use Rattle.std.proofs.lemmas.Str.Parse.{numerals_by_value, tells_digits, not_in_digits}
use Rattle.std.proofs.lemmas.Fmt.{digits_decimal, decimal_nonempty, length-decimal-le}
use Rattle.std.proofs.lemmas.List.{append-nil, get_or_append_left, length-map, length-append}
use Rattle.text.specs.Parts.{parts_of, rejoined, Lacks, All}
use Rattle.text.specs.Numbers.{number_of, within}
use Rattle.text.specs.Lists.{option_then, rising, dash, list_of, plus, list_text, places_from, members, listed, ListsRound}
use Rattle.text.specs.declared.list.PlaceList.{PlaceList}
use Rattle.text.proofs.Cuts.{Free, lacks-free, free-lacks, parts-whole, parts-cut, parts-some, rejoined-parts}
use Rattle.text.proofs.Digits.{numbers-round}
use Rattle.text.proofs.Members.{double, double-suc}

-- each place above the one before it, and none above 99
abbrev Rising : ℕ → List ℕ → Type 0
Rising last [] = Unit {0}
Rising last (p ∷ ps) = (last < p) × (p ≤ 99) × Rising p ps

rising-from : (f p m last : ℕ) → last < p → p + f ≤ 100 → Rising last (places_from f p m)
rising-from zero p m last lt le = tt
rising-from (suc f) p m last lt le = cond_both (eqb (m % 2) 1) _ _ (Rising last) (λ _. (lt, omega arith, rising-from f (p + 1) (m / 2) p (omega arith) (omega arith))) (λ _. rising-from f (p + 1) (m / 2) last (omega arith) (omega arith))

-- written and read again
pub digits-free : (c n : ℕ) → n < 2 ^ 64 → c < 48 → Free c (decimal n)
digits-free c n small lt k h e = not_in_digits (numerals_by_value _ tells_digits) (decimal n) c (digits_decimal (numerals_by_value _ tells_digits) n small) (λ i. omega arith) k h e

free : (c n : ℕ) → n ≤ 99 → c < 48 → Free c (decimal n)
free c n le lt = digits-free c n (omega arith) lt

reads-on : (last p : ℕ) (ps : List ℕ) → last < p → p ≤ 99 → Rising p ps → rising last (parts_of 43 (decimal p ++ flat_map plus ps)) ≡ Some (p ∷ ps)
reads-on last p [] lt le r = rw (append-nil, parts-whole 43 (decimal p) (free 43 p le (omega arith)), numbers-round.read-back (last + 1) 99 p (omega arith) (omega arith) le)
reads-on last p (q ∷ qs) lt le r = rw (parts-cut 43 (decimal p) (decimal q ++ flat_map plus qs) (free 43 p le (omega arith)), numbers-round.read-back (last + 1) 99 p (omega arith) (omega arith) le, reads-on p q qs r.0 r.1 r.2)

no-dash : (s : List ℕ) (o : Option (List ℕ)) → (get_or s 0 0 ≡ 45 → ⊥) → dash s o ≡ o
no-dash [] o ne = refl
no-dash (c ∷ []) o ne = grind (arith, nat_tests)
no-dash (c ∷ d ∷ ds) o ne = refl

reads : (ps : List ℕ) → Rising 0 ps → list_of (list_text ps) ≡ Some ps
reads [] r = refl
reads (p ∷ ps) r =
    let some = decimal_nonempty p (omega arith) in
    let f = get_or_append_left (decimal p) (flat_map plus ps) 0 0 some in
    no-dash (list_text (p ∷ ps)) _ (λ e. free 45 p r.1 (omega arith) 0 some (sym f ∙ e)) ∙ reads-on 0 p ps r.0 r.1 r.2

-- no comma stands in a list
free-append : (c : ℕ) (xs ys : List ℕ) → Free c xs → Free c ys → Free c (xs ++ ys)
free-append c xs ys f g = free-lacks c (xs ++ ys) (lacks-append c xs ys (lacks-free c xs f) (lacks-free c ys g))
  where
    lacks-append : (c : ℕ) (xs ys : List ℕ) → Lacks c xs → Lacks c ys → Lacks c (xs ++ ys)
    lacks-append c [] ys l m = m
    lacks-append c (x ∷ xs) ys l m = (l.0, lacks-append c xs ys l.1 m)

free-one : (c x : ℕ) (xs : List ℕ) → (x ≡ c → ⊥) → Free c xs → Free c (x ∷ xs)
free-one c x xs ne f = free-lacks c (x ∷ xs) (ne, lacks-free c xs f)

plus-free : (last : ℕ) (ps : List ℕ) → Rising last ps → Free 44 (flat_map plus ps)
plus-free last [] r = free-lacks 44 [] tt
plus-free last (p ∷ ps) r = free-append 44 (plus p) (flat_map plus ps) (free-one 44 43 (decimal p) (λ e. omega (arith, e)) (free 44 p r.1 (omega arith))) (plus-free p ps r.2)

rising-free : (ps : List ℕ) → Rising 0 ps → Free 44 (list_text ps)
rising-free [] r = free-one 44 45 [] (λ e. omega (arith, e)) (free-lacks 44 [] tt)
rising-free (p ∷ ps) r = free-append 44 (decimal p) (flat_map plus ps) (free 44 p r.1 (omega arith)) (plus-free p ps r.2)

-- read and written again
written-at : (last : ℕ) (p : List ℕ) (ps : List (List ℕ)) (res : List ℕ) → ((n : ℕ) (ns : List ℕ) → rising n ps ≡ Some ns → ps ≡ map decimal ns) → (o : Option ℕ) → within (last + 1) 99 (number_of p) ≡ o → (q : (n : ℕ) → Option (List ℕ)) → ((n : ℕ) → rising n ps ≡ q n) → option_then o (λ n. option_map (λ ns. n ∷ ns) (q n)) ≡ Some res → p ∷ ps ≡ map decimal res
written-at last p ps res ih None w q h e = absurd (grind arith)
written-at last p ps res ih (Some n) w q h e = at (q n) refl e
  where
    at : (o : Option (List ℕ)) → q n ≡ o → option_map (λ ns. n ∷ ns) o ≡ Some res → p ∷ ps ≡ map decimal res
    at None k f = absurd (grind arith)
    at (Some ns) k f = let d = numbers-round.written-back (last + 1) 99 n p (omega arith) w in let i = ih n ns (h n ∙ k) in let r : n ∷ ns ≡ res = grind arith in ap (λ x. x ∷ ps) (sym d.0) ∙ ap (λ x. decimal n ∷ x) i ∙ ap (map decimal) r

written : (last : ℕ) (ps : List (List ℕ)) (res : List ℕ) → rising last ps ≡ Some res → ps ≡ map decimal res
written last [] res e = let r : [] ≡ res = grind arith in ap (map decimal) r
written last (p ∷ ps) res e = written-at last p ps res (λ n ns. written n ps ns) (within (last + 1) 99 (number_of p)) refl (λ n. rising n ps) (λ n. refl) e

joined-map : (ps : List ℕ) → flat_map (λ q. 43 ∷ q) (map decimal ps) ≡ flat_map plus ps
joined-map [] = refl
joined-map (p ∷ ps) = ap (λ t. plus p ++ t) (joined-map ps)

text-rejoined : (ps : List ℕ) → 0 < length ps → rejoined 43 (map decimal ps) ≡ list_text ps
text-rejoined [] some = absurd (omega arith)
text-rejoined (p ∷ ps) some = ap (λ t. decimal p ++ t) (joined-map ps)

from-parts : (s ps : List ℕ) → rising 0 (parts_of 43 s) ≡ Some ps → list_text ps ≡ s
from-parts s ps e =
    let h = written 0 (parts_of 43 s) ps e in
    let some : 0 < length ps = omega (arith, parts-some 43 s, ap length h ∙ length-map ps decimal) in
    sym (text-rejoined ps some) ∙ ap (rejoined 43) (sym h) ∙ rejoined-parts 43 s

lone : (c : ℕ) (ps : List ℕ) (b : Bool) → eqb c 45 ≡ b → cond b (Some []) (rising 0 (parts_of 43 (c ∷ []))) ≡ Some ps → list_text ps ≡ c ∷ []
lone c ps true q e = let n : ps ≡ [] = grind arith in rw (n, eqb-true c 45 q)
lone c ps false q e = from-parts (c ∷ []) ps e

writes : (s ps : List ℕ) → list_of s ≡ Some ps → list_text ps ≡ s
writes [] ps e = from-parts [] ps e
writes (c ∷ []) ps e = lone c ps (eqb c 45) refl e
writes (c ∷ d ∷ ds) ps e = from-parts (c ∷ d ∷ ds) ps e

-- the places tell the set
mask_of : List ℕ → ℕ
mask_of [] = 0
mask_of (p ∷ ps) = 2 ^ p + mask_of ps

shift : (a b : ℕ) → (2 * a) * b ≡ a * (2 * b)
shift a b = ap (λ x. x * b) (mul_comm 2 a) ∙ mul_assoc a 2 b

mask-from : (f p m : ℕ) → m < 2 ^ f → mask_of (places_from f p m) ≡ 2 ^ p * m
unfolding mask_of
mask-from zero p m lt = let z : m ≡ 0 = omega arith in rw z (omega arith)
mask-from (suc f) p m lt =
    let e = double-suc f in
    let h = mask-from f (p + 1) (m / 2) (omega arith) in
    let g : 2 ^ (p + 1) * (m / 2) ≡ 2 ^ p * (2 * (m / 2)) = ap (λ x. x * (m / 2)) (double p) ∙ shift (2 ^ p) (m / 2) in
    cond_both (eqb (m % 2) 1) _ _ (λ ps. mask_of ps ≡ 2 ^ p * m)
    (λ t. let o = eqb-true (m % 2) 1 t in let mm : m ≡ 2 * (m / 2) + 1 = omega arith in let k = ap (λ x. 2 ^ p * x) mm ∙ mul-add (2 ^ p) (2 * (m / 2)) 1 in omega arith)
    (λ t. let o = eqb-false (m % 2) 1 t in let mm : m ≡ 2 * (m / 2) = omega arith in let k = ap (λ x. 2 ^ p * x) mm in omega arith)

members-same : (m n : ℕ) → m < 2 ^ 99 → n < 2 ^ 99 → members m ≡ members n → m ≡ n
unfolding members
members-same m n a b e = omega (arith, mask-from 99 1 m a, mask-from 99 1 n b, ap mask_of e)

list-same : (k l : PlaceList) → k.bits ≡ l.bits → k ≡ l
list-same k l e = λ i. record { bits = e i; few = is_prop→PathP (λ j. e j < 2 ^ 99) (λ j. le_prop) k.few l.few i }

members-rise : (m : ℕ) → Rising 0 (members m)
unfolding members
members-rise m = rising-from 99 1 m 0 (omega arith) (omega arith)

pub list-free : (l : PlaceList) → Free 44 (list_text (listed l))
list-free l = rising-free (listed l) (members-rise l.bits)

-- a list of a ticket's own places is short
two-digits : (n : ℕ) → n ≤ 99 → length (decimal n) ≤ 2
two-digits n le = length-decimal-le 2 n (omega arith) (omega arith) (omega arith)

few-places : (last : ℕ) (ps : List ℕ) → Rising last ps → last ≤ 64 → All (λ p. p ≤ 64) ps → length ps + last ≤ 64
few-places last [] r le a = omega arith
few-places last (p ∷ ps) r le a = omega (arith, r.0, few-places p ps r.2 a.0 a.1)

short-joined : (last : ℕ) (ps : List ℕ) → Rising last ps → length (flat_map plus ps) ≤ 3 * length ps
short-joined last [] r = omega arith
short-joined last (p ∷ ps) r = omega (arith, length-append (plus p) (flat_map plus ps), two-digits p r.1, short-joined p ps r.2)

short-list : (ps : List ℕ) → Rising 0 ps → length (list_text ps) ≤ 3 * length ps + 1
short-list [] r = omega arith
short-list (p ∷ ps) r = omega (arith, length-append (decimal p) (flat_map plus ps), two-digits p r.1, short-joined p ps r.2)

pub list-fits : (l : PlaceList) → All (λ p. p ≤ 64) (listed l) → length (list_text (listed l)) ≤ 193
list-fits l a = let r = members-rise l.bits in omega (arith, short-list (listed l) r, few-places 0 (listed l) r (omega arith) a)

pub lists-round : ListsRound
lists-round = record {
  read-back = λ l. reads (listed l) (members-rise l.bits);
  written-back = writes;
  same = λ k l e. list-same k l (members-same k.bits l.bits k.few l.few e);
}
