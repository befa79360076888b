-- Reading rising places one after another.
use Rattle.std.proofs.Common.{◌≡◌, ℕ, ◌+◌, ◌-◌, ◌^◌, ◌<◌, ◌≤◌, List, [], ◌∷◌, ◌++◌, length, get_or, drop, Some, None, Option, sym, refl, ap, ◌∙◌, append_assoc, append-nil, arith}
use Rattle.std.proofs.lemmas.Bool.Decides.{nat_tests}
use Rattle.std.proofs.lemmas.List.{drop_more, drop_all}
use Rattle.std.specs.Option.{option_map}
use Rattle.text.specs.Numbers.{number_of, within}
use Rattle.text.specs.Lists.{rising, members}
use Rattle.text.proofs.Digits.{within-some}
use Rattle.text.proofs.Members.{members-none, members-push, bit-more}

-- a number within a range, seen from a wider range
narrower : (low low' high n : ℕ) (o : Option ℕ) → within low high o ≡ Some n → low' ≤ n → within low' high o ≡ Some n
narrower low low' high n None e le = grind arith
narrower low low' high n (Some m) e le = grind (arith, nat_tests)

outside : (last : ℕ) (o : Option ℕ) → within 1 99 o ≡ None → within (last + 1) 99 o ≡ None
outside last None e = refl
outside last (Some m) e = grind (arith, nat_tests)

too-low : (last n : ℕ) (o : Option ℕ) → within 1 99 o ≡ Some n → n ≤ last → within (last + 1) 99 o ≡ None
too-low last n None e le = refl
too-low last n (Some m) e le = grind (arith, nat_tests)

mapped-twice : {A : Type 0} (xs ys : List A) (n : A) (o : Option (List A)) → ys ≡ xs ++ (n ∷ []) → option_map (λ ns. xs ++ ns) (option_map (λ ns. n ∷ ns) o) ≡ option_map (λ ns. ys ++ ns) o
mapped-twice xs ys n None e = refl
mapped-twice xs ys n (Some ns) e = ap Some (sym (append_assoc xs (n ∷ []) ns) ∙ ap (λ t. t ++ ns) (sym e))

-- the places of the set m stand before part i of all, and the parts from there on are to be read
abbrev pub Reading : List (List ℕ) → ℕ → ℕ → ℕ → Option (List ℕ) → Type 0
Reading all i m last total = (option_map (λ ns. members m ++ ns) (rising last (drop i all)) ≡ total) × (m < 2 ^ last) × (last ≤ 99)

-- one part more
module _ (all : List (List ℕ)) (i m last : ℕ) (total : Option (List ℕ)) (so_far : Reading all i m last total) (part : List ℕ) (item : (i < length all) × (part ≡ get_or all i part)) where
  here : drop i all ≡ part ∷ drop (i + 1) all
  here = drop_more all i part item.0 ∙ ap (λ p. p ∷ drop (i + 1) all) (sym item.1)

  none-here : within (last + 1) 99 (number_of part) ≡ None → total ≡ None
  none-here w = sym so_far.0 ∙ ap (λ ps. option_map (λ ns. members m ++ ns) (rising last ps)) here ∙ rw w

  pub part-bad : within 1 99 (number_of part) ≡ None → total ≡ None
  part-bad e = none-here (outside last (number_of part) e)

  module _ (n : ℕ) (number : within 1 99 (number_of part) ≡ Some n) where
    pub part-low : n ≤ last → total ≡ None
    part-low le = none-here (too-low last n (number_of part) number le)

    pub part-more : last < n → (x j : ℕ) → x ≡ 2 ^ (n - 1) → j ≡ i + 1 → Reading all j (m + x) n total
    part-more lt x j b je =
        let w = within-some 1 99 n (number_of part) number in
        let h = bit-more m last n so_far.1 lt w.2 in
        let push = ap (λ y. members (m + y)) b ∙ members-push m n w.1 w.2 h.1 in
        let v = narrower 1 (last + 1) 99 n (number_of part) number (omega arith) in
        let r : option_map (λ ns. members m ++ ns) (rising last (part ∷ drop (i + 1) all)) ≡ option_map (λ ns. members (m + x) ++ ns) (rising n (drop (i + 1) all)) = rw v (mapped-twice (members m) (members (m + x)) n (rising n (drop (i + 1) all)) push) in
        (ap (λ k. option_map (λ ns. members (m + x) ++ ns) (rising n (drop k all))) je ∙ sym r ∙ ap (λ ps. option_map (λ ns. members m ++ ns) (rising last ps)) (sym here) ∙ so_far.0, omega (arith, h.2), w.2)

pub reading-none : (all : List (List ℕ)) → Reading all 0 0 0 (rising 0 all)
reading-none all = (first (rising 0 all), omega arith, omega arith)
  where
    first : (o : Option (List ℕ)) → option_map (λ ns. members 0 ++ ns) o ≡ o
    first None = refl
    first (Some ns) = ap (λ t. Some (t ++ ns)) members-none

pub reading-all : (all : List (List ℕ)) (i m last : ℕ) (total : Option (List ℕ)) → Reading all i m last total → length all ≤ i → total ≡ Some (members m)
reading-all all i m last total so_far le = sym so_far.0 ∙ ap (λ ps. option_map (λ ns. members m ++ ns) (rising last ps)) (drop_all i all le) ∙ ap Some (append-nil (members m))
