-- Lists of rising places, as text and as sets.
use Rattle.std.specs.Prelude.{◌≡◌, ℕ, zero, suc, ◌+◌, ◌/◌, ◌%◌, cond, List, [], ◌∷◌, ◌++◌, Some, None, decimal, Option, Result, ◌==◌}
use Rattle.std.specs.List.{flat_map}
use Rattle.std.specs.Option.{option_map, ok_or}
use Rattle.fault.specs.declared.Fault.{Fault}
use Rattle.fault.specs.declared.Refusal.TheVariants.{BadList}
use Rattle.fault.specs.Refusals.{fault_of}
use Rattle.text.specs.Numbers.{number_of, within}
use Rattle.text.specs.Parts.{parts_of}
use Rattle.text.specs.declared.list.PlaceList.{PlaceList}

abbrev pub option_then : {X Y : Type 0} → Option X → (X → Option Y) → Option Y
option_then None f = None
option_then (Some x) f = f x

-- the places that the parts write, each above the one before it and at most 99
abbrev pub rising : ℕ → List (List ℕ) → Option (List ℕ)
rising last [] = Some []
rising last (p ∷ ps) = option_then (within (last + 1) 99 (number_of p)) (λ n. option_map (λ ns. n ∷ ns) (rising n ps))

-- the empty list is `-`, and any other is as `others` says
abbrev pub dash : List ℕ → Option (List ℕ) → Option (List ℕ)
dash [] others = others
dash (c ∷ []) others = cond (c == 45) (Some []) others
dash (c ∷ d ∷ ds) others = others

-- the places that a text lists, with `+` between them
abbrev pub list_of : List ℕ → Option (List ℕ)
list_of s = dash s (rising 0 (parts_of 43 s))

-- the list in a field: 5 for whatever is wrong in it
abbrev pub list_at : ℕ → ℕ → List ℕ → Result (List ℕ) Fault
list_at line field s = ok_or (list_of s) (fault_of BadList line field)

-- how places are listed
abbrev pub plus : ℕ → List ℕ
plus p = 43 ∷ decimal p

abbrev pub list_text : List ℕ → List ℕ
list_text [] = 45 ∷ []
list_text (p ∷ ps) = decimal p ++ flat_map plus ps

-- the places from p on whose bits are set in m
abbrev pub places_from : ℕ → ℕ → ℕ → List ℕ
places_from zero p m = []
places_from (suc f) p m = cond (m % 2 == 1) (p ∷ places_from f (p + 1) (m / 2)) (places_from f (p + 1) (m / 2))

-- the places of a set of bits, in rising order
unfoldable pub members : ℕ → List ℕ
members m = places_from 99 1 m

abbrev pub listed : PlaceList → List ℕ
listed l = members l.bits

-- a list written and read again is the same list; a text read and written again is the same text
pub record ListsRound : Type 0 where
  pub read-back : (l : PlaceList) → list_of (list_text (listed l)) ≡ Some (listed l)
  pub written-back : (s ps : List ℕ) → list_of s ≡ Some ps → list_text ps ≡ s
  pub same : (k l : PlaceList) → listed k ≡ listed l → k ≡ l
