-- The rules that a list of them holds, and what taking one and giving one up make of them.
use Rattle.std.specs.Prelude.{◌≡◌, ◌-◌, ◌<◌, Ok, Err, Result, List, [], ◌∷◌, ◌++◌, length, take, vec_items}
use Rattle.rules.specs.declared.Rules.{Rules}

-- the oldest first
abbrev pub listed : {R : Type 0} → Rules R → List R
listed rules = vec_items rules.items

-- the rule stands behind the others, or there were 64, they are as they were, and it is given back
abbrev pub Pushed : {X R : Type 0} → List R → R → List R → Result X R → Type 0
Pushed before rule after (Ok x) = (length before < 64) × (after ≡ before ++ (rule ∷ []))
Pushed before rule after (Err back) = (length before ≡ 64) × (after ≡ before) × (back ≡ rule)

-- all but the newest
abbrev pub but_newest : {R : Type 0} → List R → List R
but_newest rules = take (length rules - 1) rules
