-- What a reader answers, by what its value means.
use Rattle.std.specs.Prelude.{◌≡◌, Ok, Err, Result}

-- r is the answer that `wanted` says: a value of that meaning, or that very fault
abbrev pub Gives : {X Y E : Type 0} → (X → Y) → Result X E → Result Y E → Type 0
Gives meaning (Ok x) wanted = wanted ≡ Ok (meaning x)
Gives meaning (Err e) wanted = wanted ≡ Err e

-- the one reading after the other; the first fault decides
abbrev pub and_then : {X Y E : Type 0} → Result X E → (X → Result Y E) → Result Y E
and_then (Ok x) f = f x
and_then (Err e) f = Err e
