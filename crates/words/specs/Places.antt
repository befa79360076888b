-- Sets made from the ends of three groups, and who is in them at one place.
use Rattle.std.specs.Prelude.{◌≡◌, ℕ, Bool, false, not, ◌&&◌, ◌||◌, T, refl}
use Rattle.std.proofs.Common.{ap₂, ◌∙◌}
use Rattle.places.specs.Members.{has, none, union, intersection, minus}
use Rattle.places.specs.Tables.{◌⇒◌, rows}
use Rattle.places.proofs.Members.{has-and, has-or, has-minus, has-none}
use Rattle.places.proofs.Tables.{table}

-- the ends of the groups A, B and C: sets of places, or whether one place is in each
pub record Ends (X : Type 0) : Type 0 where
  pub sa : X
  pub pa : X
  pub sb : X
  pub pb : X
  pub sc : X
  pub pc : X

pub data Expr : Type 0 where
  no_places : Expr
  sure_a : Expr
  possible_a : Expr
  sure_b : Expr
  possible_b : Expr
  sure_c : Expr
  possible_c : Expr
  ◌∩◌ : Expr → Expr → Expr
  ◌∪◌ : Expr → Expr → Expr
  ◌∖◌ : Expr → Expr → Expr

infixl 7 ◌∩◌
infixl 6 ◌∪◌
infixl 6 ◌∖◌
-- as a set of places
abbrev pub sets : Expr → Ends ℕ → ℕ
sets no_places t = none
sets sure_a t = t.sa
sets possible_a t = t.pa
sets sure_b t = t.sb
sets possible_b t = t.pb
sets sure_c t = t.sc
sets possible_c t = t.pc
sets (e ∩ f) t = intersection (sets e t) (sets f t)
sets (e ∪ f) t = union (sets e t) (sets f t)
sets (e ∖ f) t = minus (sets e t) (sets f t)

-- at one place
abbrev pub bits : Expr → Ends Bool → Bool
bits no_places t = false
bits sure_a t = t.sa
bits possible_a t = t.pa
bits sure_b t = t.sb
bits possible_b t = t.pb
bits sure_c t = t.sc
bits possible_c t = t.pc
bits (e ∩ f) t = bits e t && bits f t
bits (e ∪ f) t = bits e t || bits f t
bits (e ∖ f) t = bits e t && not (bits f t)

abbrev pub over : {X Y : Type 0} → (X → Y) → Ends X → Ends Y
over f t = record { sa = f t.sa; pa = f t.pa; sb = f t.sb; pb = f t.pb; sc = f t.sc; pc = f t.pc }

pub has-set : (k : ℕ) (e : Expr) (t : Ends ℕ) → has k (sets e t) ≡ bits e (over (has k) t)
has-set k no_places t = has-none k
has-set k sure_a t = refl
has-set k possible_a t = refl
has-set k sure_b t = refl
has-set k possible_b t = refl
has-set k sure_c t = refl
has-set k possible_c t = refl
has-set k (e ∩ f) t = has-and k (sets e t) (sets f t) ∙ ap₂ ◌&&◌ (has-set k e t) (has-set k f t)
has-set k (e ∪ f) t = has-or k (sets e t) (sets f t) ∙ ap₂ ◌||◌ (has-set k e t) (has-set k f t)
has-set k (e ∖ f) t = has-minus k (sets e t) (sets f t) ∙ ap₂ (λ x y. x && not y) (has-set k e t) (has-set k f t)

-- ---- a word at one place: its relation, and what each group gains and keeps

pub record Word : Type 0 where
  pub relation : Bool → Bool → Bool → Bool
  pub gain-a : Expr
  pub keep-a : Expr
  pub gain-b : Expr
  pub keep-b : Expr
  pub gain-c : Expr
  pub keep-c : Expr

-- u is inside t
abbrev pub inside_at : Ends Bool → Ends Bool → Bool
inside_at u t = (t.sa ⇒ u.sa) && (u.pa ⇒ t.pa) && (t.sb ⇒ u.sb) && (u.pb ⇒ t.pb) && (t.sc ⇒ u.sc) && (u.pc ⇒ t.pc)

abbrev pub told_at : Word → Ends Bool → Ends Bool
told_at w t = record { sa = bits w.gain-a t; pa = bits w.keep-a t; sb = bits w.gain-b t; pb = bits w.keep-b t; sc = bits w.gain-c t; pc = bits w.keep-c t }

abbrev pub just : {X : Type 0} → X → X → X → Ends X
just a b c = record { sa = a; pa = a; sb = b; pb = b; sc = c; pc = c }

abbrev pub each : (Ends Bool → Bool) → Bool
each f = rows 6 (λ sa pa sb pb sc pc. f (record { sa = sa; pa = pa; sb = sb; pb = pb; sc = sc; pc = pc }))

pub at : (f : Ends Bool → Bool) → T (each f) → (t : Ends Bool) → T (f t)
at f h t = table 6 (λ sa pa sb pb sc pc. f (record { sa = sa; pa = pa; sb = sb; pb = pb; sc = sc; pc = pc })) h t.sa t.pa t.sb t.pb t.sc t.pc

-- the laws of a word at one place, each tested at all rows of its table
pub record Good (w : Word) : Type 0 where
  pub monotone : T (each (λ t. each (λ u. inside_at u t ⇒ inside_at (told_at w u) (told_at w t))))
  pub keeps : T (each (λ t. rows 3 (λ a b c. (inside_at (just a b c) t && w.relation a b c) ⇒ inside_at (just a b c) (told_at w t))))
  pub exact : T (rows 3 (λ a b c. inside_at (just a b c) (told_at w (just a b c)) ⇒ w.relation a b c))
