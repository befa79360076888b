-- Truth tables: a law of bits that passes at every row holds of any bits; and steps with tests.
use Rattle.std.proofs.Common.{◌≡◌, ℕ, zero, suc, Bool, true, false, ◌&&◌, ◌||◌, T, sym, refl, subst}
use Rattle.places.specs.Tables.{◌⇒◌, agree, Test, rows, Holds}

pub and-left : (a b : Bool) → T (a && b) → T a
and-left true b t = tt
and-left false b t = t

pub and-right : (a b : Bool) → T (a && b) → T b
and-right true b t = t
and-right false b t = absurd t

pub and-both : (a b : Bool) → T a → T b → T (a && b)
and-both true b s t = t
and-both false b s t = s

both : (n : ℕ) (f : Bool → Test n) → Holds n (f true) → Holds n (f false) → (b : Bool) → Holds n (f b)
both n f x y true = x
both n f x y false = y

pub table : (n : ℕ) (f : Test n) → T (rows n f) → Holds n f
table zero f t = t
table (suc n) f t =
    both n f (table n (f true) (and-left (rows n (f true)) (rows n (f false)) t))
    (table n (f false) (and-right (rows n (f true)) (rows n (f false)) t))

pub follows : (a b : Bool) → T (a ⇒ b) → T a → T b
follows true b t s = t
follows false b t s = absurd s

pub implied : (a b : Bool) → (T a → T b) → T (a ⇒ b)
implied true b f = f tt
implied false b f = tt

pub agree-eq : (a b : Bool) → T (agree a b) → a ≡ b
agree-eq true true t = refl
agree-eq true false t = absurd t
agree-eq false true t = absurd t
agree-eq false false t = refl

pub eq-agree : (a b : Bool) → a ≡ b → T (agree a b)
eq-agree true b e = subst T e tt
eq-agree false true e = subst T (sym e) tt
eq-agree false false e = tt

-- a premise that is itself an implication
pub given : (a b c : Bool) → T ((a ⇒ b) ⇒ c) → (T a → T b) → T c
given a b c t f = follows (a ⇒ b) c t (implied a b f)

pub and-true : (a : Bool) → (a && true) ≡ a
and-true true = refl
and-true false = refl

pub and-false : (a : Bool) → (a && false) ≡ false
and-false true = refl
and-false false = refl

pub or-left : (a b : Bool) → T a → T (a || b)
or-left true b t = tt
or-left false b t = absurd t

pub or-right : (a b : Bool) → T b → T (a || b)
or-right true b t = tt
or-right false b t = t

pub or-cases : (a b : Bool) {C : Type 0} → (T a → C) → (T b → C) → T (a || b) → C
or-cases true b f g t = f tt
or-cases false b f g t = g t

pub both-ways : (a b : Bool) → (T a → T b) → (T b → T a) → a ≡ b
both-ways true true f g = refl
both-ways true false f g = absurd (f tt)
both-ways false true f g = absurd (g tt)
both-ways false false f g = refl

pub dec-T : (b : Bool) → Dec (T b)
dec-T true = yes tt
dec-T false = no (λ t. t)
