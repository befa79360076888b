-- Which field is first at fault, and what follows where none is.
use Rattle.std.proofs.Common.{◌≡◌, ℕ, zero, suc, ◌<◌, Bool, true, false, not, cond, ◌||◌, eqb, List, [], ◌∷◌, ◌++◌, length, Some, None, Option, sym, refl, ap, ◌∙◌, subst, arith, eqb-true}
use Rattle.std.specs.List.{find}
use Rattle.std.specs.Option.{MatchOption, option_or}
use Rattle.domain.specs.Laws.{Within}
use Rattle.std.proofs.lemmas.Option.{none-some, same_Some}
use Rattle.engine.specs.declared.field.Field.{Field}
use Rattle.engine.specs.declared.field.Misfit.{Misfit}
use Rattle.engine.specs.declared.field.Reason.{Reason}
use Rattle.engine.specs.declared.field.Reason.TheVariants.{OutOfRange, NotDeclared, WrongKind, NotListed}
use Rattle.engine.specs.Rows.{item, Inside, Agree}
use Rattle.engine.specs.Laws.{NarrowingLaws}
use Rattle.engine.specs.Telling.{named}
use Rattle.engine.specs.Fits.{stands, unless, first_at_fault, first_misfit, Fits, FitLaws, cell_field_of, cell_fields, cells_named}
use Rattle.engine.proofs.Rows.{items-same, item-append, item-within}

-- ---- which field is first

-- the fault of the field, or what else there is
abbrev pub fault_or : Reason → Option Field → Option Misfit → Option Misfit
fault_or r None more = more
fault_or r (Some f) more = Some (record { reason = r; field = f.number })

pub found-first : (r : Reason) (fs : List Field) (more : Option Misfit) → first_at_fault r fs more ≡ fault_or r (find (λ f. not (stands r f)) fs) more
found-first r [] more = refl
found-first r (f ∷ fs) more =
    elim (stands r f) as (λ b. unless b (record { reason = r; field = f.number }) (first_at_fault r fs more) ≡ fault_or r (cond (not b) (Some f) (find (λ f. not (stands r f)) fs)) more)
    [ true ↦ found-first r fs more | false ↦ refl ]

or-fault : (r : Reason) (o : Option Field) (more : Option Misfit) → fault_or r o more ≡ option_or (fault_or r o None) more
or-fault r None more = refl
or-fault r (Some f) more = refl

-- faults of one reason before those of the others
pub or-first : (r : Reason) (fs : List Field) (more : Option Misfit) → first_at_fault r fs more ≡ option_or (first_at_fault r fs None) more
or-first r fs more =
    let o = find (λ f. not (stands r f)) fs in
    found-first r fs more ∙ or-fault r o more ∙ ap (λ m. option_or m more) (sym (found-first r fs None))

-- what there is, or else what there is besides
pub or-else : {X : Type 0} (o p r : Option X) → MatchOption o (r ≡ p) (λ x. r ≡ Some x) → r ≡ option_or o p
or-else None p r m = m
or-else (Some x) p r m = m

or-or : {X : Type 0} (o p q : Option X) → option_or (option_or o p) q ≡ option_or o (option_or p q)
or-or None p q = refl
or-or (Some x) p q = refl

-- the first fault of one reason, then of the next, and so on
pub in-turn : (fs : List Field) → first_misfit fs
    ≡ option_or (option_or (option_or (first_at_fault OutOfRange fs None) (first_at_fault NotDeclared fs None)) (first_at_fault WrongKind fs None)) (first_at_fault NotListed fs None)
in-turn fs =
    let o = first_at_fault OutOfRange fs None in
    let d = first_at_fault NotDeclared fs None in
    let k = first_at_fault WrongKind fs None in
    let l = first_at_fault NotListed fs None in
    or-first OutOfRange fs _ ∙ ap (option_or o) (or-first NotDeclared fs _ ∙ ap (option_or d) (or-first WrongKind fs l) ∙ sym (or-or d k l))
    ∙ sym (or-or o (option_or d k) l) ∙ ap (λ x. option_or x l) (sym (or-or o d k))

-- ---- nothing is at fault exactly where each field is free of each fault

-- each field is free of this fault
abbrev pub AllStand : Reason → List Field → Type 0
AllStand r [] = Unit {0}
AllStand r (f ∷ fs) = (stands r f ≡ true) × AllStand r fs

unless-none : (b : Bool) (m : Misfit) (more : Option Misfit) → unless b m more ≡ None → (b ≡ true) × (more ≡ None)
unless-none true m more e = (refl, e)
unless-none false m more e = absurd (none-some _ (sym e))

none-faulty : (r : Reason) (fs : List Field) (more : Option Misfit) → first_at_fault r fs more ≡ None → AllStand r fs × (more ≡ None)
none-faulty r [] more e = (tt, e)
none-faulty r (f ∷ fs) more e =
    let a = unless-none (stands r f) (record { reason = r; field = f.number }) (first_at_fault r fs more) e in
    let b = none-faulty r fs more a.1 in
    ((a.0, b.0), b.1)

all-sound : (r : Reason) (fs : List Field) (more : Option Misfit) → AllStand r fs → first_at_fault r fs more ≡ more
all-sound r [] more h = refl
all-sound r (f ∷ fs) more h = let e = h.0 in rw e (all-sound r fs more h.1)

pub fit-stands : (fs : List Field) → first_misfit fs ≡ None → (r : Reason) → AllStand r fs
fit-stands fs e =
    let a = none-faulty OutOfRange fs (first_at_fault NotDeclared fs (first_at_fault WrongKind fs (first_at_fault NotListed fs None))) e in
    let b = none-faulty NotDeclared fs (first_at_fault WrongKind fs (first_at_fault NotListed fs None)) a.1 in
    let c = none-faulty WrongKind fs (first_at_fault NotListed fs None) b.1 in
    let d = none-faulty NotListed fs None c.1 in
    each a.0 b.0 c.0 d.0
  where
    each : AllStand OutOfRange fs → AllStand NotDeclared fs → AllStand WrongKind fs → AllStand NotListed fs → (r : Reason) → AllStand r fs
    each a b c d OutOfRange = a
    each a b c d NotDeclared = b
    each a b c d WrongKind = c
    each a b c d NotListed = d

pub stands-fit : (fs : List Field) → ((r : Reason) → AllStand r fs) → first_misfit fs ≡ None
stands-fit fs h =
    all-sound OutOfRange fs (first_at_fault NotDeclared fs (first_at_fault WrongKind fs (first_at_fault NotListed fs None))) (h OutOfRange)
    ∙ all-sound NotDeclared fs (first_at_fault WrongKind fs (first_at_fault NotListed fs None)) (h NotDeclared)
    ∙ all-sound WrongKind fs (first_at_fault NotListed fs None) (h WrongKind)
    ∙ all-sound NotListed fs None (h NotListed)

-- ---- cells that are added

module _ {C V : Type 0} {allows : C → V → Type 0} {names : ℕ → Bool} {step : List C → Option (List C)} (laws : NarrowingLaws allows names step) where
  -- it rests at a row if it rests at one that agrees with it
  pub rests-agreed : (P Q : List C) → Agree names P Q → step P ≡ Some P → step Q ≡ Some Q
  rests-agreed P Q a e =
      let t = laws.reads P Q P a e in
      t.1 ∙ ap Some (items-same t.0 Q (λ i. either t.0 t.1 t.2 i (names i) refl))
    where
      either : (Q' : List C) → step Q ≡ Some Q' → Agree names P Q' → (i : ℕ) (b : Bool) → names i ≡ b → item Q' i ≡ item Q i
      either Q' f g i true n = sym (g i n) ∙ a i n
      either Q' f g i false n = laws.touches Q Q' f i n

  module _ {fields : List C → List Field} (fitting : FitLaws allows names fields) (P : List C) (p : C) (fits : Fits fields P) where
    agree-added : Agree names P (P ++ (p ∷ []))
    agree-added i n = sym (item-append P (p ∷ []) i (fitting.within P fits i n))

    -- what fits a row lets a cell be that is added at its end
    pub rests-added : step P ≡ Some P → step (P ++ (p ∷ [])) ≡ Some (P ++ (p ∷ []))
    rests-added e = rests-agreed P (P ++ (p ∷ [])) agree-added e

    pub rests-fewer : step (P ++ (p ∷ [])) ≡ Some (P ++ (p ∷ [])) → step P ≡ Some P
    rests-fewer e = rests-agreed (P ++ (p ∷ [])) P (λ i n. sym (agree-added i n)) e

-- ---- fields that name cells fit as long as their cells are of the right kind, which narrowing does not change

false-true : false ≡ true → ⊥
false-true e = let z : ◌≡◌ {A = ℕ} 0 1 = cc in omega arith

module _ {C V : Type 0} (allows : C → V → Type 0) where
  -- kinds last: what lies within a cell of the right kind is of the right kind
  abbrev pub Lasting : (C → Bool) → Type 0
  Lasting right = (p q : C) → Within allows q p → right p ≡ true → right q ≡ true

  abbrev pub AllLasting : List (ℕ × Bool × (C → Bool) × ℕ) → Type 0
  AllLasting [] = Unit {0}
  AllLasting (c ∷ cs) = Lasting c.2 × AllLasting cs

  -- each cell of P is there in Q, within its bounds
  abbrev Moved : List C → List C → Type 0
  Moved P Q = (i : ℕ) (p : C) → item P i ≡ Some p → (q : C) × (item Q i ≡ Some q) × Within allows q p

  moved-field : (n : ℕ) (ok : Bool) (right : C → Bool) → Lasting right → (o o' : Option C) → ((p : C) → o ≡ Some p → (q : C) × (o' ≡ Some q) × Within allows q p)
      → ((r : Reason) → stands r (cell_field_of n ok right o) ≡ true) → (r : Reason) → stands r (cell_field_of n ok right o') ≡ true
  moved-field n ok right lasting None o' m h r = absurd (false-true (h NotDeclared))
  moved-field n ok right lasting (Some p) o' m h r =
      let t = m p refl in subst (λ x. stands r (cell_field_of n ok right x) ≡ true) (sym t.1) (at t.0 t.2 r)
    where
      at : (q : C) → Within allows q p → (r : Reason) → stands r (cell_field_of n ok right (Some q)) ≡ true
      at q w OutOfRange = h OutOfRange
      at q w NotDeclared = refl
      at q w WrongKind = lasting p q w (h WrongKind)
      at q w NotListed = refl

  moved-fields : (cs : List (ℕ × Bool × (C → Bool) × ℕ)) (fs : List Field) (P Q : List C) → AllLasting cs → Moved P Q
      → ((r : Reason) → AllStand r (cell_fields cs fs P)) → (r : Reason) → AllStand r (cell_fields cs fs Q)
  moved-fields [] fs P Q l m h r = h r
  moved-fields (c ∷ cs) fs P Q l m h r = (
    moved-field c.0 c.1 c.2 l.0 (item P c.3) (item Q c.3) (m c.3) (λ s. (h s).0) r,
    moved-fields cs fs P Q l.1 m (λ s. (h s).1) r,
  )

  declared-there : (n : ℕ) (ok : Bool) (right : C → Bool) (P : List C) (i : ℕ) (o : Option C) → item P i ≡ o → stands NotDeclared (cell_field_of n ok right o) ≡ true → i < length P
  declared-there n ok right P i None e h = absurd (false-true h)
  declared-there n ok right P i (Some p) e h = item-within P i p e

  named-there : (cs : List (ℕ × Bool × (C → Bool) × ℕ)) (fs : List Field) (P : List C) → AllStand NotDeclared (cell_fields cs fs P) → (i : ℕ) → named (cells_named cs) i ≡ true → i < length P
  named-there [] fs P h i n = absurd (false-true n)
  named-there (c ∷ cs) fs P h i n =
      elim (eqb c.3 i) as (λ b. eqb c.3 i ≡ b → (b || named (cells_named cs) i) ≡ true → i < length P) [
        | true ↦ λ e m. subst (λ j. j < length P) (eqb-true c.3 i e) (declared-there c.0 c.1 c.2 P c.3 (item P c.3) refl h.0)
        | false ↦ λ e m. named-there cs fs P h.1 i m
      ] refl n

  inside-moved : (P Q : List C) → Inside allows Q P → Moved P Q
  inside-moved [] Q a i p e = absurd (none-some _ e)
  inside-moved (x ∷ xs) [] a i p e = absurd a
  inside-moved (x ∷ xs) (y ∷ ys) a zero p e = (y, refl, λ v h. subst (λ z. allows z v) (same_Some _ _ e) (a.0 v h))
  inside-moved (x ∷ xs) (y ∷ ys) a (suc i) p e = inside-moved xs ys a.1 i p e

  -- A FIT LASTS, for fields that name cells and fields that do not look at the row
  pub cells-fit : (cs : List (ℕ × Bool × (C → Bool) × ℕ)) (fs : List Field) → AllLasting cs → FitLaws allows (named (cells_named cs)) (cell_fields cs fs)
  cells-fit cs fs l = record {
    added = λ P p h. stands-fit (cell_fields cs fs (P ++ (p ∷ []))) (moved-fields cs fs P (P ++ (p ∷ [])) l
        (λ i q e. (q, item-append P (p ∷ []) i (item-within P i q e) ∙ e, λ v a. a)) (fit-stands (cell_fields cs fs P) h));
    narrowed = λ P Q a h. stands-fit (cell_fields cs fs Q) (moved-fields cs fs P Q l (inside-moved P Q a) (fit-stands (cell_fields cs fs P) h));
    within = λ P h. named-there cs fs P (fit-stands (cell_fields cs fs P) h NotDeclared);
  }
