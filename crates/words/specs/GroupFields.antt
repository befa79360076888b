-- Fields of groups, as the match sheet has them: a cell past the end of a row is no group either. What is first at fault in them is the same as
-- in fields that leave open of what kind such a cell is, and so a fit of them lasts.
use Rattle.std.specs.Prelude.{◌≡◌, ℕ, zero, suc, ◌+◌, ◌<◌, Bool, true, false, ◌||◌, List, [], ◌∷◌, ◌++◌, length, Some, None, Option, ◌==◌, nat_lt, refl}
use Rattle.std.specs.Option.{is_some}
use Rattle.std.proofs.Common.{sym, ap, ◌∙◌, subst, arith, ltb-true, ltb-false, lt-ltb, le-ltb}
use Rattle.std.proofs.lemmas.Option.{none-some}
use Rattle.domain.specs.declared.bounds.Group.{Group}
use Rattle.engine.specs.declared.field.Field.{Field}
use Rattle.engine.specs.declared.field.Misfit.{Misfit}
use Rattle.engine.specs.declared.field.Reason.{Reason}
use Rattle.engine.specs.declared.field.Reason.TheVariants.{OutOfRange, NotDeclared, WrongKind, NotListed}
use Rattle.engine.specs.Rows.{item}
use Rattle.engine.specs.Telling.{named, onward}
use Rattle.engine.specs.Parts.{operand, of_kind, first_of, second_of}
use Rattle.engine.specs.Fits.{unless, first_at_fault, first_misfit, FitLaws, cell_field_of, cell_fields, cells_named}
use Rattle.engine.proofs.Fitting.{AllLasting, cells-fit, fit-stands, stands-fit}
use Rattle.engine.proofs.Sorts.{kind-lasts}
use Rattle.words.specs.Cells.{Cell, CellAllows}
use Rattle.words.specs.CellsLemmas.{cell-bounds, groups, numbers}
use Rattle.words.specs.Fields.{field_at, two_fields, three_fields}

abbrev pub there : {X : Type 0} → Option X → Bool
there None = false
there (Some x) = true

-- a cell, counted from 0: there are no more than 99, it must be declared, and it must be a group
abbrev pub group_field : ℕ → ℕ → List Cell → Field
group_field number i P = record { number = number; ranged = nat_lt i 99; declared = nat_lt i (length P); suited = there (operand first_of P i); listed = true }

-- fields of cells, numbered from n on
abbrev pub group_fields : ℕ → List ℕ → List Cell → List Field
group_fields n [] P = []
group_fields n (i ∷ is) P = group_field n i P ∷ group_fields (n + 1) is P

-- ---- what is first at fault

-- the same fields, but for the kind of a cell that is not declared
abbrev pub Alike : List Field → List Field → Type 0
Alike [] [] = Unit {0}
Alike [] (g ∷ gs) = ⊥
Alike (f ∷ fs) [] = ⊥
Alike (f ∷ fs) (g ∷ gs) = (f.number ≡ g.number) × (f.ranged ≡ g.ranged) × (f.declared ≡ g.declared) × (f.listed ≡ g.listed) × (f.declared ≡ true → f.suited ≡ g.suited) × Alike fs gs

unless-same : (b c : Bool) (m n : Misfit) (more more' : Option Misfit) → b ≡ c → m ≡ n → more ≡ more' → unless b m more ≡ unless c n more'
unless-same b c m n more more' e f g = λ i. unless (e i) (f i) (g i)

named-same : (r : Reason) (f g : Field) → f.number ≡ g.number → ◌≡◌ {A = Misfit} (record { reason = r; field = f.number }) (record { reason = r; field = g.number })
named-same r f g e = ap (λ (n : ℕ). record { reason = r; field = n }) e

ranges-alike : (fs gs : List Field) (m : Option Misfit) → Alike fs gs → first_at_fault OutOfRange fs m ≡ first_at_fault OutOfRange gs m
ranges-alike [] [] m a = refl
ranges-alike [] (g ∷ gs) m a = absurd a
ranges-alike (f ∷ fs) [] m a = absurd a
ranges-alike (f ∷ fs) (g ∷ gs) m a = unless-same _ _ _ _ _ _ a.1 (named-same OutOfRange f g a.0) (ranges-alike fs gs m a.5)

lists-alike : (fs gs : List Field) (m : Option Misfit) → Alike fs gs → first_at_fault NotListed fs m ≡ first_at_fault NotListed gs m
lists-alike [] [] m a = refl
lists-alike [] (g ∷ gs) m a = absurd a
lists-alike (f ∷ fs) [] m a = absurd a
lists-alike (f ∷ fs) (g ∷ gs) m a = unless-same _ _ _ _ _ _ a.3 (named-same NotListed f g a.0) (lists-alike fs gs m a.5)

-- of what kind the cells are matters only where all are declared: `j` and `k` are what else there is, the same if they are
declared-alike : (fs gs : List Field) (j k : Option Misfit) → Alike fs gs → (first_at_fault NotDeclared fs None ≡ None → j ≡ k) → first_at_fault NotDeclared fs j ≡ first_at_fault NotDeclared gs k
declared-alike [] [] j k a h = h refl
declared-alike [] (g ∷ gs) j k a h = absurd a
declared-alike (f ∷ fs) [] j k a h = absurd a
declared-alike (f ∷ fs) (g ∷ gs) j k a h =
    let m : Misfit = record { reason = NotDeclared; field = f.number } in
    let same : m ≡ record { reason = NotDeclared; field = g.number } = named-same NotDeclared f g a.0 in
    elim f.declared as (λ b. (b ≡ g.declared) → (unless b m (first_at_fault NotDeclared fs None) ≡ None → j ≡ k)
    → unless b m (first_at_fault NotDeclared fs j) ≡ unless g.declared (record { reason = NotDeclared; field = g.number }) (first_at_fault NotDeclared gs k)) [
      | true ↦ λ e n. unless-same _ _ _ _ _ _ e same (declared-alike fs gs j k a.5 n)
      | false ↦ λ e n. unless-same false _ _ _ (first_at_fault NotDeclared fs j) (first_at_fault NotDeclared fs j) e same refl ∙ ap (λ b. unless b (record { reason = NotDeclared; field = g.number }) (first_at_fault NotDeclared fs j)) (sym e)
          ∙ ap (λ b. unless b (record { reason = NotDeclared; field = g.number }) (first_at_fault NotDeclared gs k)) e
    ] a.2 h

kinds-alike : (fs gs : List Field) (m : Option Misfit) → Alike fs gs → first_at_fault NotDeclared fs None ≡ None → first_at_fault WrongKind fs m ≡ first_at_fault WrongKind gs m
kinds-alike [] [] m a n = refl
kinds-alike [] (g ∷ gs) m a n = absurd a
kinds-alike (f ∷ fs) [] m a n = absurd a
kinds-alike (f ∷ fs) (g ∷ gs) m a n =
    elim f.declared as (λ b. (f.declared ≡ b) → unless b (record { reason = NotDeclared; field = f.number }) (first_at_fault NotDeclared fs None) ≡ None
    → unless f.suited (record { reason = WrongKind; field = f.number }) (first_at_fault WrongKind fs m) ≡ unless g.suited (record { reason = WrongKind; field = g.number }) (first_at_fault WrongKind gs m)) [
      | true ↦ λ e h. unless-same _ _ _ _ _ _ (a.4 e) (named-same WrongKind f g a.0) (kinds-alike fs gs m a.5 h)
      | false ↦ λ e h. absurd (none-some _ (sym h))
    ] refl n

-- WHAT IS FIRST AT FAULT is the same
pub same-misfit : (fs gs : List Field) → Alike fs gs → first_misfit fs ≡ first_misfit gs
same-misfit fs gs a =
    ranges-alike fs gs (first_at_fault NotDeclared fs (first_at_fault WrongKind fs (first_at_fault NotListed fs None))) a
    ∙ ap (first_at_fault OutOfRange gs) (declared-alike fs gs _ _ a (λ n. kinds-alike fs gs (first_at_fault NotListed fs None) a n ∙ ap (first_at_fault WrongKind gs) (lists-alike fs gs None a)))

-- ---- the fields of groups

-- the same cells, as the words name them
abbrev pub groups_at : ℕ → List ℕ → List (ℕ × Bool × (Cell → Bool) × ℕ)
groups_at n [] = []
groups_at n (i ∷ is) = field_at first_of n i ∷ groups_at (n + 1) is

true-false : true ≡ false → ⊥
true-false e = let z : ◌≡◌ {A = ℕ} 0 1 = cc in omega arith

shifted : (i n : ℕ) → nat_lt (suc i) (suc n) ≡ nat_lt i n
shifted i n = elim (nat_lt i n) as (λ b. nat_lt i n ≡ b → nat_lt (suc i) (suc n) ≡ b) [
  | true ↦ λ e. let l = ltb-true i n e in lt-ltb (suc i) (suc n) (omega arith)
  | false ↦ λ e. let l = ltb-false i n e in le-ltb (suc i) (suc n) (omega arith)
] refl

declared : (P : List Cell) (i : ℕ) → nat_lt i (length P) ≡ is_some (item P i)
declared [] i = le-ltb i 0 (omega arith)
declared (p ∷ ps) zero = lt-ltb 0 (length (p ∷ ps)) (omega arith)
declared (p ∷ ps) (suc i) = shifted i (length ps) ∙ declared ps i

same-kind : (o : Option Group) → there o ≡ is_some o
same-kind None = refl
same-kind (Some g) = refl

module _ (n i : ℕ) (P : List Cell) (fs gs : List Field) (a : Alike fs gs) where
  one-alike : (o : Option Cell) → item P i ≡ o → Alike (group_field n i P ∷ fs) (cell_field_of n (nat_lt i 99) (of_kind first_of) o ∷ gs)
  one-alike None e = (refl, refl, declared P i ∙ ap is_some e, refl, (λ d. let z : ◌≡◌ {A = Bool} true false = sym d ∙ declared P i ∙ ap is_some e in absurd (true-false z)), a)
  one-alike (Some p) e = (refl, refl, declared P i ∙ ap is_some e, refl, (λ d. ap (λ o. there (onward o first_of)) e ∙ same-kind (first_of p)), a)

itself : (fs : List Field) → Alike fs fs
itself [] = tt
itself (f ∷ fs) = (refl, refl, refl, refl, (λ d. refl), itself fs)

alike : (more : List Field) (n : ℕ) (is : List ℕ) (P : List Cell) → Alike (group_fields n is P ++ more) (cell_fields (groups_at n is) more P)
alike more n [] P = itself more
alike more n (i ∷ is) P = one-alike n i P (group_fields (n + 1) is P ++ more) (cell_fields (groups_at (n + 1) is) more P) (alike more (n + 1) is P) (item P i) refl

named-alike : (n : ℕ) (is : List ℕ) → cells_named (groups_at n is) ≡ is
named-alike n [] = refl
named-alike n (i ∷ is) = ap (λ js. i ∷ js) (named-alike (n + 1) is)

lasting : (n : ℕ) (is : List ℕ) → AllLasting CellAllows (groups_at n is)
lasting n [] = tt
lasting n (i ∷ is) = (kind-lasts cell-bounds groups, lasting (n + 1) is)

-- a fit of fields lasts as one of others does in which the same is first at fault
fit-as : {names : ℕ → Bool} (fields fields' : List Cell → List Field) → ((P : List Cell) → first_misfit (fields P) ≡ first_misfit (fields' P)) → FitLaws CellAllows names fields' → FitLaws CellAllows names fields
fit-as fields fields' same l = record {
  added = λ P p e. same (P ++ (p ∷ [])) ∙ l.added P p (sym (same P) ∙ e);
  narrowed = λ P Q a e. same Q ∙ l.narrowed P Q a (sym (same P) ∙ e);
  within = λ P e. l.within P (sym (same P) ∙ e);
}

-- A FIT LASTS, and names only cells of the row
pub fit-laws : (more : List Field) (n : ℕ) (is : List ℕ) → FitLaws CellAllows (named is) (λ P. group_fields n is P ++ more)
fit-laws more n is =
    fit-as (λ P. group_fields n is P ++ more) (cell_fields (groups_at n is) more) (λ P. same-misfit _ _ (alike more n is P))
    (subst (λ js. FitLaws CellAllows (named js) (cell_fields (groups_at n is) more)) (named-alike n is) (cells-fit CellAllows (groups_at n is) more (lasting n is)))

-- field 3 names a group and field 4 a number
abbrev pub scale_fields : ℕ → ℕ → List Cell → List Field
scale_fields i j P = group_field 3 i P ∷ cell_fields (field_at second_of 4 j ∷ []) [] P

scales-alike : (i j : ℕ) (P : List Cell) → first_misfit (scale_fields i j P) ≡ first_misfit (two_fields first_of second_of i j P)
scales-alike i j P =
    let number = cell_fields (field_at second_of 4 j ∷ []) [] P in
    same-misfit (scale_fields i j P) (two_fields first_of second_of i j P) (one-alike 3 i P number number (itself number) (item P i) refl)

module _ (f : Field) (fs : List Field) where
  fit-front : first_misfit (f ∷ fs) ≡ None → first_misfit (f ∷ []) ≡ None
  fit-front e = stands-fit (f ∷ []) (λ r. ((fit-stands (f ∷ fs) e r).0, tt))

  fit-rest : first_misfit (f ∷ fs) ≡ None → first_misfit fs ≡ None
  fit-rest e = stands-fit fs (λ r. (fit-stands (f ∷ fs) e r).1)

  fit-both : first_misfit (f ∷ []) ≡ None → first_misfit fs ≡ None → first_misfit (f ∷ fs) ≡ None
  fit-both a b = stands-fit (f ∷ fs) (λ r. ((fit-stands (f ∷ []) a r).0, fit-stands fs b r))

-- where a field's fit lasts, and that of others, it lasts for all of them
fits-joined : {C V : Type 0} (allows : C → V → Type 0) (i : ℕ) (js : List ℕ) (f : List C → Field) (fs : List C → List Field) →
    FitLaws allows (named (i ∷ [])) (λ P. f P ∷ []) → FitLaws allows (named js) fs → FitLaws allows (named (i ∷ js)) (λ P. f P ∷ fs P)
fits-joined allows i js f fs one more = record {
  added = λ P p e. fit-both (f (P ++ (p ∷ []))) (fs (P ++ (p ∷ []))) (one.added P p (fit-front (f P) (fs P) e)) (more.added P p (fit-rest (f P) (fs P) e));
  narrowed = λ P Q a e. fit-both (f Q) (fs Q) (one.narrowed P Q a (fit-front (f P) (fs P) e)) (more.narrowed P Q a (fit-rest (f P) (fs P) e));
  within = λ P e k h.
      elim (i == k) as (λ b. (i == k) ≡ b → (b || named js k) ≡ true → k < length P) [
        | true ↦ λ here g. one.within P (fit-front (f P) (fs P) e) k (rw here refl)
        | false ↦ λ here g. more.within P (fit-rest (f P) (fs P) e) k g
      ] refl h;
}

pub group-and-number-fit : (i j : ℕ) → FitLaws CellAllows (named (i ∷ (j ∷ []))) (scale_fields i j)
group-and-number-fit i j =
    fits-joined CellAllows i (j ∷ []) (group_field 3 i) (cell_fields (field_at second_of 4 j ∷ []) []) (fit-laws [] 3 (i ∷ [])) (cells-fit CellAllows (field_at second_of 4 j ∷ []) [] (kind-lasts cell-bounds numbers, tt))

-- ---- what the words promise

-- The fields of words over one group and a place, over two and three groups, and over a group and a number: what is first at fault in them is what
-- is first at fault where a cell that is not declared is no group, and a fit of these lasts.
pub record GroupMisfits : Type 0 where
  pub one : (i : ℕ) (more : List Field) (P : List Cell) → first_misfit (cell_fields (field_at first_of 3 i ∷ []) more P) ≡ first_misfit (group_field 3 i P ∷ more)
  pub two : (i j : ℕ) (P : List Cell) → first_misfit (two_fields first_of first_of i j P) ≡ first_misfit (group_fields 3 (i ∷ (j ∷ [])) P)
  pub three : (i j k : ℕ) (P : List Cell) → first_misfit (three_fields first_of i j k P) ≡ first_misfit (group_fields 3 (i ∷ (j ∷ (k ∷ []))) P)
  pub scales : (i j : ℕ) (P : List Cell) → first_misfit (two_fields first_of second_of i j P) ≡ first_misfit (scale_fields i j P)
  pub groups_last : (more : List Field) (n : ℕ) (is : List ℕ) → FitLaws CellAllows (named is) (λ P. group_fields n is P ++ more)
  pub scales_last : (i j : ℕ) → FitLaws CellAllows (named (i ∷ (j ∷ []))) (scale_fields i j)

same-groups : (more : List Field) (is : List ℕ) (P : List Cell) → first_misfit (cell_fields (groups_at 3 is) more P) ≡ first_misfit (group_fields 3 is P ++ more)
same-groups more is P = sym (same-misfit (group_fields 3 is P ++ more) (cell_fields (groups_at 3 is) more P) (alike more 3 is P))

pub group-misfits : GroupMisfits
group-misfits = record {
  one = λ i more P. same-groups more (i ∷ []) P;
  two = λ i j P. same-groups [] (i ∷ (j ∷ [])) P;
  three = λ i j k P. same-groups [] (i ∷ (j ∷ (k ∷ []))) P;
  scales = λ i j P. sym (scales-alike i j P);
  groups_last = fit-laws;
  scales_last = group-and-number-fit;
}
