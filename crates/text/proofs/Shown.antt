-- The text of a list, place by place.
use Rattle.std.proofs.Common.{◌≡◌, ℕ, suc, ◌+◌, ◌-◌, ◌/◌, ◌%◌, ◌<◌, ◌≤◌, true, cond, eqb, List, [], ◌∷◌, ◌++◌, is_ok, decimal, Result, sym, refl, ap, ◌∙◌, append_assoc, append-nil, arith, eq-eqb, ne_eqb, length}
use Rattle.std.specs.List.{flat_map}
use Rattle.std.specs.Fmt.{IsPlainFormatter, HasWritten, WritesOnOk}
use Rattle.std.specs.declared.fmt.Error.{Error}
use Rattle.std.specs.declared.fmt.Formatter.{Formatter}
use Rattle.std.proofs.Output.{has_written_append, has_written_of_eq, has_written_to_eq, writes_in_calls_nil}
use Rattle.text.specs.Lists.{plus, list_text, places_from, members}

-- what stands before the place that follows these
abbrev pub due : List ℕ → List ℕ
due [] = []
due (p ∷ ps) = 43 ∷ []

-- the text of the places so far
abbrev pub text_of : List ℕ → List ℕ
text_of [] = []
text_of (p ∷ ps) = decimal p ++ flat_map plus ps

joined-push : (ps : List ℕ) (n : ℕ) → flat_map plus (ps ++ (n ∷ [])) ≡ flat_map plus ps ++ plus n
joined-push [] n = append-nil (plus n)
joined-push (p ∷ ps) n = ap (λ t. plus p ++ t) (joined-push ps n) ∙ sym (append_assoc (plus p) (flat_map plus ps) (plus n))

text-push : (ps : List ℕ) (n : ℕ) → text_of (ps ++ (n ∷ [])) ≡ text_of ps ++ (due ps ++ decimal n)
text-push [] n = append-nil (decimal n)
text-push (p ∷ ps) n = ap (λ t. decimal p ++ t) (joined-push ps n) ∙ sym (append_assoc (decimal p) (flat_map plus ps) (plus n))

due-push : (ps : List ℕ) (n : ℕ) → due (ps ++ (n ∷ [])) ≡ 43 ∷ []
due-push [] n = refl
due-push (p ∷ ps) n = refl

none-listed : (ps : List ℕ) → length (due ps) ≡ 0 → list_text ps ≡ text_of ps ++ (45 ∷ [])
none-listed [] none = refl
none-listed (p ∷ ps) none = absurd (omega (arith, none))

some-listed : (ps : List ℕ) → (length (due ps) ≡ 0 → ⊥) → list_text ps ≡ text_of ps
some-listed [] some = absurd (some refl)
some-listed (p ∷ ps) some = refl

-- the places from p on
unfoldable pub from_place : ℕ → ℕ → List ℕ
from_place p m = places_from (100 - p) p m

from-more : (p m : ℕ) → p < 100 → from_place p m ≡ cond (eqb (m % 2) 1) (p ∷ from_place (p + 1) (m / 2)) (from_place (p + 1) (m / 2))
unfolding from_place
from-more p m lt = let e : 100 - p ≡ suc (100 - (p + 1)) = omega arith in rw e

module _ (ps ms : List ℕ) (p m : ℕ) where
  from-take : p < 100 → m % 2 ≡ 1 → ps ++ from_place p m ≡ ms → (ps ++ (p ∷ [])) ++ from_place (p + 1) (m / 2) ≡ ms
  from-take lt o h = append_assoc ps (p ∷ []) _ ∙ ap (λ t. ps ++ t) (sym (from-more p m lt ∙ rw (eq-eqb (m % 2) 1 o))) ∙ h

  from-pass : p < 100 → (m % 2 ≡ 1 → ⊥) → ps ++ from_place p m ≡ ms → ps ++ from_place (p + 1) (m / 2) ≡ ms
  from-pass lt o h = ap (λ t. ps ++ t) (sym (from-more p m lt ∙ rw (ne_eqb (m % 2) 1 o))) ∙ h

  from-end : 100 ≤ p → ps ++ from_place p m ≡ ms → ps ≡ ms
  unfolding from_place
  from-end le h = let z : 100 - p ≡ 0 = omega arith in sym (append-nil ps) ∙ ap (λ f. ps ++ places_from f p m) (sym z) ∙ h

from-start : (m : ℕ) → from_place 1 m ≡ members m
unfolding members from_place
from-start m = refl

-- the list ms is being written to what e was, and these places are to come
abbrev pub Writing : {W : Type 0} → (W → List ℕ → W → Type 0) → List ℕ → Formatter W → ℕ → ℕ → List ℕ → Formatter W → Type 0
Writing took ms e p m before f = (ps : List ℕ) × (ps ++ from_place p m ≡ ms) × (before ≡ due ps) × (IsPlainFormatter e → HasWritten took e (text_of ps) f)

module _ {W : Type 0} (took : W → List ℕ → W → Type 0) where
  pub writing-none : (e : Formatter W) (m : ℕ) → Writing took (members m) e 1 m [] e
  writing-none e m = ([], from-start m, refl, λ plain. record { wrote = writes_in_calls_nil took _; plain = plain })

  module _ (ms : List ℕ) (e : Formatter W) (p m : ℕ) (before : List ℕ) (f : Formatter W) (so_far : Writing took ms e p m before f) where
    pub writing-take : p < 100 → m % 2 ≡ 1 → (r : Result (Unit {0}) Error) (h : Formatter W) → is_ok r ≡ true → WritesOnOk took f r (before ++ decimal p) h → (b : List ℕ) (g : Formatter W) → b ≡ 43 ∷ [] → g ≡ h → Writing took ms e (p + 1) (m / 2) b g
    writing-take lt o r h ok w b g be ge = (
      so_far.0 ++ (p ∷ []),
      from-take so_far.0 ms p m lt o so_far.1,
      be ∙ sym (due-push so_far.0 p),
      λ plain. let x = so_far.3 plain in
          has_written_to_eq took _ _ _ _ ge (has_written_of_eq took _ _ _ _ (ap (λ y. text_of so_far.0 ++ (y ++ decimal p)) so_far.2 ∙ sym (text-push so_far.0 p)) (has_written_append took _ _ _ _ _ x (w x.plain ok))),
    )

    pub writing-pass : p < 100 → (m % 2 ≡ 1 → ⊥) → (b : List ℕ) (g : Formatter W) → b ≡ before → g ≡ f → Writing took ms e (p + 1) (m / 2) b g
    writing-pass lt o b g be ge = (so_far.0, from-pass so_far.0 ms p m lt o so_far.1, be ∙ so_far.2, λ plain. has_written_to_eq took _ _ _ _ ge (so_far.3 plain))

    all-come : 100 ≤ p → list_text so_far.0 ≡ list_text ms
    all-come le = ap list_text (from-end so_far.0 ms p m le so_far.1)

    pub written-some : 100 ≤ p → (length before ≡ 0 → ⊥) → IsPlainFormatter e → HasWritten took e (list_text ms) f
    written-some le some plain = has_written_of_eq took _ _ _ _ (sym (some-listed so_far.0 (λ none. some (ap length so_far.2 ∙ none))) ∙ all-come le) (so_far.3 plain)

    pub written-none : 100 ≤ p → length before ≡ 0 → (r : Result (Unit {0}) Error) (h : Formatter W) → is_ok r ≡ true → WritesOnOk took f r (45 ∷ []) h → IsPlainFormatter e → HasWritten took e (list_text ms) h
    written-none le none r h ok w plain =
        let x = so_far.3 plain in
        has_written_of_eq took _ _ _ _ (sym (none-listed so_far.0 (sym (ap length so_far.2) ∙ none)) ∙ all-come le) (has_written_append took _ _ _ _ _ x (w x.plain ok))
