-- Where a text is cut.
use Rattle.std.proofs.Common.{◌≡◌, ℕ, zero, suc, ◌+◌, ◌<◌, ◌≤◌, false, cond, eqb, ltb, List, [], ◌∷◌, ◌++◌, length, get_or, take, drop, Some, None, sym, refl, ap, ◌∙◌, arith, eq-eqb, ne_eqb, eqb-true}
use borrow.Author.Tests.{eqb-false}
use Rattle.std.specs.List.{join_with_byte, onto_first, position, position_or_len, All as Each}
use Rattle.std.proofs.lemmas.Bool.{cond_both}
use Rattle.std.proofs.lemmas.List.Splits.{slice_split_none, slice_split_at, length-slice_split, join_with_byte-slice_split}
use Rattle.std.proofs.lemmas.List.{append-nil, get_or_default, drop_more, take-append-drop, length-take-le, get_or-take}
use Rattle.std.proofs.lemmas.Bool.Decides.{nat_tests}
use Rattle.std.proofs.lemmas.List.Sums.{fails_before_first}
use Rattle.std.proofs.lemmas.List.Quantifiers.{position-Some}
use Rattle.text.specs.Parts.{parts_of, rejoined, Lacks, All}

abbrev pub Free : ℕ → List ℕ → Type 0
Free sep xs = (k : ℕ) → k < length xs → get_or xs k 0 ≡ sep → ⊥

pub lacks-free : (sep : ℕ) (xs : List ℕ) → Free sep xs → Lacks sep xs
lacks-free sep [] f = tt
lacks-free sep (x ∷ xs) f = (f 0 (omega arith), lacks-free sep xs (λ k h. f (suc k) (omega arith)))

pub free-lacks : (sep : ℕ) (xs : List ℕ) → Lacks sep xs → Free sep xs
free-lacks sep [] l k h e = absurd (omega arith)
free-lacks sep (x ∷ xs) l zero h e = l.0 e
free-lacks sep (x ∷ xs) l (suc k) h e = free-lacks sep xs l.1 k (omega arith) e

-- the same, as the library's lemmas on splitting take it
no-match : (sep : ℕ) (xs : List ℕ) → Free sep xs → Each (λ b. eqb b sep ≡ false) xs
no-match sep xs f k d h = ne_eqb (get_or xs k d) sep (λ e. f k h (get_or_default xs k 0 d h ∙ e))

pub parts-whole : (sep : ℕ) (xs : List ℕ) → Free sep xs → parts_of sep xs ≡ xs ∷ []
parts-whole sep xs f = slice_split_none (λ b. eqb b sep) xs (no-match sep xs f)

pub parts-cut : (sep : ℕ) (xs ys : List ℕ) → Free sep xs → parts_of sep (xs ++ (sep ∷ ys)) ≡ xs ∷ parts_of sep ys
parts-cut sep xs ys f = slice_split_at (λ b. eqb b sep) xs sep ys (no-match sep xs f) (eq-eqb sep sep refl)

-- what stands on either side of the first separator, which is at i
pub record CutAt (sep : ℕ) (s : List ℕ) (i : ℕ) : Type 0 where
  pub inside : i < length s
  pub plain : Lacks sep (take i s)
  pub whole : s ≡ take i s ++ (sep ∷ drop (i + 1) s)
  pub parts : parts_of sep s ≡ take i s ∷ parts_of sep (drop (i + 1) s)

pub cut-at : (sep : ℕ) (s : List ℕ) (i : ℕ) → position (λ b. eqb b sep) s ≡ Some i → CutAt sep s i
cut-at sep s i e =
    let h = position-Some (λ b. eqb b sep) s i 0 e in
    let l = length-take-le i s (omega (arith, h.0)) in
    let free : Free sep (take i s) = λ k lt q. eqb-false (get_or s k 0) sep (h.2 k (omega arith)) (sym (get_or-take i s k 0 (omega arith)) ∙ q) in
    let w : s ≡ take i s ++ (sep ∷ drop (i + 1) s) = sym (take-append-drop i s) ∙ ap (λ t. take i s ++ t) (drop_more s i 0 h.0 ∙ ap (λ x. x ∷ drop (i + 1) s) (eqb-true (get_or s i 0) sep h.1)) in
    record { inside = h.0; plain = lacks-free sep (take i s) free; whole = w; parts = ap (parts_of sep) w ∙ parts-cut sep (take i s) (drop (i + 1) s) free }

none-passes : (a b : ℕ) → cond (ltb a b) (Some a) None ≡ None → b ≤ a
none-passes a b e = grind (arith, nat_tests)

pub uncut : (sep : ℕ) (s : List ℕ) → position (λ b. eqb b sep) s ≡ None → Free sep s
uncut sep s e k lt q =
    let n = none-passes (position_or_len (λ b. eqb b sep) s) (length s) e in
    eqb-false (get_or s k 0) sep (fails_before_first (λ b. eqb b sep) s k 0 (omega arith)) q

pub parts-some : (sep : ℕ) (s : List ℕ) → 0 < length (parts_of sep s)
parts-some sep s = omega (arith, length-slice_split (λ b. eqb b sep) s)

rejoined-join : (sep : ℕ) (ps : List (List ℕ)) → rejoined sep ps ≡ join_with_byte sep ps
rejoined-join sep [] = refl
rejoined-join sep (p ∷ []) = append-nil p
rejoined-join sep (p ∷ q ∷ qs) = ap (λ t. p ++ (sep ∷ t)) (rejoined-join sep (q ∷ qs))

pub rejoined-parts : (sep : ℕ) (s : List ℕ) → rejoined sep (parts_of sep s) ≡ s
rejoined-parts sep s = rejoined-join sep (parts_of sep s) ∙ join_with_byte-slice_split sep s

head-lacks : (sep c : ℕ) (ps : List (List ℕ)) → (c ≡ sep → ⊥) → All (Lacks sep) ps → All (Lacks sep) (onto_first c ps)
head-lacks sep c [] ne a = ((ne, tt), tt)
head-lacks sep c (p ∷ ps) ne a = ((ne, a.0), a.1)

pub parts-lack : (sep : ℕ) (s : List ℕ) → All (Lacks sep) (parts_of sep s)
parts-lack sep [] = (tt, tt)
parts-lack sep (c ∷ cs) = cond_both (eqb c sep) _ _ (All (Lacks sep)) (λ _. (tt, parts-lack sep cs)) (λ t. head-lacks sep c (parts_of sep cs) (eqb-false c sep t) (parts-lack sep cs))
