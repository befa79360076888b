-- The lines of a text.
use Rattle.std.proofs.Common.{◌≡◌, ℕ, suc, ◌+◌, ◌-◌, ◌<◌, ◌≤◌, eqb, ◌⊎◌, List, [], ◌∷◌, ◌++◌, length, get_or, Some, None, Option, Bor, MatchOption, sym, refl, ap, ◌∙◌, subst, inl, inr, ⊎_elim, append_assoc, append-nil, arith}
use Rattle.std.proofs.lemmas.List.{length-append, get_or-append-add}
use Rattle.std.proofs.lemmas.Bool.{cond_both}
use Rattle.std.specs.List.{onto_first}
use Rattle.std.specs.Option.{unwrap_or}
use Rattle.text.specs.Parts.{parts_of, rejoined, Lacks, All}
use Rattle.ticket.specs.Tickets.{last_line, ended, lines_of, lines_text, Splits}
use Rattle.text.proofs.Cuts.{parts-some, rejoined-parts, parts-lack, free-lacks}

ended-more : (p : List ℕ) (ps : List (List ℕ)) → 0 < length ps → ended (p ∷ ps) ≡ p ∷ ended ps
ended-more p [] some = absurd (omega arith)
ended-more p (q ∷ qs) some = refl

pub lines-cut : (s p rest : List ℕ) → parts_of 10 s ≡ p ∷ parts_of 10 rest → lines_of s ≡ p ∷ lines_of rest
lines-cut s p rest e = ap ended e ∙ ended-more p (parts_of 10 rest) (parts-some 10 rest)

last-some : (p : List ℕ) → 0 < length p → last_line p ≡ p ∷ []
last-some [] some = absurd (omega arith)
last-some (c ∷ cs) some = refl

pub lines-last : (s p : List ℕ) → parts_of 10 s ≡ p ∷ [] → s ≡ p → 0 < length s → lines_of s ≡ p ∷ []
lines-last s p e w some = ap ended e ∙ last-some p (omega (arith, ap length w))

-- the first line of a text that is cut at its first byte 10, and what follows
pub first-line : (s line : List ℕ) (o : Option (Bor (List ℕ))) (none rest : Bor (List ℕ)) → rest ≡ unwrap_or o none → none.now ≡ [] → MatchOption o (s ≡ line) (λ r. s ≡ line ++ (10 ∷ r.now)) → MatchOption o (parts_of 10 s ≡ line ∷ []) (λ r. (parts_of 10 s ≡ line ∷ parts_of 10 r.now) × (length r.now < length s)) → 0 < length s → lines_of s ≡ line ∷ lines_of rest.now
first-line s line None none rest u e w p some = rw (u, e) (lines-last s line p w some)
first-line s line (Some r) none rest u e w p some = rw u (lines-cut s line r.now p.0)

-- the text of the lines, and what may lack of it
Whole : List ℕ → List (List ℕ) → Type 0
Whole s ls = (lines_text ls ≡ s) ⊎ ((lines_text ls ≡ s ++ (10 ∷ [])) × (0 < length s) × (get_or s (length s - 1) 0 ≡ 10 → ⊥))

last-of : (xs ys : List ℕ) → 0 < length ys → get_or (xs ++ ys) (length (xs ++ ys) - 1) 0 ≡ get_or ys (length ys - 1) 0
last-of xs ys some =
    let l = length-append xs ys in
    let e : length (xs ++ ys) - 1 ≡ length xs + (length ys - 1) = omega arith in
    ap (λ k. get_or (xs ++ ys) k 0) e ∙ get_or-append-add xs ys (length ys - 1) 0

last-lacks : (p : List ℕ) → 0 < length p → Lacks 10 p → get_or p (length p - 1) 0 ≡ 10 → ⊥
last-lacks p some l e = free-lacks 10 p l (length p - 1) (omega arith) e

one-line : (p : List ℕ) → lines_text (p ∷ []) ≡ p ++ (10 ∷ [])
one-line p = append-nil (p ++ (10 ∷ []))

whole-last : (p : List ℕ) → Lacks 10 p → Whole p (last_line p)
unfolding Whole
whole-last [] l = inl refl
whole-last (c ∷ cs) l = inr (one-line (c ∷ cs), omega arith, last-lacks (c ∷ cs) (omega arith) l)

-- one line more in front
module _ (p t : List ℕ) (ls : List (List ℕ)) where
  more-line : lines_text (p ∷ ls) ≡ p ++ (10 ∷ lines_text ls)
  more-line = append_assoc p (10 ∷ []) (lines_text ls)

  whole-more : Whole t ls → Whole (p ++ (10 ∷ t)) (p ∷ ls)
  unfolding Whole
  whole-more =
      ⊎_elim
      (λ e. inl (more-line ∙ ap (λ x. p ++ (10 ∷ x)) e))
      (λ h. let l = length-append p (10 ∷ t) in
      let e : length (10 ∷ t) - 1 ≡ 1 + (length t - 1) = omega (arith, h.1) in
      let d : get_or (10 ∷ t) (length (10 ∷ t) - 1) 0 ≡ get_or t (length t - 1) 0 = ap (λ k. get_or (10 ∷ t) k 0) e ∙ get_or-append-add (10 ∷ []) t (length t - 1) 0 in
      inr (more-line ∙ ap (λ x. p ++ (10 ∷ x)) h.0 ∙ sym (append_assoc p (10 ∷ t) (10 ∷ [])), omega arith, λ x. h.2 (sym d ∙ sym (last-of p (10 ∷ t) (omega arith)) ∙ x)))

whole-ended : (ps : List (List ℕ)) → 0 < length ps → All (Lacks 10) ps → Whole (rejoined 10 ps) (ended ps)
whole-ended [] some a = absurd (omega arith)
whole-ended (p ∷ []) some a = subst (λ x. Whole x (last_line p)) (sym (append-nil p)) (whole-last p a.0)
whole-ended (p ∷ q ∷ qs) some a = whole-more p (rejoined 10 (q ∷ qs)) (ended (q ∷ qs)) (whole-ended (q ∷ qs) (omega arith) a.1)

lack-last : (p : List ℕ) → Lacks 10 p → All (Lacks 10) (last_line p)
lack-last [] l = tt
lack-last (c ∷ cs) l = (l, tt)

lack-ended : (ps : List (List ℕ)) → All (Lacks 10) ps → All (Lacks 10) (ended ps)
lack-ended [] a = tt
lack-ended (p ∷ []) a = lack-last p a.0
lack-ended (p ∷ q ∷ qs) a = (a.0, lack-ended (q ∷ qs) a.1)

pub splits : (s : List ℕ) → Splits s (lines_of s)
unfolding Whole
splits s = record {
  plain = lack-ended (parts_of 10 s) (parts-lack 10 s);
  whole = subst (λ x. Whole x (lines_of s)) (rejoined-parts 10 s) (whole-ended (parts_of 10 s) (parts-some 10 s) (parts-lack 10 s));
}

-- a text has at most as many lines as bytes
few-onto : (c : ℕ) (ps : List (List ℕ)) → length (ended (onto_first c ps)) ≤ 1 + length (ended ps)
few-onto c [] = omega arith
few-onto c ([] ∷ []) = omega arith
few-onto c ((d ∷ ds) ∷ []) = omega arith
few-onto c (p ∷ q ∷ qs) = omega arith

pub few-lines : (s : List ℕ) → length (lines_of s) ≤ length s
few-lines [] = omega arith
few-lines (c ∷ cs) =
    cond_both (eqb c 10) ([] ∷ parts_of 10 cs) (onto_first c (parts_of 10 cs)) (λ ps. length (ended ps) ≤ suc (length cs))
    (λ _. omega (arith, ap length (ended-more [] (parts_of 10 cs) (parts-some 10 cs)), few-lines cs))
    (λ _. omega (arith, few-onto c (parts_of 10 cs), few-lines cs))
