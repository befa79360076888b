-- Lines run one after another.
use Rattle.std.proofs.Common.{◌≡◌, ℕ, suc, ◌+◌, ◌≤◌, List, [], ◌∷◌, ◌++◌, map, length, drop, Result, sym, refl, ap, ◌∙◌, append-nil, arith}
use Rattle.std.proofs.lemmas.List.{at_drop_all, length-map}
use Rattle.fault.specs.declared.Fault.{Fault}
use Rattle.ticket.specs.declared.entry.Entry.{Entry}
use Rattle.ticket.specs.Entries.{Said}
use Rattle.ticket.specs.Tickets.{told}
use Rattle.matching.specs.declared.totals.Totals.{Totals}
use Rattle.matching.specs.Parts.{Stage}
use Rattle.matching.specs.Listings.{line_after, answers, answers_text, refusals}
use Rattle.matching.specs.Shown.{Lists}

-- the answers to the lines from index i on
abbrev pub to_come : Stage → ℕ → List (Result Entry Fault) → List (Result (Unit {0}) Fault)
to_come s i xs = answers s (i + 1) (map told (drop i xs))

-- so much is listed of `all`, and the lines from index i on are to come
pub record Running (all : List (Result (Unit {0}) Fault)) (before now' : List ℕ) (refused' : ℕ) (s : Stage) (i : ℕ) (xs : List (Result Entry Fault)) : Type 0 where
  pub text : now' ++ answers_text (to_come s i xs) ≡ before ++ answers_text all
  pub refused : refused' + refusals (to_come s i xs) ≡ refusals all
  pub few : refused' ≤ i

answers-length : (s : Stage) (n : ℕ) (rs : List (Result Said Fault)) → length (answers s n rs) ≡ length rs
answers-length s n [] = refl
answers-length s n (r ∷ rs) = ap (λ k. suc k) (answers-length (line_after s n r) (n + 1) rs)

pub ran : (s₀ : Stage) (before text : List ℕ) (t : Totals) (s : Stage) (i : ℕ) (xs : List (Result Entry Fault)) → Running (answers s₀ 1 (map told xs)) before text t.refused s i xs → length xs ≤ i → t.lines ≡ length xs → Lists (answers s₀ 1 (map told xs)) before text t
ran s₀ before text t s i xs so_far le lines =
    let none = at_drop_all (λ ys. answers s (i + 1) (map told ys)) xs i le in
    record {
      text = sym (append-nil text) ∙ ap (λ as'. text ++ answers_text as') (sym none) ∙ so_far.text;
      lines = omega (arith, lines, answers-length s₀ 1 (map told xs), length-map xs told);
      refused = omega (arith, so_far.refused, ap refusals none);
    }
