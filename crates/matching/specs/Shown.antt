-- Answers shown at the end of a text.
use Rattle.std.specs.Prelude.{◌≡◌, ℕ, List, ◌++◌, length, Result}
use Rattle.fault.specs.declared.Fault.{Fault}
use Rattle.matching.specs.declared.totals.Totals.{Totals}
use Rattle.matching.specs.Listings.{answers_text, refusals}

-- the refusals among the answers were added to the text, and these are their totals
pub record Lists (as' : List (Result (Unit {0}) Fault)) (before after : List ℕ) (t : Totals) : Type 0 where
  pub text : after ≡ before ++ answers_text as'
  pub lines : t.lines ≡ length as'
  pub refused : t.refused ≡ refusals as'
