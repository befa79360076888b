-- Numbers, lists and rows go to text and back without loss.
use Rattle.text.specs.Numbers.{NumbersRound}
use Rattle.text.specs.Lists.{ListsRound}
use Rattle.ticket.specs.Rows.{RowsRound}

pub record RoundTrips : Type 0 where
  pub numbers : NumbersRound
  pub lists : ListsRound
  pub rows : RowsRound
