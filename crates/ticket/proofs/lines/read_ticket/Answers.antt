use Rattle.std.proofs.Common.{rules}
use Rattle.text.proofs.Digits.{numbers-round}
use Rattle.text.proofs.Lists.{lists-round}
use Rattle.ticket.specs.Rounds.{RoundTrips}
use Rattle.ticket.proofs.RowsBack.{rows-round}
use Rattle.ticket.proofs.LineEnds.{splits, few-lines}
use Rattle.ticket.proofs.lines.read_ticket.Goals as goal

round-trips : RoundTrips
round-trips = record { numbers = numbers-round; lists = lists-round; rows = rows-round }

pub returns-then-text-gt-LARGEST-clause-round : goal.returns-then-text-gt-LARGEST-clause-round
returns-then-text-gt-LARGEST-clause-round c = round-trips

pub returns-then-text-gt-LARGEST-clause-lines : goal.returns-then-text-gt-LARGEST-clause-lines
returns-then-text-gt-LARGEST-clause-lines c = splits c.args.text.now

pub loop-line-init : goal.loop-line-init
loop-line-init c = let f = few-lines c.args.text.now in search rules

pub returns-in_err-push-clause-round : goal.returns-in_err-push-clause-round
returns-in_err-push-clause-round c = round-trips

pub returns-in_err-push-clause-lines : goal.returns-in_err-push-clause-lines
returns-in_err-push-clause-lines c = splits c.args.text.now

pub returns-clause-round : goal.returns-clause-round
returns-clause-round c = round-trips

pub returns-clause-lines : goal.returns-clause-lines
returns-clause-lines c = splits c.args.text.now
