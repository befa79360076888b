-- How far a ticket has come, and what an entry does then.
use Rattle.std.specs.Prelude.{ℕ, List, [], ◌∷◌, ◌++◌, Ok, Err, Result}
use Rattle.fault.specs.declared.Fault.{Fault}
use Rattle.fault.specs.declared.Refusal.TheVariants.{WrongPart}
use Rattle.fault.specs.Refusals.{fault_of}
use Rattle.bales.specs.Lists.{open_weights, closed_weights, entering, closing}
use Rattle.ticket.specs.Entries.{Said, bale, close, declare, state, settle}
use Rattle.matching.specs.declared.part.Part.{Part}
use Rattle.matching.specs.declared.part.Part.TheVariants.{Open, Closed}

-- the weights of the bales so far, by place; the list still takes bales, or it is closed
pub data Stage : Type 0 where
  taking : List ℕ → Stage
  closed : List ℕ → Stage

abbrev pub part_of : Part → Stage
part_of (Open list) = taking (open_weights list)
part_of (Closed list) = closed (closed_weights list)

-- what an entry is answered: 7 in the wrong part, then what the bale list says
abbrev pub answering : Stage → ℕ → Said → Result (Unit {0}) Fault
answering (taking ws) line (bale place weight) = entering ws line place
answering (taking ws) line close = closing ws line
answering (taking ws) line (declare b) = Err (fault_of WrongPart line 0)
answering (taking ws) line (state c) = Err (fault_of WrongPart line 0)
answering (taking ws) line (settle n) = Err (fault_of WrongPart line 0)
answering (closed ws) line (bale place weight) = Err (fault_of WrongPart line 0)
answering (closed ws) line close = Err (fault_of WrongPart line 0)
answering (closed ws) line (declare b) = Ok tt
answering (closed ws) line (state c) = Ok tt
answering (closed ws) line (settle n) = Ok tt

-- what an entry that is not refused leads to
abbrev pub effect : Stage → Said → Stage
effect (taking ws) (bale place weight) = taking (ws ++ (weight ∷ []))
effect (taking ws) close = closed ws
effect (taking ws) (declare b) = taking ws
effect (taking ws) (state c) = taking ws
effect (taking ws) (settle n) = taking ws
effect (closed ws) e = closed ws

-- a refused entry leaves everything as it was
abbrev pub unless : {X : Type 0} → Result (Unit {0}) Fault → X → X → X
unless (Ok u) done kept = done
unless (Err f) done kept = kept

abbrev pub following : Stage → ℕ → Said → Stage
following s line e = unless (answering s line e) (effect s e) s
