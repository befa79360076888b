-- What a line says, in numbers and lists.
use Rattle.std.specs.Prelude.{ℕ, List}
use Rattle.ticket.specs.declared.word.PairWord.{PairWord}
use Rattle.ticket.specs.declared.word.TripleWord.{TripleWord}
use Rattle.ticket.specs.declared.word.MemberWord.{MemberWord}
use Rattle.ticket.specs.declared.entry.Row.{Row}
use Rattle.ticket.specs.declared.entry.Row.TheVariants.{Group, Number}
use Rattle.ticket.specs.declared.entry.Statement.{Statement}
use Rattle.ticket.specs.declared.entry.Statement.TheVariants.{Pair, Triple, Member}
use Rattle.ticket.specs.declared.entry.Entry.{Entry}
use Rattle.ticket.specs.declared.entry.Entry.TheVariants.{Bale, Close, Declare, State, Settle}
use Rattle.text.specs.Lists.{listed}

-- a cell and its sure and possible places, or a cell and its ends
pub data Bounds : Type 0 where
  group : ℕ → List ℕ → List ℕ → Bounds
  number : ℕ → ℕ → ℕ → Bounds

-- a word with the numbers of its operands
pub data Claim : Type 0 where
  pair : PairWord → ℕ → ℕ → Claim
  triple : TripleWord → ℕ → ℕ → ℕ → Claim
  member : MemberWord → ℕ → ℕ → Claim

-- a bale's place and weight, the end of the bale list, a cell, a statement, or a settling with its cut limit
pub data Said : Type 0 where
  bale : ℕ → ℕ → Said
  close : Said
  declare : Bounds → Said
  state : Claim → Said
  settle : ℕ → Said

abbrev pub bounds : Row → Bounds
bounds (Group cell sure possible) = group cell.number (listed sure) (listed possible)
bounds (Number cell low high) = number cell.number low.number high.number

abbrev pub claim : Statement → Claim
claim (Pair word first second) = pair word first.number second.number
claim (Triple word first second third) = triple word first.number second.number third.number
claim (Member word first place) = member word first.number place.number

abbrev pub said : Entry → Said
said (Bale place weight) = bale place.number weight.number
said Close = close
said (Declare row) = declare (bounds row)
said (State statement) = state (claim statement)
said (Settle limit) = settle limit.number
