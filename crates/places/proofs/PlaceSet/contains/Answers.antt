-- The digit shifted down is that of the place; past 64 places there is none.
use Rattle.std.proofs.Common.{inl, inr, arith}
use Rattle.places.proofs.Members.{holds-outside, holds-shift}
use Rattle.places.proofs.PlaceSet.contains.Goals as goal

pub returns-then-place-lt1 : goal.returns-then-place-lt1
returns-then-place-lt1 c = holds-outside 64 c.args.place c.args.self.bits (omega arith) (elim c.then-place-lt1.either [ inl l ↦ inl l | inr h ↦ inr (omega arith) ])

pub returns : goal.returns
returns c = holds-shift c.args.place c.args.self.bits (omega arith)
