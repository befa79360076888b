-- The search takes a half to rest, and then tries the halves of a cell in turn.
use Rattle.std.proofs.Common.{◌≡◌, ◌+◌, ◌-◌, ◌≤◌, length, take, drop, sym, ap, ◌∙◌, subst, inl, inr, set, arith, rules}
use borrow.Rule.Slice.PartMut.{put_mid}
use denote.Enum.Bare.{differs_true, differs_false}
use Rattle.solver.specs.contracts.search.End.{the_type}
use Rattle.rules.specs.Listed.{listed}
use Rattle.meaning.specs.Resting.{Widest}
use Rattle.meaning.specs.Search.{change, turn-back}
use Rattle.solver.specs.Endings.{Sought}
use Rattle.solver.specs.Fixpoint.{OthersRest}
use Rattle.solver.proofs.Rows.{room-two, cut-within, above-first, above-back, front-stays, above-long, lent-long, half-put}
use Rattle.solver.proofs.Steps.{cut-waits, of-half, step-first, step-second, looked}
use Rattle.solver.proofs.network.Network.+seek.Goals as goal

pub returns-in_default : goal.returns-in_default
returns-in_default g t c = record {
  few = c.args.budget.cuts;
  ended = λ o. turn-back (c.in_default.ensures o);
  kept = λ o _. inl (c.in_default.ensures o);
}

pub namers-woken-requires : goal.namers-woken-requires
namers-woken-requires g t c = (cut-within g.C.Domain.height c.args.self.now.naming.cells c.args.budget.at.depth c.args.budget.limits.rows _ c.in-Ok-look.i c.rest_row.new.stack c.requires (omega arith) c.in-Ok-look.ensures.0).0

pub bounds-stack-i : goal.bounds-stack-i
bounds-stack-i g t c = (cut-within g.C.Domain.height c.args.self.now.naming.cells c.args.budget.at.depth c.args.budget.limits.rows _ c.in-Ok-look.i c.rest_row.new.stack c.requires (omega arith) c.in-Ok-look.ensures.0).1

pub offset_bounds-stack-i : goal.offset_bounds-stack-i
offset_bounds-stack-i g t c =
    let within = cut-within g.C.Domain.height c.args.self.now.naming.cells c.args.budget.at.depth c.args.budget.limits.rows _ c.in-Ok-look.i c.rest_row.new.stack c.requires (omega arith) c.in-Ok-look.ensures.0 in
    search rules

pub put_cell-requires-clause-within : goal.put_cell-requires-clause-within
put_cell-requires-clause-within g t c = (cut-within g.C.Domain.height c.args.self.now.naming.cells c.args.budget.at.depth c.args.budget.limits.rows _ c.in-Ok-look.i c.rest_row.new.stack c.requires (omega arith) c.in-Ok-look.ensures.0).0

pub put_cell-requires-2-clause-within : goal.put_cell-requires-2-clause-within
put_cell-requires-2-clause-within g t c = (cut-within g.C.Domain.height c.args.self.now.naming.cells c.args.budget.at.depth c.args.budget.limits.rows _ c.in-Ok-look.i c.rest_row.new.stack c.requires (omega arith) c.in-Ok-look.ensures.0).0

pub returns-then-ne : goal.returns-then-ne
returns-then-ne g t c =
    let kind = g.C.Domain in
    let halves = g.C.Halves in
    let rule = g.R.Propagator in
    let self = c.args.self.now in
    let book = self.book.now in
    let rules = listed self.naming.rules.now in
    let limits = c.args.budget.limits in
    let at = c.args.budget.at in
    let n = self.naming.cells in
    let i = c.in-Ok-look.i in
    let x = c.index-stack-i.result in
    let s = c.put_cell.new.stack in
    let ys = c.seek-one.new.stack in
    let P = take n c.args.stack.now in
    let Q = take n c.rest_row.new.stack in
    let o = c.in-Ok-look.ensures in
    let two = room-two n at.depth limits.rows _ o.2 c.requires in
    let in-row = (cut-within kind.height n at.depth limits.rows _ i c.rest_row.new.stack c.requires (omega arith) o.0).0 in
    let n-s : n ≤ length s = omega arith in
    let long : n ≤ length ys = above-long n s ys (omega arith) (omega arith) in
    let widest : OthersRest kind rule book rules c.args.waits.bits P → Widest kind rule book rules P Q = c.in-Ok.ensures in
    let first = half-put halves.first n i c.rest_row.new.stack (take n (drop n s)) x c.first_branch.result in-row c.index-stack-i.is c.first_branch.ensures c.put_cell.ensures.put in
    let half-told = subst (λ l. Sought kind halves rule book rules l c.cut.result.at c.namers-woken.result.bits (take n (take (length s - n) (drop n s))) (take n ys) c.seek-one.result) c.cut.ensures.limits c.seek-one.ensures in
    record {
      few = half-told.few;
      ended = λ others.
          let waits = cut-waits kind rule book (g.met.R.Propagator.narrowing book) rules halves.first Q i c.namers-woken.result.bits c.namers-woken.ensures (widest others).rests in
          let one = of-half kind halves rule book rules limits.cuts limits.rows c.namers-woken.result.bits (at.cuts + 1) _ (at.depth + 1) _ _ (change halves.first Q i) _ _
          c.cut.ensures.cuts c.cut.ensures.depth (above-first n s (omega arith) ∙ first) waits half-told.ended in
          step-first kind halves rule book rules limits.cuts limits.rows at.cuts at.depth i _ P Q c.seek-one.result.end (take n ys) _ (widest others) o.0 o.1 o.2
          (differs_true the_type _ _ (sym c.if-ne.ensures)) one (λ e. c.lift.ensures.found e ∙ above-back n (length s - n) s ys n-s long);
      kept = λ others e. inr (subst (Widest kind rule book rules P) (sym (c.lift.ensures.other e ∙ front-stays n (length s - n) s ys n-s ∙ c.put_cell.ensures.kept)) (widest others));
    }

pub returns-in-Err : goal.returns-in-Err
returns-in-Err g t c =
    let self = c.args.self.now in
    let n = self.naming.cells in
    looked g.C.Domain g.C.Halves g.R.Propagator self.book.now (listed self.naming.rules.now) c.args.budget.limits c.args.budget.at c.args.waits.bits (take n c.args.stack.now) (take n c.rest_row.new.stack)
    c.args.budget.cuts c.in-Ok.ensures c.in-Err.end c.in-Err.ensures

pub returns : goal.returns
returns g t c =
    let kind = g.C.Domain in
    let halves = g.C.Halves in
    let rule = g.R.Propagator in
    let self = c.args.self.now in
    let book = self.book.now in
    let rules = listed self.naming.rules.now in
    let limits = c.args.budget.limits in
    let at = c.args.budget.at in
    let n = self.naming.cells in
    let i = c.in-Ok-look.i in
    let x = c.index-stack-i.result in
    let s = c.put_cell.new.stack in
    let ys = c.seek-one.new.stack in
    let s₂ = c.put_cell-2.new.stack in
    let zs = c.seek-two.new.stack in
    let P = take n c.args.stack.now in
    let Q = take n c.rest_row.new.stack in
    let o = c.in-Ok-look.ensures in
    let two = room-two n at.depth limits.rows _ o.2 c.requires in
    let in-row = (cut-within kind.height n at.depth limits.rows _ i c.rest_row.new.stack c.requires (omega arith) o.0).0 in
    let n-s : n ≤ length s = omega arith in
    let long : n ≤ length ys = above-long n s ys (omega arith) (omega arith) in
    let lent = lent-long n (length s - n) s ys n-s long in
    let two₂ : n + n ≤ length s₂ = omega arith in
    let n-s₂ : n ≤ length s₂ = omega arith in
    let long₂ : n ≤ length zs = above-long n s₂ zs two₂ (omega arith) in
    let stays : take n (put_mid n (length s - n) s ys) ≡ Q = front-stays n (length s - n) s ys n-s ∙ c.put_cell.ensures.kept in
    let widest : OthersRest kind rule book rules c.args.waits.bits P → Widest kind rule book rules P Q = c.in-Ok.ensures in
    let first = half-put halves.first n i c.rest_row.new.stack (take n (drop n s)) x c.first_branch.result in-row c.index-stack-i.is c.first_branch.ensures c.put_cell.ensures.put in
    let second = half-put halves.second n i c.rest_row.new.stack (take n (drop n s₂)) x c.second_branch.result in-row c.index-stack-i.is c.second_branch.ensures
    (c.put_cell-2.ensures.put ∙ ap (λ q. set q i c.second_branch.result) stays) in
    let one-told = subst (λ l. Sought kind halves rule book rules l c.cut.result.at c.namers-woken.result.bits (take n (take (length s - n) (drop n s))) (take n ys) c.seek-one.result) c.cut.ensures.limits c.seek-one.ensures in
    let two-told = subst (λ l. Sought kind halves rule book rules l c.deeper.result.at c.namers-woken.result.bits (take n (take (length s₂ - n) (drop n s₂))) (take n zs) c.seek-two.result) c.deeper.ensures.limits c.seek-two.ensures in
    record {
      few = two-told.few;
      ended = λ others.
          let rests = (widest others).rests in
          let laws = g.met.R.Propagator.narrowing book in
          let set = c.namers-woken.result.bits in
          let one = of-half kind halves rule book rules limits.cuts limits.rows set (at.cuts + 1) _ (at.depth + 1) _ _ (change halves.first Q i) _ _
          c.cut.ensures.cuts c.cut.ensures.depth (above-first n s (omega arith) ∙ first)
          (cut-waits kind rule book laws rules halves.first Q i set c.namers-woken.ensures rests) one-told.ended in
          let then = of-half kind halves rule book rules limits.cuts limits.rows set c.seek-one.result.cuts _ (at.depth + 1) _ _ (change halves.second Q i) _ _
          c.deeper.ensures.cuts c.deeper.ensures.depth (above-first n s₂ two₂ ∙ second)
          (cut-waits kind rule book laws rules halves.second Q i set c.namers-woken.ensures rests) two-told.ended in
          step-second kind halves rule book rules limits.cuts limits.rows at.cuts at.depth i _ _ P Q c.seek-one.result.end c.seek-two.result.end (take n ys) (take n zs) _
          (widest others) o.0 o.1 o.2 (differs_false the_type tt _ _ (sym c.if-ne.ensures)) one then (λ e. c.lift-2.ensures.found e ∙ above-back n (length s₂ - n) s₂ zs n-s₂ long₂);
      kept = λ others e. inr (subst (Widest kind rule book rules P)
          (sym (c.lift-2.ensures.other e ∙ front-stays n (length s₂ - n) s₂ zs n-s₂ ∙ c.put_cell-2.ensures.kept ∙ stays)) (widest others));
    }
