-- Each turn plays one call more.
use Rattle.std.proofs.Common.{◌≡◌, [], ◌∷◌, ◌++◌, map, length, take, vec_items, sym, ap, subst, arith, take_all, rules}
use Rattle.engine.proofs.Rows.{item-here, item-within}
use Rattle.meaning.proofs.Laws.{LawfulHalves}
use Rattle.history.specs.Told.{fresh}
use Rattle.history.specs.Histories.{History}
use Rattle.history.specs.Holds.{Holds}
use Rattle.history.proofs.Held.{holds-new}
use Rattle.history.proofs.Promises.{promise}
use Rattle.sheet.specs.Sheets.{told_of, bounds_of}
use Rattle.play.specs.Plays.{answer_of}
use Rattle.play.proofs.Played.{played-none, played-next, roomy-more}
use Rattle.play.proofs.playing.play.Given as given
use Rattle.play.proofs.playing.play.Goals as goal

laws : (g : given.Over) (b : g.row.B.Denot) → LawfulHalves g.C.Domain g.C.Halves g.R.Propagator b
laws g b = record {
  lawful = record {
    bounds = g.met.C.Domain.bounds;
    heights = g.met.C.Domain.heights;
    narrowing = g.met.R.Propagator.narrowing b;
    relation = g.met.R.Propagator.relation b;
    fitting = g.met.R.Propagator.fitting b;
  };
  split = g.met.C.Halves.halves;
}

pub loop-i-init : goal.loop-i-init
loop-i-init g c =
    let s = c.in_ok-sheet.sheet in
    let b = c.args.book in
    let told : told_of s ≡ fresh b = c.in_ok-sheet.ensures.0 in
    let bounds : bounds_of s ≡ [] = c.in_ok-sheet.ensures.1 in
    let holds : Holds g.C.Domain g.R.Propagator (fresh b) [] = holds-new (λ x. (laws g x).lawful) b in (
      subst (λ t. Holds g.C.Domain g.R.Propagator t (bounds_of s)) (sym told) (subst (λ cells. Holds g.C.Domain g.R.Propagator (fresh b) cells) (sym bounds) holds),
      played-none g.C.Domain g.C.Halves g.R.Propagator g.E.Entered b s.book (told_of s) (vec_items c.new-answers.result) told (ap (λ t. t.book) told) c.new-answers.ensures.items,
      λ j x l e. absurd (omega arith),
    )

pub returns-then-memory-asks_for : goal.returns-then-memory-asks_for
returns-then-memory-asks_for g c =
    let calls = c.args.calls.now in
    let i = c.loop-i.i in
    let call = c.index-calls-i.result in
    ((call, item-here calls i call (omega arith) c.index-calls-i.is, omega (arith, c.asks_for.ensures, c.loop-i.auto.memory)), c.loop-i.invariant.2)

pub loop-i-preserved : goal.loop-i-preserved
loop-i-preserved g c =
    let calls = c.args.calls.now in
    let i = c.loop-i.i in
    let call = c.index-calls-i.result in
    let s = c.loop-i.sheet in
    let after = c.serve_in.new.sheet in
    let a = c.in_ok-answer.answer in
    let served = c.in_ok-answer.ensures c.loop-i.invariant.0 in
    let pushed : vec_items c.push.new.self ≡ vec_items c.loop-i.answers ++ (a ∷ []) = search rules in (
      served.1,
      played-next g.C.Domain g.C.Halves g.R.Propagator g.E.Entered c.in_ok-sheet.sheet.book calls i call a (vec_items c.loop-i.answers) (vec_items c.push.new.self) (told_of s) (told_of after)
          (omega arith) c.index-calls-i.is pushed c.loop-i.invariant.1 served.0,
      roomy-more calls (length c.args.memory.now) i call (omega arith) c.index-calls-i.is (omega (arith, c.asks_for.ensures, c.loop-i.auto.memory)) c.loop-i.invariant.2,
    )

pub returns : goal.returns
returns g c =
    let calls = c.args.calls.now in
    let b = c.args.book in
    let t = told_of c.loop-i.sheet in
    let answers = map answer_of (vec_items c.loop-i.answers) in
    let H = History g.C.Domain g.C.Halves g.R.Propagator g.E.Entered in
    let all : take c.loop-i.i calls ≡ calls = take_all _ _ c.loop-i-test.false in
    let book : c.in_ok-sheet.sheet.book ≡ b = ap (λ x. x.book) c.in_ok-sheet.ensures.0 in
    let whole : H b calls answers t = subst (λ x. H x calls answers t) book (subst (λ cs. H c.in_ok-sheet.sheet.book cs answers t) all c.loop-i.invariant.1) in (
      λ j x e. let l = item-within calls j x e in c.loop-i.invariant.2 j x (omega arith) e,
      promise (laws g) g.E.Entered b calls answers t whole,
    )
