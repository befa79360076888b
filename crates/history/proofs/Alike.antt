-- Sheets that were told alike: the same bounds stand, and asks and settles are answered alike.
use Rattle.std.proofs.Common.{◌≡◌, ℕ, List, length, sym, refl, ap, ◌∙◌, subst, inl, inr}
use Rattle.domain.specs.declared.kind.Domain as Domain
use Rattle.domain.specs.declared.kind.Halves as Halves
use Rattle.engine.specs.declared.propagator.Propagator as Propagator
use Rattle.meaning.specs.Resting.{Widest}
use Rattle.meaning.specs.Search.{Ending, Searched}
use Rattle.meaning.proofs.Laws.{LawfulHalves}
use Rattle.meaning.proofs.Stands.{resting-theorems, search-theorems}
use Rattle.history.specs.declared.call.Call.TheVariants.{Ask}
use Rattle.history.specs.declared.entered.Entered as Entered
use Rattle.history.specs.Told.{Told, Alike, Answer, denied, taken, shown, ended}
use Rattle.history.specs.Denials.{ask_denial}
use Rattle.history.specs.Histories.{Standing, denial, Settles, Answers}
use Rattle.history.proofs.Once.{settles-once, answer-once}

module _ {C V T B R E : Type 0} {kind : Domain.Ghosts C V T} {halves : Halves.Ghosts C V T} {rule : Propagator.Ghosts R C B V T}
    (laws : (b : B) → LawfulHalves kind halves rule b) (entered : Entered.Ghosts E C B V T) where
  alike-back : (t v : Told B C R) → Alike t v → Alike v t
  alike-back t v k = record { same-book = sym k.same-book; same-declared = sym k.same-declared; same-rules = (k.same-rules.1, k.same-rules.0) }

  pub bounds-alike : (t v : Told B C R) → Alike t v → (Q : List C) → Standing kind halves rule entered t Q → Standing kind halves rule entered v Q
  bounds-alike t v k Q w =
      let x = (resting-theorems (laws t.book).lawful).any-order t.accepted v.accepted k.same-rules t.declared Q w in
      subst (λ b. Widest kind rule b v.accepted v.declared Q) k.same-book (subst (λ P. Widest kind rule t.book v.accepted P Q) k.same-declared x)

  settles-moved : (t v : Told B C R) → Alike t v → (limit rows cuts : ℕ) (e : Ending C) → Settles kind halves rule entered t limit rows e cuts → Settles kind halves rule entered v limit rows e cuts
  settles-moved t v k limit rows cuts e s = (
    s.0,
    bounds-alike t v k s.0 s.1,
    subst (λ b. Searched kind halves rule b v.accepted limit rows s.0 e cuts) k.same-book
        ((search-theorems (laws t.book)).any-order t.accepted v.accepted k.same-rules limit rows cuts s.0 e s.2),
  )

  pub settles-alike : (t v : Told B C R) → Alike t v → (limit rows rows₂ m n : ℕ) (e f : Ending C) → rows ≡ rows₂ →
      Settles kind halves rule entered t limit rows e m → Settles kind halves rule entered v limit rows₂ f n → (e ≡ f) × (m ≡ n)
  settles-alike t v k limit rows rows₂ m n e f q s y =
      settles-once laws entered v limit rows₂ m n e f (subst (λ x. Settles kind halves rule entered v limit x e m) q (settles-moved t v k limit rows m e s)) y

  asks-moved : (t v : Told B C R) → Alike t v → (k : ℕ) (a : Answer C) (u : Told B C R) → Answers kind halves rule entered t (Ask k) a u → Answers kind halves rule entered v (Ask k) a v
  asks-moved t v z k a u s = at a s
    where
      same : denial kind halves rule entered v (Ask k) ≡ denial kind halves rule entered t (Ask k)
      same = ap (λ P. ask_denial (length P) k) (sym z.same-declared)

      at : (a : Answer C) → Answers kind halves rule entered t (Ask k) a u → Answers kind halves rule entered v (Ask k) a v
      at (denied f) s = (elim s.0 [ inl d ↦ inl (same ∙ d) | inr n ↦ absurd n.1 ], refl)
      at taken s = absurd s.1
      at (shown p) s = (same ∙ s.0, (s.1.0, bounds-alike t v z s.1.0 s.1.1, s.1.2), refl)
      at (ended e cuts) s = absurd s.1

  pub asks-alike : (t v : Told B C R) → Alike t v → (k : ℕ) (a b : Answer C) (u w : Told B C R) → Answers kind halves rule entered t (Ask k) a u → Answers kind halves rule entered v (Ask k) b w → a ≡ b
  asks-alike t v z k a b u w s y = (answer-once laws entered v (Ask k) a b v w (asks-moved t v z k a u s) y).0
