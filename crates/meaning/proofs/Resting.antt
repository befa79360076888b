-- Widest resting bounds: there are some or none rest, they are one, and they keep the whole matches.
use Rattle.std.proofs.Common.{◌≡◌, ℕ, zero, suc, ◌<◌, ◌⊎◌, ◌↔◌, List, [], ◌∷◌, ◌++◌, Some, None, sym, refl, ap, ◌∙◌, subst, inl, inr, arith}
use Rattle.domain.specs.declared.kind.Domain as Domain
use Rattle.domain.specs.Counted.{In}
use Rattle.std.proofs.lemmas.Option.{none-some, same_Some}
use Rattle.domain.specs.Options.{answered}
use Rattle.engine.specs.declared.propagator.Propagator as Propagator
use Rattle.engine.specs.Rows.{Inside, Chosen}
use Rattle.engine.specs.Fits.{Fits}
use Rattle.engine.proofs.Rows.{inside-self, inside-chosen, rows-same}
use Rattle.engine.proofs.Fitting.{rests-added, rests-fewer}
use Rattle.meaning.specs.Resting.{Rests, Widest, NoneRests, Among, SameRules}
use Rattle.meaning.specs.Matches.{WholeMatch}
use Rattle.meaning.proofs.Laws.{Lawful}
use Rattle.meaning.proofs.Rows.{total, inside-trans, inside-added, inside-parted, row-falls}

module _ {C V T B R : Type 0} {kind : Domain.Ghosts C V T} {rule : Propagator.Ghosts R C B V T} {book : B} (l : Lawful kind rule book) where
  pub widest-once : (rules : List R) (from out other : List C) → Widest kind rule book rules from out → Widest kind rule book rules from other → out ≡ other
  widest-once rules from out other w x = rows-same l.bounds out other (x.widest out w.inside w.rests) (w.widest other x.inside x.rests)

  -- ---- other rules, and further ones

  pub widest-same : (rules others : List R) → SameRules rules others → (from out : List C) → Widest kind rule book rules from out → Widest kind rule book others from out
  widest-same rules others s from out w = record { inside = w.inside; rests = λ r i. w.rests r (s.1 r i); widest = λ P a f. w.widest P a (λ r i. f r (s.0 r i)) }

  pub none-same : (rules others : List R) → SameRules rules others → (from : List C) → NoneRests kind rule book rules from → NoneRests kind rule book others from
  none-same rules others s from n P a f = n P a (λ r i. f r (s.0 r i))

  pub widest-further : (rules more : List R) → Among rules more → (from standing out : List C) → Widest kind rule book rules from standing →
      Widest kind rule book more standing out ↔ Widest kind rule book more from out
  widest-further rules more m from standing out w = (
    λ x. record {
      inside = inside-trans kind.allows out standing from x.inside w.inside;
      rests = x.rests;
      widest = λ P a f. x.widest P (w.widest P a (λ r i. f r (m r i))) f;
    },
    λ x. record {
      inside = w.widest out x.inside (λ r i. x.rests r (m r i));
      rests = x.rests;
      widest = λ P a f. x.widest P (inside-trans kind.allows P standing from a w.inside) f;
    },
  )

  pub none-further : (rules more : List R) → Among rules more → (from standing : List C) → Widest kind rule book rules from standing →
      NoneRests kind rule book more standing ↔ NoneRests kind rule book more from
  none-further rules more m from standing w = (
    λ n P a f. n P (w.widest P a (λ r i. f r (m r i))) f,
    λ n P a f. n P (inside-trans kind.allows P standing from a w.inside) f,
  )

  -- ---- a cell that is added

  pub widest-added : (rules : List R) (from out : List C) (p : C) → ((r : R) → In r rules → Fits (rule.fields book r) from) →
      Widest kind rule book rules from out → Widest kind rule book rules (from ++ (p ∷ [])) (out ++ (p ∷ []))
  widest-added rules from out p fits w = record {
    inside = inside-added kind.allows out from p p w.inside (λ v a. a);
    rests = λ r i. rests-added (l.narrowing r) (l.fitting r) out p (narrower out w.inside r i) (w.rests r i);
    widest = λ P a f. let t = inside-parted kind.allows from P p a in
        subst (λ X. Inside kind.allows X (out ++ (p ∷ []))) t.2 (inside-added kind.allows t.0 out t.1 p
        (w.widest t.0 t.3 (λ r i. rests-fewer (l.narrowing r) (l.fitting r) t.0 t.1 (narrower t.0 t.3 r i)
        (subst (λ X. rule.narrowed book r X ≡ Some X) (sym t.2) (f r i)))) t.4);
  }
    where
      narrower : (P : List C) → Inside kind.allows P from → (r : R) → In r rules → Fits (rule.fields book r) P
      narrower P a r i = (l.fitting r).narrowed from P a (fits r i)

  -- ---- narrowing until the row rests

  module _ (rules : List R) (from : List C) where
    -- neither a resting row nor a whole match within `from` is lost
    pub record Holding (row : List C) : Type 0 where
      pub inside : Inside kind.allows row from
      pub widest : (P : List C) → Inside kind.allows P from → Rests kind rule book rules P → Inside kind.allows P row
      pub keeps : (vs : List V) → WholeMatch kind rule book rules from vs → Chosen kind.allows row vs

    -- nothing within `from` rests, and there is no whole match
    pub record Dead : Type 0 where
      pub none : NoneRests kind rule book rules from
      pub no-match : (vs : List V) → WholeMatch kind rule book rules from vs → ⊥

    pub held-first : Holding from
    held-first = record { inside = inside-self kind.allows from; widest = λ P a f. a; keeps = λ vs m. m.within }

    pub held-rests : (row : List C) → Holding row → Rests kind rule book rules row → Widest kind rule book rules from row
    held-rests row h f = record { inside = h.inside; rests = f; widest = h.widest }

    -- what comes of the rules rs, one after another, at a row: all rest, one contradicts, or one makes it lower
    data Tried (rs : List R) (row : List C) : Type 0 where
      rest : Rests kind rule book rs row → Tried rs row
      dead : Dead → Tried rs row
      lower : (row' : List C) → Holding row' → total kind.height row' < total kind.height row → Tried rs row

    module _ (row : List C) (h : Holding row) (r : R) (i : In r rules) where
      -- a resting row gets through the rule
      through : (P : List C) → Inside kind.allows P from → Rests kind rule book rules P → (Q : List C) × (rule.narrowed book r row ≡ Some Q) × Inside kind.allows P Q
      through P a f = (l.narrowing r).monotone P row P (h.widest P a f) (f r i)

      pub held-narrowed : (row' : List C) → rule.narrowed book r row ≡ Some row' → Holding row'
      held-narrowed row' e = record {
        inside = inside-trans kind.allows row' row from ((l.narrowing r).inside row row' e) h.inside;
        widest = λ P a f. let t = through P a f in subst (Inside kind.allows P) (same_Some _ _ (sym t.1 ∙ e)) t.2;
        keeps = λ vs m. (l.relation r).keeps row row' vs (h.keeps vs m) (m.meets r i) e;
      }

      pub contradicted : rule.narrowed book r row ≡ None → Dead
      contradicted e = record {
        none = λ P a f. let t = through P a f in none-some _ (sym e ∙ t.1);
        no-match = λ vs m. (l.relation r).possible row vs (h.keeps vs m) (m.meets r i) e;
      }

    try : (rs : List R) → Among rs rules → (row : List C) → Holding row → Tried rs row
    try [] among row h = rest (λ r i. absurd i)
    try (r ∷ rs) among row h = elim (answered (rule.narrowed book r row)) [
      | inl e ↦ dead (contradicted row h r (among r (inl refl)) e)
      | inr t ↦ elim (row-falls l.bounds l.heights t.0 row ((l.narrowing r).inside row t.0 t.1)) [
        | inl e ↦ after (t.1 ∙ ap Some e) (try rs (λ x i. among x (inr i)) row h)
        | inr o ↦ lower t.0 (held-narrowed row h r (among r (inl refl)) t.0 t.1) o
      ]
    ]
      where
        after : rule.narrowed book r row ≡ Some row → Tried rs row → Tried (r ∷ rs) row
        after e (rest f) = rest (λ x i. elim i [ inl q ↦ subst (λ y. rule.narrowed book y row ≡ Some row) (sym q) e | inr j ↦ f x j ])
        after e (dead d) = dead d
        after e (lower row' g o) = lower row' g o

    abbrev Settled : Type 0
    Settled = ((out : List C) × Widest kind rule book rules from out × ((vs : List V) → WholeMatch kind rule book rules from vs → Chosen kind.allows out vs)) ⊎ Dead

    settle : (n : ℕ) (row : List C) → Holding row → total kind.height row < n → Settled
    settle zero row h o = absurd (omega arith)
    settle (suc n) row h o = elim (try rules (λ r i. i) row h) [
      | rest f ↦ inl (row, held-rests row h f, h.keeps)
      | dead d ↦ inr d
      | lower row' g k ↦ settle n row' g (omega arith)
    ]

    settled : Settled
    settled = settle (suc (total kind.height from)) from held-first (omega arith)

    pub some-or-none : ((out : List C) × Widest kind rule book rules from out) ⊎ NoneRests kind rule book rules from
    some-or-none = elim settled [ inl t ↦ inl (t.0, t.1) | inr d ↦ inr d.none ]

    -- ---- whole matches

    pub match-kept : (standing : List C) (vs : List V) → Widest kind rule book rules from standing → WholeMatch kind rule book rules from vs → WholeMatch kind rule book rules standing vs
    match-kept standing vs w m = elim settled [
      | inl t ↦ record { within = subst (λ X. Chosen kind.allows X vs) (widest-once rules from t.0 standing t.1 w) (t.2 vs m); meets = m.meets }
      | inr d ↦ absurd (d.none standing w.inside w.rests)
    ]

    pub no-match : NoneRests kind rule book rules from → (vs : List V) → WholeMatch kind rule book rules from vs → ⊥
    no-match n vs m = elim settled [ inl t ↦ n t.0 t.1.inside t.1.rests | inr d ↦ d.no-match vs m ]

    pub match-wider : (P : List C) (vs : List V) → Inside kind.allows P from → WholeMatch kind rule book rules P vs → WholeMatch kind rule book rules from vs
    match-wider P vs a m = record { within = inside-chosen kind.allows P from vs a m.within; meets = m.meets }
