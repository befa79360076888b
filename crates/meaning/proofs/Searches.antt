-- What the end of a search says.
use Rattle.std.proofs.Common.{◌≡◌, ℕ, ◌+◌, ◌<◌, ◌≤◌, ◌⊎◌, List, refl, subst, inl, inr, arith}
use Rattle.domain.specs.declared.kind.Domain as Domain
use Rattle.domain.specs.declared.kind.Halves as Halves
use Rattle.engine.specs.declared.propagator.Propagator as Propagator
use Rattle.engine.specs.Rows.{Inside, Chosen, AllSingle}
use Rattle.engine.proofs.Rows.{inside-self, inside-chosen, sample-chosen, singles-one}
use Rattle.meaning.specs.Resting.{Rests, SameRules}
use Rattle.meaning.specs.Matches.{WholeMatch, Only, FirstMatch, Earlier, Choices}
use Rattle.meaning.specs.Search.{change, FirstOpen, Ending, found, none, spent, deep, Stage, node, half, Seek, all-single, no-cut-left, no-row-left, in-first, in-second, turn-back, child}
use Rattle.meaning.proofs.Laws.{LawfulHalves}
use Rattle.meaning.proofs.Rows.{inside-trans, single-named, change-inside}
use Rattle.meaning.proofs.Resting.{widest-same, none-same, match-kept, no-match}
use Rattle.meaning.proofs.Halved.{one-half, first-earlier, choices-counted, some-choices, fewer-choices, parted}

-- from an equation of two endings that differ `cc` has this one
pub clash : {X : Type 0} → ◌≡◌ {A = ℕ} 0 1 → X
clash e = absurd (omega arith)

module _ {C V T B R : Type 0} {kind : Domain.Ghosts C V T} {halves : Halves.Ghosts C V T} {rule : Propagator.Ghosts R C B V T} {book : B} (l : LawfulHalves kind halves rule book)
    (rules : List R) (cut_limit row_limit : ℕ) where
  abbrev From : Stage → ℕ → ℕ → List C → Ending C → ℕ → Type 0
  From = Seek kind halves rule book rules cut_limit row_limit

  -- ---- how many cuts

  -- fewer cuts are made than the row has choices
  pub few-cuts : {s : Stage} {k d c : ℕ} {P : List C} {e : Ending C} → From s k d P e c → (n : ℕ) → Choices kind halves P n → (k ≤ c) × (c < k + n)
  few-cuts (all-single {Q = Q} s) n x = let h = some-choices l Q n x in omega arith
  few-cuts (no-cut-left i {Q = Q} f e) n x = let h = some-choices l Q n x in omega arith
  few-cuts (no-row-left i {Q = Q} f a e) n x = let h = some-choices l Q n x in omega arith
  few-cuts (in-first i {Q = Q} f a b t z) n x = let p = parted l Q i n f x in let h = few-cuts t p.0 p.2 in let y = some-choices l (change halves.second Q i) p.1 p.3 in omega arith
  few-cuts (in-second i {Q = Q} f a b t u) n x = let p = parted l Q i n f x in let h = few-cuts t p.0 p.2 in let g = few-cuts u p.1 p.3 in omega arith
  few-cuts (turn-back {P = P} z) n x = let h = some-choices l P n x in omega arith
  few-cuts (child {P = P} {Q = Q} w t) n x =
      let q = choices-counted l Q in
      let h = few-cuts t q.0 q.1 in
      let y = fewer-choices l Q P q.0 n w.inside q.1 x in
      omega arith

  pub more-cuts : {s : Stage} {k d c : ℕ} {P : List C} {e : Ending C} → From s k d P e c → k ≤ c
  more-cuts {P = P} t = let q = choices-counted l P in (few-cuts t q.0 q.1).0

  pub limited : {s : Stage} {k d c : ℕ} {P : List C} {e : Ending C} → From s k d P e c → k ≤ cut_limit → c ≤ cut_limit
  limited (all-single s) h = h
  limited (no-cut-left i f g) h = h
  limited (no-row-left i f a g) h = h
  limited (in-first i f a b t n) h = limited t (omega arith)
  limited (in-second i f a b t u) h = limited u (limited t (omega arith))
  limited (turn-back n) h = h
  limited (child w t) h = limited t h

  pub spent-at : {s : Stage} {k d c : ℕ} {P : List C} {e : Ending C} → From s k d P e c → e ≡ spent → c ≡ cut_limit
  spent-at (all-single s) e = clash (cc)
  spent-at (no-cut-left i f g) e = g
  spent-at (no-row-left i f a g) e = clash (cc)
  spent-at (in-first i f a b t n) e = spent-at t e
  spent-at (in-second i f a b t u) e = spent-at u e
  spent-at (turn-back n) e = clash (cc)
  spent-at (child w t) e = spent-at t e

  pub deep-at : {s : Stage} {k d c : ℕ} {P : List C} {e : Ending C} → From s k d P e c → e ≡ deep → (c < cut_limit) × (row_limit + k ≤ c + d)
  deep-at (all-single s) e = clash (cc)
  deep-at (no-cut-left i f g) e = clash (cc)
  deep-at (no-row-left i f a g) e = (a, omega arith)
  deep-at (in-first i f a b t n) e = let h = deep-at t e in (h.0, omega arith)
  deep-at (in-second i f a b t u) e = let h = deep-at u e in let m = more-cuts t in (h.0, omega arith)
  deep-at (turn-back n) e = clash (cc)
  deep-at (child w t) e = deep-at t e

  -- ---- what is found

  -- a node's bounds rest
  abbrev Ready : Stage → List C → Type 0
  Ready node P = Rests kind rule book rules P
  Ready half P = Unit {0}

  -- the row found is single, inside, and rests
  pub found-inside : {s : Stage} {k d c : ℕ} {P : List C} {e : Ending C} → From s k d P e c → Ready s P → (S : List C) → e ≡ found S →
      AllSingle kind.height S × Inside kind.allows S P × Rests kind rule book rules S
  found-inside (all-single {Q = Q} s) r S e =
      let q : Q ≡ S = cc in subst (λ X. AllSingle kind.height X × Inside kind.allows X Q × Rests kind rule book rules X) q (s, inside-self kind.allows Q, r)
  found-inside (no-cut-left i f g) r S e = clash (cc)
  found-inside (no-row-left i f a g) r S e = clash (cc)
  found-inside (in-first i {Q = Q} f a b t n) r S e =
      let h = found-inside t tt S e in
      (h.0, inside-trans kind.allows S (change halves.first Q i) Q h.1 (change-inside kind.height kind.allows halves.first l.split.first-inside Q i f), h.2)
  found-inside (in-second i {Q = Q} f a b t u) r S e =
      let h = found-inside u tt S e in
      (h.0, inside-trans kind.allows S (change halves.second Q i) Q h.1 (change-inside kind.height kind.allows halves.second l.split.second-inside Q i f), h.2)
  found-inside (turn-back n) r S e = clash (cc)
  found-inside (child {P = P} {Q = Q} w t) r S e = let h = found-inside t w.rests S e in (h.0, inside-trans kind.allows S Q P h.1 w.inside, h.2)

  -- a whole match is in one half
  half-match : (P : List C) (i : ℕ) (vs : List V) → FirstOpen kind.height P i → WholeMatch kind rule book rules P vs →
      WholeMatch kind rule book rules (change halves.first P i) vs ⊎ WholeMatch kind rule book rules (change halves.second P i) vs
  half-match P i vs o m = elim (one-half l P i vs o m.within) [
    | inl a ↦ inl (record { within = a; meets = m.meets })
    | inr b ↦ inr (record { within = b; meets = m.meets })
  ]

  -- where the search ends with none, there is no whole match
  pub none-matches : {s : Stage} {k d c : ℕ} {P : List C} {e : Ending C} → From s k d P e c → e ≡ none → (vs : List V) → WholeMatch kind rule book rules P vs → ⊥
  none-matches (all-single s) e vs m = clash (cc)
  none-matches (no-cut-left i f g) e vs m = clash (cc)
  none-matches (no-row-left i f a g) e vs m = clash (cc)
  none-matches (in-first i f a b t n) e vs m = n e
  none-matches (in-second i {Q = Q} f a b t u) e vs m = elim (half-match Q i vs f m) [ inl x ↦ none-matches t refl vs x | inr y ↦ none-matches u e vs y ]
  none-matches (turn-back {P = P} n) e vs m = no-match l.lawful rules P n vs m
  none-matches (child {P = P} {Q = Q} w t) e vs m = none-matches t e vs (match-kept l.lawful rules P Q vs w m)

  -- each other whole match comes after the one that is found
  pub found-first : {s : Stage} {k d c : ℕ} {P : List C} {e : Ending C} → From s k d P e c → (S : List C) → e ≡ found S → (vs : List V) → Chosen kind.allows S vs →
      (ws : List V) → WholeMatch kind rule book rules P ws → (ws ≡ vs) ⊎ Earlier halves.before vs ws
  found-first (all-single {Q = Q} s) S e vs x ws m = let q : S ≡ Q = cc in inl (singles-one l.lawful.heights Q ws vs s m.within (subst (λ X. Chosen kind.allows X vs) q x))
  found-first (no-cut-left i f g) S e vs x ws m = clash (cc)
  found-first (no-row-left i f a g) S e vs x ws m = clash (cc)
  found-first (in-first i {Q = Q} f a b t n) S e vs x ws m = elim (half-match Q i ws f m) [
    | inl y ↦ found-first t S e vs x ws y
    | inr y ↦ inr (first-earlier l Q i vs ws f (inside-chosen kind.allows S (change halves.first Q i) vs (found-inside t tt S e).1 x) y.within)
  ]
  found-first (in-second i {Q = Q} f a b t u) S e vs x ws m = elim (half-match Q i ws f m) [ inl y ↦ absurd (none-matches t refl ws y) | inr y ↦ found-first u S e vs x ws y ]
  found-first (turn-back n) S e vs x ws m = clash (cc)
  found-first (child {P = P} {Q = Q} w t) S e vs x ws m = found-first t S e vs x ws (match-kept l.lawful rules P Q ws w m)

  pub found-match : {s : Stage} {k d c : ℕ} {P : List C} (S : List C) → From s k d P (found S) c → Ready s P → (vs : List V) × Only kind S vs × FirstMatch kind halves rule book rules P vs
  found-match {P = P} S t r =
      let h = found-inside t r S refl in
      let c = sample-chosen kind.allows l.lawful.bounds.some S in (
        _,
        record { allowed = c; alone = λ ws x. singles-one l.lawful.heights S ws _ h.0 x c },
        record {
          whole = record {
            within = inside-chosen kind.allows S P _ h.1 c;
            meets = λ r i. (l.lawful.relation r).exact S S _ c (single-named kind.height (rule.names r) S h.0) (h.2 r i);
          };
          first = found-first t S refl _ c;
        },
      )

  -- ---- the order of the rules

  pub seek-same : (others : List R) → SameRules rules others → {s : Stage} {k d c : ℕ} {P : List C} {e : Ending C} → From s k d P e c → Seek kind halves rule book others cut_limit row_limit s k d P e c
  seek-same others o (all-single s) = all-single s
  seek-same others o (no-cut-left i f g) = no-cut-left i f g
  seek-same others o (no-row-left i f a g) = no-row-left i f a g
  seek-same others o (in-first i f a b t n) = in-first i f a b (seek-same others o t) n
  seek-same others o (in-second i f a b t u) = in-second i f a b (seek-same others o t) (seek-same others o u)
  seek-same others o (turn-back {P = P} n) = turn-back (none-same l.lawful rules others o P n)
  seek-same others o (child {P = P} {Q = Q} w t) = child (widest-same l.lawful rules others o P Q w) (seek-same others o t)
