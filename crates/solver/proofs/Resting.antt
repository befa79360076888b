-- Rows inside one another, and what a firing keeps.
use Rattle.std.proofs.Common.{◌≡◌, ℕ, zero, suc, ◌+◌, ◌-◌, ◌*◌, ◌^◌, ◌<◌, ◌≤◌, Bool, true, false, not, ◌&&◌, ◌||◌, T, ltb, ◌⊎◌, List, [], ◌∷◌, length, take, Some, None, Ok, Err, Result, IsErr, sym, refl, ap, ◌∙◌, subst, inl, inr, ⊎_elim, arith, ltb-true, lt-ltb}
use lib.Bits.{bit_and, bit_or, and_le_r}
use borrow.Author.Tests.{eqb-false}
use Rattle.std.proofs.lemmas.Bool.{cases_Bool, cases_lt, cases_eq, cases_order}
use Rattle.places.specs.Members.{has, minus, one}
use Rattle.places.specs.Lowest.{First, lowest}
use Rattle.places.proofs.Tables.{or-cases, and-right}
use Rattle.places.proofs.Members.{has-none, has-or, has-and, has-minus, minus-sub, has-up-to}
use Rattle.places.proofs.Lowest.{lowest-first, clear-is, has-one}
use Rattle.domain.specs.declared.kind.Domain as Domain
use Rattle.domain.specs.Laws.{Within, BoundsLaws, HeightLaws}
use Rattle.domain.specs.Counted.{In}
use Rattle.std.proofs.lemmas.Option.{none-some, same_Some}
use Rattle.engine.specs.declared.propagator.Propagator as Propagator
use Rattle.engine.specs.declared.contradiction.Contradiction.{Contradiction}
use Rattle.engine.specs.Rows.{item, Inside, Agree}
use Rattle.engine.specs.Laws.{NarrowingLaws}
use Rattle.engine.proofs.Rows.{inside-self, item-gone, item-within, items-same}
use Rattle.engine.proofs.Fitting.{rests-agreed}
use Rattle.meaning.specs.Resting.{Rests, Widest, NoneRests}
use Rattle.rules.specs.Listed.{but_newest}
use Rattle.solver.specs.Waking.{Sharers}
use Rattle.solver.specs.Fixpoint.{OfRules, OthersRest, Fixpoint}

true-false : true ≡ false → ⊥
true-false e = let z : ◌≡◌ {A = ℕ} 0 1 = cc in omega arith

is-true : (b : Bool) → T b → b ≡ true
is-true true t = refl
is-true false t = absurd t

-- ---- rules by their number

pub item-in : {X : Type 0} (xs : List X) (k : ℕ) (x : X) → item xs k ≡ Some x → In x xs
item-in [] k x e = absurd (none-some _ e)
item-in (y ∷ ys) zero x e = inl (sym (same_Some _ _ e))
item-in (y ∷ ys) (suc k) x e = inr (item-in ys k x e)

pub in-item : {X : Type 0} (xs : List X) (x : X) → In x xs → (k : ℕ) × (item xs k ≡ Some x)
in-item [] x i = absurd i
in-item (y ∷ ys) x (inl e) = (0, ap Some (sym e))
in-item (y ∷ ys) x (inr i) = let t = in-item ys x i in (suc t.0, t.1)

pub item-take : {X : Type 0} (xs : List X) (k n : ℕ) → k < n → item (take n xs) k ≡ item xs k
item-take xs k zero h = absurd (omega arith)
item-take [] k (suc n) h = refl
item-take (y ∷ ys) zero (suc n) h = refl
item-take (y ∷ ys) (suc k) (suc n) h = item-take ys k n (omega arith)

-- ---- rows inside one another

module _ {C V : Type 0} (allows : C → V → Type 0) where
  pub inside-trans : (P Q S : List C) → Inside allows P Q → Inside allows Q S → Inside allows P S
  inside-trans [] [] [] a b = tt
  inside-trans [] [] (s ∷ ss) a b = absurd b
  inside-trans [] (q ∷ qs) S a b = absurd a
  inside-trans (p ∷ ps) [] S a b = absurd a
  inside-trans (p ∷ ps) (q ∷ qs) [] a b = absurd b
  inside-trans (p ∷ ps) (q ∷ qs) (s ∷ ss) a b = (λ v h. b.0 v (a.0 v h), inside-trans ps qs ss a.1 b.1)

  pub inside-length : (P Q : List C) → Inside allows P Q → length P ≡ length Q
  inside-length [] [] a = refl
  inside-length [] (q ∷ qs) a = absurd a
  inside-length (p ∷ ps) [] a = absurd a
  inside-length (p ∷ ps) (q ∷ qs) a = ap suc (inside-length ps qs a.1)

-- how far a row is from single cells
abbrev pub total : {C : Type 0} → (C → ℕ) → List C → ℕ
total height [] = 0
total height (p ∷ ps) = height p + total height ps

module _ {C V : Type 0} {allows : C → V → Type 0} {sample : C → V} {inside : C → C → Bool} {height : C → ℕ} (bounds : BoundsLaws allows sample inside) (heights : HeightLaws allows height) where
  same-or-lower : (p q : C) → Within allows p q → (p ≡ q) ⊎ (height p < height q)
  same-or-lower p q w = ⊎_elim
      (λ t. inl (bounds.same p q w (bounds.inside-only q p (subst T (sym t) tt))))
      (λ f. inr (heights.lower p q w (λ e. subst T f (bounds.inside-each q p (subst (Within allows q) (sym e) (λ v a. a))))))
      (cases_Bool (inside q p))

  -- a row inside another is the same, or lower
  pub inside-falls : (P Q : List C) → Inside allows P Q → (P ≡ Q) ⊎ (total height P < total height Q)
  inside-falls [] [] a = inl refl
  inside-falls [] (q ∷ qs) a = absurd a
  inside-falls (p ∷ ps) [] a = absurd a
  inside-falls (p ∷ ps) (q ∷ qs) a =
      let G : Type 0 = ((p ∷ ps) ≡ (q ∷ qs)) ⊎ (height p + total height ps < height q + total height qs) in
      let eq-case : p ≡ q → G = λ e. let h = ap height e in ⊎_elim (λ f. inl (cc)) (λ l. inr (omega arith)) (inside-falls ps qs a.1) in
      let lt-case : height p < height q → G = λ k. ⊎_elim (λ f. let h = ap (total height) f in inr (omega arith)) (λ l. inr (omega arith)) (inside-falls ps qs a.1) in
      ⊎_elim eq-case lt-case (same-or-lower p q a.0)

-- ---- sets without their lowest place

or-neither : (x y : Bool) → (x || y) ≡ false → (x ≡ false) × (y ≡ false)
or-neither true y e = absurd (true-false e)
or-neither false y e = (refl, e)

-- what is taken out is the lowest place and no other
taken-out : (n k j : ℕ) → First k n → has j (minus n (lowest n)) ≡ false → (j ≡ k) ⊎ (has j n ≡ false)
taken-out n k j f z = ⊎_elim
    (λ t. ⊎_elim
    (λ l. let g = lowest-first j n (subst T (sym l) tt) in inl (one-first n j k g f))
    (λ l. absurd (true-false (sym (has-minus j n (lowest n) ∙ ap (λ b. b && not (has j (lowest n))) t ∙ ap not l) ∙ z)))
    (cases_Bool (has j (lowest n))))
    inr
    (cases_Bool (has j n))
  where
    one-first : (n j k : ℕ) → First j n → First k n → j ≡ k
    one-first n j k f g = elim (cases_order j k) [
      | inl e ↦ e
      | inr (inl l) ↦ absurd (subst T (g.1 j l) f.0)
      | inr (inr l) ↦ absurd (subst T (f.1 k l) g.0)
    ]

pub fewer : (n k : ℕ) → First k n → minus n (lowest n) < n
fewer n k f =
    let p : 0 < n = ⊎_elim (λ e. absurd (subst T (ap (has k) e ∙ has-none k) f.0)) (λ h. omega arith) (cases_eq n 0) in
    let l = and_le_r n (n - 1) in
    let e = clear-is n in
    omega arith

module _ {C V W B R : Type 0} (kind : Domain.Ghosts C V W) (rule : Propagator.Ghosts R C B V W) (book : B) where
  -- what a fixpoint keeps: the row is inside `from`, and each resting row inside `from` is inside it
  pub record Holding (rules : List R) (from row : List C) : Type 0 where
    pub inside : Inside kind.allows row from
    pub most : (P : List C) → Inside kind.allows P from → Rests kind rule book rules P → Inside kind.allows P row

  pub holding-start : (rules : List R) (from : List C) → Holding rules from from
  holding-start rules from = record { inside = inside-self kind.allows from; most = λ P a rests. a }

  -- where none waits, all rest
  pub none-waits : (rules : List R) (row : List C) → OthersRest kind rule book rules 0 row → Rests kind rule book rules row
  none-waits rules row others r i = let t = in-item rules r i in others t.0 r t.1 (has-none t.0)

  pub holding-end : (rules : List R) (from row : List C) → Holding rules from row → OthersRest kind rule book rules 0 row → Widest kind rule book rules from row
  holding-end rules from row held others = record { inside = held.inside; rests = none-waits rules row others; widest = held.most }

  -- where there is a contradiction, none rest
  pub contradicted : {X : Type 0} (rules : List R) (from row : List C) (o : Result X Contradiction) → IsErr o → NoneRests kind rule book rules from → Fixpoint kind rule book rules from row o
  contradicted rules from row (Ok x) i n = absurd (true-false (sym i))
  contradicted rules from row (Err e) i n = n

  and-true : (a b : Bool) → (a && b) ≡ false → b ≡ true → a ≡ false
  and-true true b e f = sym f ∙ e
  and-true false b e f = refl

  -- a place that is no rule's may wait or not
  pub others-among : (rules : List R) (n : ℕ) (row : List C) → OthersRest kind rule book rules n row → OthersRest kind rule book rules (bit_and n (2 ^ length rules - 1)) row
  others-among rules n row others k r e z =
      let here = has-up-to k (length rules) ∙ lt-ltb k (length rules) (item-within rules k r e) in
      others k r e (and-true (has k n) _ (sym (has-and k n (2 ^ length rules - 1)) ∙ z) here)

  -- ---- where all wait, and where the newest does

  pub all-wait : (rules : List R) (row : List C) → OthersRest kind rule book rules (2 ^ length rules - 1) row
  all-wait rules row k r e z = absurd (true-false (sym (has-up-to k (length rules) ∙ lt-ltb k (length rules) (item-within rules k r e)) ∙ z))

  pub newest-waits : (rules : List R) (row : List C) (set : ℕ) → (1 ≤ length rules → set ≡ one (length rules)) → Rests kind rule book (but_newest rules) row → OthersRest kind rule book rules set row
  newest-waits rules row set some rest k r e z =
      let i = item-within rules k r e in
      let ne = eqb-false k (length rules - 1) (sym (ap (has k) (some (omega arith)) ∙ has-one k (length rules - 1)) ∙ z) in
      rest r (item-in (but_newest rules) k r (item-take rules k (length rules - 1) (omega (arith, ne)) ∙ e))

  module _ (laws : (r : R) → NarrowingLaws kind.allows (rule.names r) (rule.narrowed book r)) where
    module _ (rules : List R) (from row : List C) (k : ℕ) (r : R) (listed : item rules k ≡ Some r) (held : Holding rules from row) where
      -- a resting row inside the row gets through the rule
      through : (P : List C) → Inside kind.allows P from → Rests kind rule book rules P → (Q : List C) × (rule.narrowed book r row ≡ Some Q) × Inside kind.allows P Q
      through P a rests = (laws r).monotone P row P (held.most P a rests) (rests r (item-in rules k r listed))

      pub narrowed-holds : (row' : List C) → rule.narrowed book r row ≡ Some row' → Holding rules from row'
      narrowed-holds row' e = record {
        inside = inside-trans kind.allows row' row from ((laws r).inside row row' e) held.inside;
        most = λ P a rests. let t = through P a rests in subst (Inside kind.allows P) (same_Some _ _ (sym t.1 ∙ e)) t.2;
      }

      pub refuted : rule.narrowed book r row ≡ None → NoneRests kind rule book rules from
      refuted e P a rests = let t = through P a rests in none-some _ (sym e ∙ t.1)

    -- a rule that shares no cell of the row with another still rests after the other's firing
    rests-apart : (row row' : List C) (r s : R) → rule.narrowed book r row ≡ Some row' → ((i : ℕ) → i < length row → rule.names r i ≡ true → rule.names s i ≡ true → ⊥) →
        rule.narrowed book s row ≡ Some row → rule.narrowed book s row' ≡ Some row'
    rests-apart row row' r s fired apart rests = rests-agreed (laws s) row row' agree rests
      where
        long : length row' ≡ length row
        long = inside-length kind.allows row' row ((laws r).inside row row' fired)

        agree : Agree (rule.names s) row row'
        agree i n = ⊎_elim
            (λ h. ⊎_elim (λ m. absurd (apart i h m n)) (λ m. sym ((laws r).touches row row' fired i m)) (cases_Bool (rule.names r i)))
            (λ h. item-gone row i h ∙ sym (item-gone row' i (omega (arith, long))))
            (cases_lt i (length row))

    -- a rule that names no cell of the row changes nothing
    nothing-named : (row row' : List C) (r : R) → rule.narrowed book r row ≡ Some row' → ((i : ℕ) → i < length row → rule.names r i ≡ true → ⊥) → row' ≡ row
    nothing-named row row' r fired none = items-same row' row (λ i. ⊎_elim
        (λ h. ⊎_elim (λ m. absurd (none i h m)) (λ m. (laws r).touches row row' fired i m) (cases_Bool (rule.names r i)))
        (λ h. item-gone row' i (omega (arith, inside-length kind.allows row' row ((laws r).inside row row' fired))) ∙ sym (item-gone row i h))
        (cases_lt i (length row)))

    -- ---- the rule k, the lowest that waits, is taken and fired

    module _ (rules : List R) (row : List C) (waiting k : ℕ) (r : R) (lowest-waits : First k waiting) (listed : item rules k ≡ Some r) (others : OthersRest kind rule book rules waiting row) where
      pub others-same : rule.narrowed book r row ≡ Some row → OthersRest kind rule book rules (minus waiting (lowest waiting)) row
      others-same rests j s e z = ⊎_elim
          (λ q. subst (λ x. rule.narrowed book x row ≡ Some row) (same_Some _ _ (sym listed ∙ sym (ap (item rules) q) ∙ e)) rests)
          (others j s e)
          (taken-out waiting k j lowest-waits z)

      pub others-woken : (row' : List C) (wake : ℕ) → Sharers rule.names rules (length row) r wake → rule.narrowed book r row ≡ Some row' → (row' ≡ row → ⊥) →
          OthersRest kind rule book rules (bit_or (minus waiting (lowest waiting)) wake) row'
      others-woken row' wake sharers fired changed j s e z =
          let a = or-neither (has j (minus waiting (lowest waiting))) (has j wake) (sym (has-or j (minus waiting (lowest waiting)) wake) ∙ z) in
          let apart : (i : ℕ) → i < length row → rule.names r i ≡ true → rule.names s i ≡ true → ⊥ = λ i h m n. subst T a.1 (sharers.each j i s e h m n) in
          ⊎_elim
          (λ q. let same : r ≡ s = same_Some _ _ (sym listed ∙ sym (ap (item rules) q) ∙ e) in
          absurd (changed (nothing-named row row' r fired (λ i h m. apart i h m (subst (λ x. rule.names x i ≡ true) same m)))))
          (λ y. rests-apart row row' r s fired apart (others j s e y))
          (taken-out waiting k j lowest-waits a.0)

-- ---- sets of rules of the list

module _ {R : Type 0} (rules : List R) where
  pub fewer-rules : (n : ℕ) → OfRules rules n → OfRules rules (minus n (lowest n))
  fewer-rules n o k t = o k (minus-sub n (lowest n) k t)

  pub more-rules : (n m : ℕ) → OfRules rules n → ((k : ℕ) → T (has k m) → k < length rules) → OfRules rules (bit_or n m)
  more-rules n m o p k t = or-cases (has k n) (has k m) (o k) (p k) (subst T (has-or k n m) t)

  -- of any set, those of its places that are rules
  pub among-rules : (n : ℕ) → OfRules rules (bit_and n (2 ^ length rules - 1))
  among-rules n k t = ltb-true k (length rules) (is-true (ltb k (length rules)) (subst T (has-up-to k (length rules)) (and-right (has k n) _ (subst T (has-and k n (2 ^ length rules - 1)) t))))

-- the measure falls where the row does
pub turns-fall : (t u w v : ℕ) → t < u → w < 2 ^ 64 → t * 2 ^ 64 + w < u * 2 ^ 64 + v
turns-fall t u w v h b = omega arith
