-- Halves, and the count of the values that bounds allow, for every kind of cell.
use Rattle.std.proofs.Common.{◌≡◌, ℕ, zero, suc, ◌+◌, ◌<◌, ◌≤◌, Bool, List, [], ◌∷◌, ◌++◌, length, sym, refl, ◌∙◌, subst, ap₂, inl, inr, le_refl, eq-zero-or-pos, arith, length-append}
use Rattle.domain.specs.Laws.{Within, BoundsLaws, HeightLaws, HalvesLaws}
use Rattle.domain.specs.Counted.{In, Counted, Counting}
use Rattle.domain.proofs.Lists.{in-left, in-right, in-either, ascending-append, no-longer}

module _ {P V : Type 0} {allows : P → V → Type 0} {sample : P → V} {inside : P → P → Bool} {height : P → ℕ} {before : V → V → Type 0} {first second : P → P}
    (l : BoundsLaws allows sample inside) (h : HeightLaws allows height) (s : HalvesLaws allows height before first second) where
  -- no value is in both halves
  pub apart : (p : P) → 0 < height p → (v : V) → allows (first p) v → allows (second p) v → ⊥
  apart p o v a b = s.irreflexive v (s.ordered p o v v a b)

  -- a half is not the whole: a value of the other half is missing
  pub first-lower : (p : P) → 0 < height p → height (first p) < height p
  first-lower p o = h.lower (first p) p (s.first-inside p o) (λ e.
      apart p o _ (subst (λ q. allows q (sample (second p))) (sym e) (s.second-inside p o _ (l.some (second p)))) (l.some (second p)))

  pub second-lower : (p : P) → 0 < height p → height (second p) < height p
  second-lower p o = h.lower (second p) p (s.second-inside p o) (λ e.
      apart p o _ (l.some (first p)) (subst (λ q. allows q (sample (first p))) (sym e) (s.first-inside p o _ (l.some (first p)))))

  -- the values of both halves, one list after the other
  pub joined : (p : P) → 0 < height p → (m n : ℕ) → Counted allows before (first p) m → Counted allows before (second p) n → Counted allows before p (m + n)
  joined p o m n f b = record {
    values = f.values ++ b.values;
    ascending = ascending-append before f.values b.values f.ascending b.ascending (λ u v x y. s.ordered p o u v (f.only u x) (b.only v y));
    only = λ v x. elim (in-either v f.values b.values x) [ inl y ↦ s.first-inside p o v (f.only v y) | inr y ↦ s.second-inside p o v (b.only v y) ];
    every = λ v x. elim (s.covered p o v x) [ inl y ↦ in-left v f.values b.values (f.every v y) | inr y ↦ in-right v f.values b.values (b.every v y) ];
    long = length-append f.values b.values ∙ ap₂ ◌+◌ f.long b.long;
  }

  counted-to : (k : ℕ) (p : P) → height p < k → (n : ℕ) × Counted allows before p n
  counted-to zero p o = absurd (omega arith)
  counted-to (suc k) p o = elim (eq-zero-or-pos (height p)) [
    | inl e ↦ (
      1,
      record {
        values = sample p ∷ [];
        ascending = ((λ v x. absurd x), tt);
        only = λ v x. elim x [ inl q ↦ subst (allows p) (sym q) (l.some p) | inr y ↦ absurd y ];
        every = λ v x. inl (h.single-only p e v (sample p) x (l.some p));
        long = refl;
      },
    )
    | inr q ↦ (let f = counted-to k (first p) (omega (arith, first-lower p q)) in
        let b = counted-to k (second p) (omega (arith, second-lower p q)) in
        (f.0 + b.0, joined p q f.0 b.0 f.1 b.1))
  ]

  -- the values of any bounds can be listed in order
  pub counted : (p : P) → (n : ℕ) × Counted allows before p n
  counted p = counted-to (suc (height p)) p (le_refl (suc (height p)))

  -- bounds within others allow no more values
  pub no-more : (p q : P) (m n : ℕ) → Within allows p q → Counted allows before p m → Counted allows before q n → m ≤ n
  no-more p q m n w a b =
      let k : length a.values ≤ length b.values = no-longer before s.irreflexive s.transitive a.values b.values a.ascending b.ascending (λ v x. b.every v (w v (a.only v x))) in
      omega (arith, a.long, b.long)

  pub count-unique : (p : P) (m n : ℕ) → Counted allows before p m → Counted allows before p n → m ≡ n
  count-unique p m n a b = let x = no-more p p m n (λ v c. c) a b in let y = no-more p p n m (λ v c. c) b a in omega arith

  pub some-counted : (p : P) (n : ℕ) → Counted allows before p n → 1 ≤ n
  some-counted p n c = one c.values (c.every (sample p) (l.some p)) c.long
    where
      one : (vs : List V) → In (sample p) vs → length vs ≡ n → 1 ≤ n
      one [] i e = absurd i
      one (v ∷ vs) i e = omega arith

  pub counting : (p : P) → Counting allows height before first second p
  counting p = let c = counted p in record {
    number = c.0;
    counted = c.1;
    some = some-counted p c.0 c.1;
    unique = λ n d. count-unique p n c.0 d c.1;
    no-more = λ q n w d. no-more q p n c.0 w d c.1;
    halves = λ o m n a b. count-unique p (m + n) c.0 (joined p o m n a b) c.1;
  }
