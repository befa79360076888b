-- Groups show the laws of a kind of cell.
use Rattle.std.specs.Prelude.{◌≡◌, ℕ, ◌<◌, Bool, true, false, not, ◌&&◌, T, ◌⊎◌, Some, None, Option, ◌==◌, ◌≢◌, bit_and, bit_or, count_ones}
use Rattle.std.proofs.Math.Path.{refl}
use Rattle.std.proofs.Common.{sym, ap, ◌∙◌, subst, inl, inr, eq-zero-or-pos, arith, eqb→eq, T_not, eqb-true}
use mathlib.Core.HLevel.{is_prop→PathP}
use Rattle.std.proofs.Math.Nat.{ℕ_set}
use Rattle.std.specs.Int.Count.{count_trailing_zeros}
use Rattle.std.proofs.Math.Dec.{eqb_refl, not_T}
use Rattle.std.proofs.lemmas.Bool.{eqb-false}
use Rattle.places.specs.declared.PlaceSet.{PlaceSet}
use Rattle.places.specs.Members.{has, minus, Sub, subset}
use Rattle.places.specs.Lowest.{lowest}
use Rattle.places.proofs.Tables.{and-left, and-right, and-both, both-ways}
use Rattle.places.proofs.Members.{has-minus, has-none, sub-of, of-sub, sub-both, same-places, minus-sub, subset-only, subset-each, sub-union, union-left, union-right, sub-intersection, intersection-left, intersection-right, eq-test}
use Rattle.places.proofs.Counts.{ones-more, ones-none, ones-of-none}
use Rattle.places.proofs.Lowest.{none-lower, has-lowest, below-pow}
use Rattle.places.proofs.Order.{before-irreflexive, before-transitive, before-total}
use Rattle.domain.specs.declared.bounds.Group.{Group, ok-type}
use Rattle.domain.specs.declared.bounds.BaleSet.{BaleSet}
use Rattle.domain.specs.declared.bounds.GroupTell.{GroupTell}
use Rattle.domain.specs.Laws.{Within, BoundsLaws, HeightLaws, HalvesLaws}
use Rattle.domain.specs.Tells.{TellLaws}
use Rattle.domain.specs.Groups.{GroupAllows, group_sample, group_inside, undecided, group_height, GroupPasses, group_if, group_of, group_meet, GroupBefore, group_first, group_second}
use Rattle.std.proofs.lemmas.Option.{none-some, same_Some}

-- the set of these places
abbrev pub bales : ℕ → BaleSet
bales n = record { places = record { bits = n } }

pub group-eq : (p q : Group) → p.sure.bits ≡ q.sure.bits → p.possible.bits ≡ q.possible.bits → p ≡ q
group-eq p q e f = λ i. record {
  sure = record { bits = e i };
  possible = record { bits = f i };
  ok = is_prop→PathP (λ j. ok-type (record { bits = e j }) (record { bits = f j })) (λ j. ℕ_set _ _) p.ok q.ok i;
}

pub sound : (p : Group) → Sub p.sure.bits p.possible.bits
sound p = sub-of p.sure.bits p.possible.bits p.ok

-- both ends are values
all-sure : (p : Group) → GroupAllows p (bales p.sure.bits)
all-sure p = ((λ k t. t), sound p)

all-possible : (p : Group) → GroupAllows p (bales p.possible.bits)
all-possible p = (sound p, λ k t. t)

pub lower-sure : (p q : Group) → Within GroupAllows p q → Sub q.sure.bits p.sure.bits
lower-sure p q f = (f (bales p.sure.bits) (all-sure p)).0

pub lower-possible : (p q : Group) → Within GroupAllows p q → Sub p.possible.bits q.possible.bits
lower-possible p q f = (f (bales p.possible.bits) (all-possible p)).1

-- ---- inside

inside-only : (p q : Group) → T (group_inside p q) → Within GroupAllows p q
inside-only p q t v (s, r) =
    let a = subset-only q.sure.bits p.sure.bits (and-left _ _ t) in
    let b = subset-only p.possible.bits q.possible.bits (and-right (subset q.sure.bits p.sure.bits) _ t) in
    ((λ k h. s k (a k h)), λ k h. b k (r k h))

pub group-bounds : BoundsLaws GroupAllows group_sample group_inside
group-bounds = record {
  some = all-possible;
  inside-only = inside-only;
  inside-each = λ p q f. and-both _ _ (subset-each _ _ (lower-sure p q f)) (subset-each _ _ (lower-possible p q f));
  same = λ p q f g. group-eq p q (sub-both _ _ (lower-sure q p g) (lower-sure p q f)) (sub-both _ _ (lower-possible p q f) (lower-possible q p g));
}

-- ---- height

module _ (p q : Group) (f : Within GroupAllows p q) where
  fewer : Sub (undecided p) (undecided q)
  fewer k t = let a = lower-sure p q f k in let b = lower-possible p q f k in grind (arith, has-minus)

  sure-same : undecided p ≡ undecided q → (k : ℕ) → has k p.sure.bits ≡ has k q.sure.bits
  sure-same e k =
      let a = lower-sure p q f k in let b = lower-possible p q f k in let c = sound p k in let d = ap (has k) e in
      grind (arith, has-minus)

  possible-same : undecided p ≡ undecided q → (k : ℕ) → has k p.possible.bits ≡ has k q.possible.bits
  possible-same e k =
      let a = lower-sure p q f k in let b = lower-possible p q f k in let c = sound p k in let d = ap (has k) e in
      grind (arith, has-minus)

  lower : (p ≢ q) → group_height p < group_height q
  lower n = ones-more _ _ fewer (λ e. n (group-eq p q (same-places _ _ (sure-same e)) (same-places _ _ (possible-same e))))

-- where a bale is not undecided, it is sure if it is possible
settled : (p : Group) (k : ℕ) → has k (undecided p) ≡ false → T (has k p.possible.bits) → T (has k p.sure.bits)
settled p k e t = grind (arith, has-minus)

-- with none undecided, the sure bales are the possible ones
single-ends : (p : Group) → group_height p ≡ 0 → p.sure.bits ≡ p.possible.bits
single-ends p h =
    let z = ones-none (undecided p) h in
    sub-both _ _ (sound p) (λ k. settled p k (ap (has k) z ∙ has-none k))

minus-self : (n : ℕ) → minus n n ≡ 0
minus-self n = same-places _ _ (λ k. has-minus k n n ∙ none (has k n) ∙ sym (has-none k))
  where
    none : (x : Bool) → (x && not x) ≡ false
    none true = refl
    none false = refl

ends-single : (p : Group) → p.sure.bits ≡ p.possible.bits → group_height p ≡ 0
ends-single p e = ap count_ones (ap (minus p.possible.bits) e ∙ minus-self p.possible.bits) ∙ ones-of-none

between : (p : Group) → p.sure.bits ≡ p.possible.bits → (v : BaleSet) → GroupAllows p v → v.places.bits ≡ p.possible.bits
between p e v (s, r) = sub-both v.places.bits p.possible.bits r (subst (λ x. Sub x v.places.bits) e s)

pub group-heights : HeightLaws GroupAllows group_height
group-heights = record {
  lower = lower;
  single-only = λ p h u v a b. let e = single-ends p h in ap bales (between p e u a ∙ sym (between p e v b));
  single-each = λ p f. ends-single p (ap (λ (v : BaleSet). v.places.bits) (f (bales p.sure.bits) (bales p.possible.bits) (all-sure p) (all-possible p)));
}

pub single-test : (p : Group) → (p.sure.bits == p.possible.bits) ≡ (group_height p == 0)
single-test p = both-ways _ _ (λ t. eq-test _ _ (ends-single p (eqb→eq _ _ t))) (λ t. eq-test _ _ (single-ends p (eqb→eq _ _ t)))

-- ---- halves

module _ (p : Group) (h : 0 < group_height p) where
  -- the lowest undecided place
  spot : ℕ
  spot = count_trailing_zeros (undecided p) (undecided p)

  some : 0 < undecided p
  some = elim (eq-zero-or-pos (undecided p)) [ inl e ↦ absurd (let z = ap count_ones e ∙ ones-of-none in omega arith) | inr l ↦ l ]

  has-low : (j : ℕ) → has j (lowest (undecided p)) ≡ (j == spot)
  unfolding spot
  has-low j = has-lowest (undecided p) (undecided p) j some (below-pow (undecided p))

  none-low : (j : ℕ) → j < spot → has j (undecided p) ≡ false
  unfolding spot
  none-low j l = none-lower (undecided p) (undecided p) j l

  at-low : (v j : ℕ) → T (has j (lowest (undecided p))) → has j v ≡ has spot v
  at-low v j t = ap (λ x. has x v) (eqb→eq j spot (subst T (has-low j) t))

  covered-by : (v : BaleSet) → GroupAllows p v → (b : Bool) → has spot v.places.bits ≡ b → GroupAllows (group_first p) v ⊎ GroupAllows (group_second p) v
  covered-by v (s, r) true e =
      inl (sub-union p.sure.bits (lowest (undecided p)) v.places.bits s (λ j l. subst T (sym (at-low v.places.bits j l ∙ e)) tt), r)
  covered-by v (s, r) false e =
      inr (s, λ j t. subst T (sym (has-minus j p.possible.bits (lowest (undecided p)))) (and-both _ _ (r j t) (not_T _ (λ l. subst T (at-low v.places.bits j l ∙ e) t))))

  covered : (v : BaleSet) → GroupAllows p v → GroupAllows (group_first p) v ⊎ GroupAllows (group_second p) v
  covered v a = covered-by v a (has spot v.places.bits) refl

  ordered : (u v : BaleSet) → GroupAllows (group_first p) u → GroupAllows (group_second p) v → GroupBefore u v
  ordered u v (s, r) (s', r') =
      let in-low : T (has spot (lowest (undecided p))) = subst T (sym (has-low spot)) (eqb_refl spot) in (
        spot,
        union-right p.sure.bits (lowest (undecided p)) u.places.bits s spot in-low,
        (λ t. T_not _ (and-right (has spot p.possible.bits) _ (subst T (has-minus spot p.possible.bits (lowest (undecided p))) (r' spot t))) in-low),
        λ j l. let e = none-low j l in both-ways (has j u.places.bits) (has j v.places.bits)
            (λ t. s' j (settled p j e (r j t)))
            (λ t. union-left p.sure.bits (lowest (undecided p)) u.places.bits s j (settled p j e (minus-sub p.possible.bits (lowest (undecided p)) j (r' j t)))),
      )

total : (u v : BaleSet) → GroupBefore u v ⊎ ((u ≡ v) ⊎ GroupBefore v u)
total u v = elim (before-total u.places.bits v.places.bits) [
  | inl b ↦ inl b
  | inr o ↦ elim o [ inl e ↦ inr (inl (ap bales e)) | inr b ↦ inr (inr b) ]
]

pub group-halves : HalvesLaws GroupAllows group_height GroupBefore group_first group_second
group-halves = record {
  irreflexive = λ v. before-irreflexive v.places.bits;
  transitive = λ u v w. before-transitive u.places.bits v.places.bits w.places.bits;
  total = total;
  first-inside = λ p h v a. (union-left p.sure.bits (lowest (undecided p)) v.places.bits a.0, a.1);
  second-inside = λ p h v a. (a.0, λ k t. minus-sub p.possible.bits (lowest (undecided p)) k (a.1 k t));
  covered = covered;
  ordered = ordered;
}

-- ---- what a group is told

of-some : (s p : ℕ) (b : Bool) (e : subset s p ≡ b) (g : Group) → group_if s p b e ≡ Some g → (g.sure.bits ≡ s) × (g.possible.bits ≡ p)
of-some s p true e g f = (sym (ap (λ (x : Group). x.sure.bits) (same_Some _ _ f)), sym (ap (λ (x : Group). x.possible.bits) (same_Some _ _ f)))
of-some s p false e g f = absurd (none-some _ f)

of-none : (s p : ℕ) (b : Bool) (e : subset s p ≡ b) → group_if s p b e ≡ None → Sub s p → ⊥
of-none s p true e f u = none-some _ (sym f)
of-none s p false e f u = eqb-false _ _ e (of-sub s p u)

to-some : (s p : ℕ) (b : Bool) (e : subset s p ≡ b) (g : Group) → g.sure.bits ≡ s → g.possible.bits ≡ p → Some g ≡ group_if s p b e
to-some s p true e g f u = ap Some (group-eq _ _ f u)
to-some s p false e g f u = absurd (eqb-false _ _ e (subst (λ x. bit_and x p ≡ x) f (subst (λ x. bit_and g.sure.bits x ≡ g.sure.bits) u g.ok)))

to-none : (s p : ℕ) (b : Bool) (e : subset s p ≡ b) → (Sub s p → ⊥) → None ≡ group_if s p b e
to-none s p true e n = absurd (n (sub-of s p (eqb-true _ _ e)))
to-none s p false e n = refl

-- what `Group::new` promises of its answer
abbrev pub Answers : (s p : PlaceSet) → Option Group → Type 0
Answers s p (Some g) = (g.sure ≡ s) × (g.possible ≡ p)
Answers s p None = Sub s.bits p.bits → ⊥

pub group-of : (s p : PlaceSet) (o : Option Group) → Answers s p o → o ≡ group_of s.bits p.bits
unfolding group_of
group-of s p (Some g) h = to-some _ _ _ refl g (ap (λ (x : PlaceSet). x.bits) h.0) (ap (λ (x : PlaceSet). x.bits) h.1)
group-of s p None h = to-none _ _ _ refl h

module _ (t : GroupTell) (p q : Group) (e : group_meet t p ≡ Some q) where
  fields : (q.sure.bits ≡ bit_or p.sure.bits t.gain.bits) × (q.possible.bits ≡ bit_and p.possible.bits t.keep.bits)
  unfolding group_of
  fields = of-some _ _ _ refl q e

  from : (v : BaleSet) → GroupAllows q v → Sub (bit_or p.sure.bits t.gain.bits) v.places.bits × Sub v.places.bits (bit_and p.possible.bits t.keep.bits)
  from v a = (subst (λ x. Sub x v.places.bits) fields.0 a.0, subst (λ x. Sub v.places.bits x) fields.1 a.1)

  told-only : (v : BaleSet) → GroupAllows q v → GroupAllows p v
  told-only v a = let f = from v a in (union-left p.sure.bits t.gain.bits v.places.bits f.0, intersection-left p.possible.bits t.keep.bits v.places.bits f.1)

  told-passed : (v : BaleSet) → GroupAllows q v → GroupPasses t v
  told-passed v a = let f = from v a in (union-right p.sure.bits t.gain.bits v.places.bits f.0, intersection-right p.possible.bits t.keep.bits v.places.bits f.1)

  told-each : (v : BaleSet) → GroupAllows p v → GroupPasses t v → GroupAllows q v
  told-each v a h = (
    subst (λ x. Sub x v.places.bits) (sym fields.0) (sub-union p.sure.bits t.gain.bits v.places.bits a.0 h.0),
    subst (λ x. Sub v.places.bits x) (sym fields.1) (sub-intersection p.possible.bits t.keep.bits v.places.bits a.1 h.1),
  )

told-none : (t : GroupTell) (p : Group) → group_meet t p ≡ None → (v : BaleSet) → GroupAllows p v → GroupPasses t v → ⊥
unfolding group_of
told-none t p e v a h =
    of-none _ _ _ refl e (λ i x. sub-intersection p.possible.bits t.keep.bits v.places.bits a.1 h.1 i
    (sub-union p.sure.bits t.gain.bits v.places.bits a.0 h.0 i x))

pub group-tells : TellLaws GroupAllows GroupPasses group_meet
group-tells = record { only = told-only; passed = told-passed; each = told-each; none = told-none }
