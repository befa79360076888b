-- The laws of count and weigh on their group and their number.
use Rattle.std.specs.Prelude.{◌≡◌, ℕ, ◌+◌, ◌<◌, ◌≤◌, true, false, cond, T, List, ◌==◌, slice_index, refl}
use Rattle.std.proofs.Common.{sym, ap, subst, arith, eqb-true, eq-eqb}
use Rattle.places.specs.Members.{has, none, count, Sub}
use Rattle.places.specs.Sums.{weigh}
use Rattle.places.proofs.Tables.{dec-T}
use Rattle.places.proofs.Members.{has-none, minus-only, minus-each}
use Rattle.places.proofs.Sums.{weigh-mono, weigh-lacks, above-only, above-each, missed-above}
use Rattle.places.proofs.Counts.{ones-mono, ones-same}
use Rattle.domain.specs.declared.bounds.BaleSet.{BaleSet}
use Rattle.domain.specs.declared.bounds.Group.{Group}
use Rattle.domain.specs.declared.bounds.GroupTell.{GroupTell}
use Rattle.domain.specs.declared.bounds.Number.{Number}
use Rattle.domain.specs.Laws.{Within}
use Rattle.domain.specs.Groups.{GroupAllows, group_height, GroupPasses}
use Rattle.domain.specs.Numbers.{NumberAllows, number_height, NumberPasses}
use Rattle.domain.specs.GroupsLemmas.{lower-sure, lower-possible}
use Rattle.domain.specs.NumbersLemmas.{over}
use Rattle.engine.specs.Arity.{TwoLaws}
use Rattle.words.specs.Tells.{sure, possible}
use Rattle.amounts.specs.Scales.{between, count_tells, CountHolds, needed, excess, weigh_tells, WeighHolds}
use Rattle.words.specs.Carrying.{single-ends}

abbrev bits : BaleSet → ℕ
bits a = a.places.bits

-- ---- a word that says how large a group is, by a size that grows with the set

module _ (size : ℕ → ℕ) (grows : (s t : ℕ) → Sub s t → size s ≤ size t) (tells : Group → Number → GroupTell) where
  -- what passes at a narrower group and number, whose ends meet, passes at wider ones
  abbrev Monotone : Type 0
  Monotone = (x : Group) (n : Number) (x' : Group) (n' : Number) (a : BaleSet) → Within GroupAllows x x' → Within NumberAllows n n' → GroupAllows x a
      → n.low ≤ size (possible x) → size (sure x) ≤ n.high → GroupPasses (tells x n) a → GroupPasses (tells x' n') a

  -- a set of a size that is allowed passes
  abbrev Keeps : Type 0
  Keeps = (x : Group) (n : Number) (a : BaleSet) → GroupAllows x a → n.low ≤ size (bits a) → size (bits a) ≤ n.high → GroupPasses (tells x n) a

  size-laws : Monotone → Keeps → TwoLaws GroupAllows group_height GroupPasses NumberAllows number_height NumberPasses
      (λ x n. (tells x n, between (size (sure x)) (size (possible x)))) (λ a b. size (bits a) ≡ b)
  size-laws monotone keeps = record {
    monotone = λ x n x' n' a b i j p q h.
        let s = grows (sure x') (sure x) (lower-sure x x' i) in
        let r = grows (possible x) (possible x') (lower-possible x x' i) in
        (monotone x n x' n' a i j p (omega arith) (omega arith) h.0, (omega arith, omega arith));
    keeps = λ x n a b p q e.
        let s = grows (sure x) (bits a) p.0 in
        let r = grows (bits a) (possible x) p.1 in
        (keeps x n a p (omega arith) (omega arith), (omega arith, omega arith));
    exact = λ x n a b p q hx hn h.
        let e = single-ends x a p hx in
        let s = ap size e.0 in
        let r = ap size e.1 in
        omega arith;
  }

-- ---- count

-- a set that is told only where two figures are the same
told-where : (m n s t : ℕ) → m ≡ n → cond (m == n) s t ≡ s
told-where m n s t e = ap (λ b. cond b s t) (eq-eqb m n e)

where-told : (P : ℕ → Type 0) (m n s t : ℕ) → (m ≡ n → P s) → P t → P (cond (m == n) s t)
where-told P m n s t f g = elim (m == n) as (λ v. (m == n) ≡ v → P (cond v s t)) [ true ↦ λ e. f (eqb-true m n e) | false ↦ λ e. g ] refl

none-in : (a : ℕ) → Sub none a
none-in a k t = absurd (subst T (has-none k) t)

count-monotone : Monotone count ones-mono (λ x n. (count_tells x n).0)
count-monotone x n x' n' a i j p l u h =
    let o = over n n' j in
    let s = lower-sure x x' i in
    let r = lower-possible x x' i in
    let cs = ones-mono (sure x') (sure x) s in
    let cr = ones-mono (possible x) (possible x') r in (
      where-told (λ g. Sub g (bits a)) n'.low (count (possible x')) (possible x') none
          (λ e. subst (λ g. Sub g (bits a)) (ones-same (possible x) (possible x') r (omega arith))
          (subst (λ g. Sub g (bits a)) (told-where n.low (count (possible x)) (possible x) none (omega arith)) h.0))
          (none-in (bits a)),
      where-told (λ g. Sub (bits a) g) n'.high (count (sure x')) (sure x') (possible x')
          (λ e. subst (λ g. Sub (bits a) g) (sym (ones-same (sure x') (sure x) s (omega arith)))
          (subst (λ g. Sub (bits a) g) (told-where n.high (count (sure x)) (sure x) (possible x) (omega arith)) h.1))
          (λ k t. r k (p.1 k t)),
    )

count-keeps : Keeps count ones-mono (λ x n. (count_tells x n).0)
count-keeps x n a p l u = (
  where-told (λ g. Sub g (bits a)) n.low (count (possible x)) (possible x) none
      (λ e. subst (λ g. Sub g (bits a)) (ones-same (bits a) (possible x) p.1 (omega arith)) (λ k t. t))
      (none-in (bits a)),
  where-told (λ g. Sub (bits a) g) n.high (count (sure x)) (sure x) (possible x)
      (λ e. subst (λ g. Sub (bits a) g) (sym (ones-same (sure x) (bits a) p.0 (omega arith))) (λ k t. t))
      p.1,
)

pub count-laws : TwoLaws GroupAllows group_height GroupPasses NumberAllows number_height NumberPasses count_tells CountHolds
count-laws = size-laws count ones-mono (λ x n. (count_tells x n).0) count-monotone count-keeps

-- ---- weigh

module _ (ws : List ℕ) where
  needed-only : (x : Group) (low k : ℕ) → T (has k (needed ws x low)) → T (has k (possible x)) × (T (has k (sure x)) → ⊥) × (weigh ws (possible x) < low + slice_index ws k)
  needed-only x low k t = above-only (weigh ws (possible x)) low ws k (possible x) (sure x) (subst (λ s. T (has k s)) (sym (missed-above ws low (possible x) (sure x))) t)

  needed-each : (x : Group) (low k : ℕ) → T (has k (possible x)) → (T (has k (sure x)) → ⊥) → weigh ws (possible x) < low + slice_index ws k → T (has k (needed ws x low))
  needed-each x low k t n l = subst (λ s. T (has k s)) (missed-above ws low (possible x) (sure x)) (above-each (weigh ws (possible x)) low ws k (possible x) (sure x) t n l)

  weigh-monotone : Monotone (weigh ws) (weigh-mono ws) (λ x n. (weigh_tells ws x n).0)
  weigh-monotone x n x' n' a i j p l u h =
      let o = over n n' j in
      let s = lower-sure x x' i in
      let r = lower-possible x x' i in
      let wr = weigh-mono ws (possible x) (possible x') r in
      let wl = weigh-mono ws (sure x') (sure x) s in (
        (λ k t.
            let m = needed-only x' n'.low k t in
            elim (dec-T (has k (sure x))) [
              | yes y ↦ p.0 k y
              | no y ↦ elim (dec-T (has k (possible x))) [
                | yes z ↦ h.0 k (needed-each x n.low k z y (let g = m.2 in omega arith))
                | no z ↦ absurd (let g = m.2 in let w = weigh-lacks ws (possible x) (possible x') k r m.0 z in omega arith)
              ]
            ]),
        (λ k t. minus-each k (possible x') (excess ws x' n'.high) (r k (p.1 k t)) (λ e.
            let m = above-only n'.high (weigh ws (sure x')) ws k (possible x') (sure x') e in
            let g = m.2 in
            elim (dec-T (has k (sure x))) [
              | yes y ↦ (let w = weigh-lacks ws (sure x') (sure x) k s y m.1 in omega arith)
              | no y ↦ (minus-only k (possible x) (excess ws x n.high) (h.1 k t)).1 (above-each n.high (weigh ws (sure x)) ws k (possible x) (sure x) (p.1 k t) y (omega arith))
            ])),
      )

  weigh-keeps : Keeps (weigh ws) (weigh-mono ws) (λ x n. (weigh_tells ws x n).0)
  weigh-keeps x n a p l u = (
    (λ k t.
        let m = needed-only x n.low k t in
        elim (dec-T (has k (bits a))) [
          | yes y ↦ y
          | no y ↦ absurd (let g = m.2 in let w = weigh-lacks ws (bits a) (possible x) k p.1 m.0 y in omega arith)
        ]),
    (λ k t. minus-each k (possible x) (excess ws x n.high) (p.1 k t) (λ e.
        let m = above-only n.high (weigh ws (sure x)) ws k (possible x) (sure x) e in
        let g = m.2 in let w = weigh-lacks ws (sure x) (bits a) k p.0 t m.1 in omega arith)),
  )

  pub weigh-laws : TwoLaws GroupAllows group_height GroupPasses NumberAllows number_height NumberPasses (weigh_tells ws) (WeighHolds ws)
  weigh-laws = size-laws (weigh ws) (weigh-mono ws) (λ x n. (weigh_tells ws x n).0) weigh-monotone weigh-keeps
