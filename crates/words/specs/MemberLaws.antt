-- The laws of has and lacks on their group.
use Rattle.std.specs.Prelude.{◌≡◌, ℕ, zero, suc, Bool, true, false, cond, ◌&&◌, T, nat_le, refl}
use Rattle.std.proofs.Common.{sym, ap, subst, arith, leb→le, le→leb, eqb→eq}
use Rattle.std.proofs.Math.Dec.{eqb_refl}
use Rattle.places.specs.Members.{has, holds, none, one, minus, Sub}
use Rattle.places.proofs.Members.{has-none, minus-only, minus-each}
use Rattle.places.proofs.Lowest.{has-one-place}
use Rattle.places.proofs.Tables.{and-left, and-right, and-both}
use Rattle.domain.specs.Groups.{GroupAllows, group_height, GroupPasses}
use Rattle.engine.specs.Arity.{OneLaws}
use Rattle.words.specs.Members.{OnLists, bale_at, has_tells, HasHolds, lacks_tells, LacksHolds}

-- ---- the test of a place

test-true : (b : Bool) → T b → b ≡ true
test-true true t = refl
test-true false t = absurd t

listed : (p : ℕ) → T (nat_le 1 p && nat_le p 64) → OnLists p
listed p t = (leb→le 1 p (and-left (nat_le 1 p) (nat_le p 64) t), leb→le p 64 (and-right (nat_le 1 p) (nat_le p 64) t))

bale-listed : (p : ℕ) → OnLists p → bale_at p ≡ one p
bale-listed p o = ap (λ b. cond b (one p) none) (test-true (nat_le 1 p && nat_le p 64) (and-both (nat_le 1 p) (nat_le p 64) (le→leb 1 p o.0) (le→leb p 64 o.1)))

-- ---- who is in the set of one place

bale-only : (p k : ℕ) → T (has k (bale_at p)) → OnLists p × (p ≡ suc k)
bale-only p k t = elim (nat_le 1 p && nat_le p 64) as (λ b. (nat_le 1 p && nat_le p 64) ≡ b → T (has k (cond b (one p) none)) → OnLists p × (p ≡ suc k)) [
  | true ↦ λ e s. (let o = listed p (subst T (sym e) tt) in (o, sym (eqb→eq (suc k) p (subst T (has-one-place p (suc k) o.0) s))))
  | false ↦ λ e s. absurd (subst T (has-none k) s)
] refl t

bale-here : (k : ℕ) → OnLists (suc k) → T (has k (bale_at (suc k)))
bale-here k o = subst (λ n. T (has k n)) (sym (bale-listed (suc k) o)) (subst T (sym (has-one-place (suc k) (suc k) o.0)) (eqb_refl (suc k)))

bale-in : (p a : ℕ) → (OnLists p → T (holds p a)) → Sub (bale_at p) a
bale-in p a h k t = let o = bale-only p k t in subst (λ q. T (holds q a)) o.1 (h o.0)

in-bale : (p a : ℕ) → Sub (bale_at p) a → OnLists p → T (holds p a)
in-bale zero a s o = absurd (omega (arith, o.0))
in-bale (suc k) a s o = s k (bale-here k o)

bale-out : (p a b : ℕ) → (OnLists p → T (holds p a) → ⊥) → Sub a b → Sub a (minus b (bale_at p))
bale-out p a b h s k t = minus-each k b (bale_at p) (s k t) (λ r. let o = bale-only p k r in h o.0 (subst (λ q. T (holds q a)) (sym o.1) t))

out-bale : (p a b : ℕ) → Sub a (minus b (bale_at p)) → OnLists p → T (holds p a) → ⊥
out-bale zero a b s o t = t
out-bale (suc k) a b s o t = (minus-only k b (bale_at (suc k)) (s k t)).1 (bale-here k o)

-- ---- the words

pub has-laws : (p : ℕ) → OneLaws GroupAllows group_height GroupPasses (has_tells p) (HasHolds p)
has-laws p = record {
  monotone = λ x x' a w q h. (h.0, (w a q).1);
  keeps = λ x a q h. (bale-in p a.places.bits h, q.1);
  exact = λ x a q z h. in-bale p a.places.bits h.0;
}

pub lacks-laws : (p : ℕ) → OneLaws GroupAllows group_height GroupPasses (lacks_tells p) (LacksHolds p)
lacks-laws p = record {
  monotone = λ x x' a w q h. (h.0, bale-out p a.places.bits x'.possible.bits (out-bale p a.places.bits x.possible.bits h.1) (w a q).1);
  keeps = λ x a q h. ((λ k t. absurd (subst T (has-none k) t)), bale-out p a.places.bits x.possible.bits h q.1);
  exact = λ x a q z h. out-bale p a.places.bits x.possible.bits h.1;
}
