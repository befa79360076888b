-- Sets of bits and the places that they list.
use Rattle.std.proofs.Common.{◌≡◌, ℕ, zero, suc, ◌+◌, ◌-◌, ◌*◌, ◌/◌, ◌%◌, ◌^◌, ◌<◌, ◌≤◌, cond, eqb, [], ◌∷◌, ◌++◌, sym, refl, ap, ◌∙◌, add-one, arith, pow_mono, pow-add}
use Rattle.std.proofs.lemmas.Nat.{one_shl}
use Rattle.std.proofs.lemmas.Bool.{cond_both}
use Rattle.text.specs.Lists.{places_from, members}

pub double : (p : ℕ) → 2 ^ (p + 1) ≡ 2 * 2 ^ p
double p = let d = pow-add 2 p 1 in omega arith

pub double-suc : (p : ℕ) → 2 ^ suc p ≡ 2 * 2 ^ p
double-suc p = ap (λ k. 2 ^ k) (sym (add-one p)) ∙ double p

none-from : (f p : ℕ) → places_from f p 0 ≡ []
none-from zero p = refl
none-from (suc f) p = none-from f (p + 1)

pub members-none : members 0 ≡ []
unfolding members
members-none = none-from 99 1

-- one place more, above all others
push-from : (k f p m : ℕ) → m < 2 ^ k → k < f → places_from f p (m + 2 ^ k) ≡ places_from f p m ++ ((p + k) ∷ [])
push-from zero zero p m lt le = absurd (omega arith)
push-from zero (suc f) p m lt le = let z : m ≡ 0 = omega arith in let q : p + 0 ≡ p = omega arith in rw (z, q, none-from f (p + 1))
push-from (suc k) zero p m lt le = absurd (omega arith)
push-from (suc k) (suc f) p m lt le =
    let d = double-suc k in
    let o : (m + 2 ^ suc k) % 2 ≡ m % 2 = omega arith in
    let h : (m + 2 ^ suc k) / 2 ≡ m / 2 + 2 ^ k = omega arith in
    let r = push-from k f (p + 1) (m / 2) (omega arith) (omega arith) in
    let q : p + 1 + k ≡ p + suc k = omega arith in
    ap (λ x. cond (eqb x 1) (p ∷ places_from f (p + 1) ((m + 2 ^ suc k) / 2)) (places_from f (p + 1) ((m + 2 ^ suc k) / 2))) o
    ∙ ap (λ x. cond (eqb (m % 2) 1) (p ∷ places_from f (p + 1) x) (places_from f (p + 1) x)) h
    ∙ ap (λ x. cond (eqb (m % 2) 1) (p ∷ x) x) (r ∙ ap (λ x. places_from f (p + 1) (m / 2) ++ (x ∷ [])) q)
    ∙ cond_both (eqb (m % 2) 1) _ _ (λ xs. cond (eqb (m % 2) 1) (p ∷ (places_from f (p + 1) (m / 2) ++ ((p + suc k) ∷ []))) (places_from f (p + 1) (m / 2) ++ ((p + suc k) ∷ [])) ≡ xs ++ ((p + suc k) ∷ []))
    (λ t. rw t) (λ t. rw t)

pub members-push : (m n : ℕ) → 1 ≤ n → n ≤ 99 → m < 2 ^ (n - 1) → members (m + 2 ^ (n - 1)) ≡ members m ++ (n ∷ [])
unfolding members
members-push m n some few lt = let e : 1 + (n - 1) ≡ n = omega arith in push-from (n - 1) 99 1 m lt (omega arith) ∙ ap (λ x. places_from 99 1 m ++ (x ∷ [])) e

-- the bit of a place, and the room that it leaves
pub bit-more : (m last n : ℕ) → m < 2 ^ last → last < n → n ≤ 99 → (1 * 2 ^ (n - 1) % 2 ^ 128 ≡ 2 ^ (n - 1)) × (m < 2 ^ (n - 1)) × (m + 2 ^ (n - 1) < 2 ^ n) × (m + 2 ^ (n - 1) < 2 ^ 99)
bit-more m last n a b c =
    let s : 1 * 2 ^ (n - 1) % 2 ^ 128 ≡ 2 ^ (n - 1) = one_shl (n - 1) 128 (omega arith) in
    let le : last ≤ n - 1 = omega arith in
    let p : 2 ^ last ≤ 2 ^ (n - 1) = pow_mono le in
    let e : n - 1 + 1 ≡ n = omega arith in
    let d : 2 ^ n ≡ 2 * 2 ^ (n - 1) = ap (λ k. 2 ^ k) (sym e) ∙ double (n - 1) in
    let q : 2 ^ n ≤ 2 ^ 99 = pow_mono c in
    (s, omega arith, omega arith, omega arith)
