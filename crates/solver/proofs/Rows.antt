-- The first two rows of a stack.
use Rattle.std.proofs.Common.{◌≡◌, ℕ, zero, suc, ◌+◌, ◌-◌, ◌*◌, ◌<◌, ◌≤◌, List, [], ◌∷◌, ◌++◌, length, get_or, take, drop, set, sym, refl, ap, ◌∙◌, mul-le-mul_right, arith, length-append, length-take}
use lib.Seq.{take-append-le}
use borrow.Rule.Slice.PartMut.{put_mid, post_of}
use Rattle.std.proofs.lemmas.Slice.{take-put_mid_below}
use Rattle.std.proofs.lemmas.List.{same_lists, get_or-drop, get_or-take, length-drop, length-take-le, take-take, drop_at}
use Rattle.meaning.specs.Search.{change, FirstOpen}
use Rattle.solver.proofs.Opening.{open-within}

-- two parts are the same, cell by cell
pub part-same : {X : Type 0} (n a b : ℕ) (s e : List X) → a + n ≤ length s → b + n ≤ length e → ((k : ℕ) → k < n → (d : X) → get_or s (a + k) d ≡ get_or e (b + k) d) → take n (drop a s) ≡ take n (drop b e)
part-same n a b s e h i same =
    let ls : length (take n (drop a s)) ≡ n = length-take-le n (drop a s) (omega (arith, length-drop a s)) in
    let le : length (take n (drop b e)) ≡ n = length-take-le n (drop b e) (omega (arith, length-drop b e)) in
    same_lists (take n (drop a s)) (take n (drop b e)) (ls ∙ sym le)
    (λ k d z. let y : k < n = omega arith in get_or-take n (drop a s) k d y ∙ get_or-drop a s k d ∙ same k y d ∙ sym (get_or-take n (drop b e) k d y ∙ get_or-drop b e k d))

pub change-set : {X : Type 0} (f : X → X) (Q : List X) (i : ℕ) (x : X) → x ≡ get_or Q i x → change f Q i ≡ set Q i (f x)
change-set f [] i x e = refl
change-set f (p ∷ ps) zero x e = ap (λ y. f y ∷ ps) (sym e)
change-set f (p ∷ ps) (suc i) x e = ap (λ ys. p ∷ ys) (change-set f ps i x e)

pub take-set-in : {X : Type 0} (n i : ℕ) (s : List X) (x : X) → i < n → take n (set s i x) ≡ set (take n s) i x
take-set-in zero i s x h = absurd (omega arith)
take-set-in (suc n) i [] x h = refl
take-set-in (suc n) zero (y ∷ ys) x h = refl
take-set-in (suc n) (suc i) (y ∷ ys) x h = ap (λ zs. y ∷ zs) (take-set-in n i ys x (omega arith))

-- the row P is the first n cells of s with one half of the cell i put in
pub half-put : {X : Type 0} (f : X → X) (n i : ℕ) (s P : List X) (x y : X) → i < n → x ≡ get_or s i x → y ≡ f x → P ≡ set (take n s) i y → P ≡ change f (take n s) i
half-put f n i s P x y h at e put = put ∙ ap (set (take n s) i) e ∙ sym (change-set f (take n s) i x (at ∙ sym (get_or-take n s i x h)))

-- the rows above the first, lent
pub room-two : (n d rows long : ℕ) → d < rows → (rows - d + 1) * n ≤ long → n + n ≤ long
room-two n d rows long h r =
    let m : 2 * n ≤ (rows - d + 1) * n = mul-le-mul_right n (omega arith) in
    omega arith

pub room-one : (n d rows long : ℕ) → (rows - d + 1) * n ≤ long → n ≤ long
room-one n d rows long r =
    let m : 1 * n ≤ (rows - d + 1) * n = mul-le-mul_right n (omega arith) in
    omega arith

-- a cell that is to be cut is one of the row's, where the stack has room for the row
pub cut-within : {C : Type 0} (height : C → ℕ) (n d rows long i : ℕ) (s : List C) → (rows - d + 1) * n ≤ long → length s ≡ long → FirstOpen height (take n s) i → (i < n) × (i < length s)
cut-within height n d rows long i s room same o =
    let one = room-one n d rows long room in
    let row = length-take-le n s (omega arith) in
    let h = open-within height (take n s) i o in
    (omega arith, omega arith)

pub above-first : {X : Type 0} (n : ℕ) (s : List X) → n + n ≤ length s → take n (take (length s - n) (drop n s)) ≡ take n (drop n s)
above-first n s h = take-take n (length s - n) (drop n s) (omega arith)

pub above-back : {X : Type 0} (n k : ℕ) (s ys : List X) → n ≤ length s → n ≤ length ys → take n (drop n (put_mid n k s ys)) ≡ take n ys
above-back n k s ys h l = ap (take n) (drop_at (take n s) (ys ++ post_of n k s) n (length-take-le n s h)) ∙ take-append-le n ys (post_of n k s) l

pub front-stays : {X : Type 0} (n k : ℕ) (s ys : List X) → n ≤ length s → take n (put_mid n k s ys) ≡ take n s
front-stays n k s ys h = take-put_mid_below n k s ys n (omega arith) h

pub above-long : {X : Type 0} (n : ℕ) (s ys : List X) → n + n ≤ length s → length ys ≡ length (take (length s - n) (drop n s)) → n ≤ length ys
above-long n s ys h e = omega (arith, length-take (length s - n) (drop n s), length-drop n s)

pub lent-long : {X : Type 0} (n k : ℕ) (s ys : List X) → n ≤ length s → n ≤ length ys → n + n ≤ length (put_mid n k s ys)
lent-long n k s ys h l = omega (arith, length-append (take n s) (ys ++ post_of n k s), length-append ys (post_of n k s), length-take-le n s h)
