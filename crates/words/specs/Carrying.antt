-- The laws of a word at one place carry to whole sets, and so to groups.
use Rattle.std.specs.Prelude.{◌≡◌, ℕ, ◌&&◌, T}
use Rattle.std.proofs.Common.{sym, ap, subst}
use Rattle.places.specs.Members.{has, Sub}
use Rattle.places.specs.Tables.{◌⇒◌, rows}
use Rattle.places.proofs.Tables.{table, and-left, and-right, and-both, follows, implied}
use Rattle.domain.specs.declared.bounds.BaleSet.{BaleSet}
use Rattle.domain.specs.declared.bounds.Group.{Group}
use Rattle.domain.specs.declared.bounds.GroupTell.{GroupTell}
use Rattle.domain.specs.Groups.{GroupAllows, group_height, GroupPasses}
use Rattle.domain.specs.GroupsLemmas.{bales, sound, lower-sure, lower-possible, group-heights}
use Rattle.engine.specs.Arity.{Two, TwoLaws, Three, ThreeLaws}
use Rattle.words.specs.Tells.{member, sure, possible, told}
use Rattle.words.specs.Places.{Ends, sure_c, possible_c, sets, over, has-set, Word, inside_at, told_at, just, each, at, Good}

-- ---- whole sets

record Inside (u t : Ends ℕ) : Type 0 where
  sa : Sub t.sa u.sa
  pa : Sub u.pa t.pa
  sb : Sub t.sb u.sb
  pb : Sub u.pb t.pb
  sc : Sub t.sc u.sc
  pc : Sub u.pc t.pc

inside-at : (u t : Ends ℕ) → Inside u t → (k : ℕ) → T (inside_at (over (has k) u) (over (has k) t))
inside-at u t h k =
    and-both _ _ (and-both _ _ (and-both _ _ (and-both _ _ (and-both _ _
    (implied _ _ (h.sa k)) (implied _ _ (h.pa k))) (implied _ _ (h.sb k))) (implied _ _ (h.pb k))) (implied _ _ (h.sc k))) (implied _ _ (h.pc k))

module _ (u t : Ends ℕ) (h : (k : ℕ) → T (inside_at (over (has k) u) (over (has k) t))) where
  five : (k : ℕ) → T ((has k t.sa ⇒ has k u.sa) && (has k u.pa ⇒ has k t.pa) && (has k t.sb ⇒ has k u.sb) && (has k u.pb ⇒ has k t.pb) && (has k t.sc ⇒ has k u.sc))
  five k = and-left _ _ (h k)

  four : (k : ℕ) → T ((has k t.sa ⇒ has k u.sa) && (has k u.pa ⇒ has k t.pa) && (has k t.sb ⇒ has k u.sb) && (has k u.pb ⇒ has k t.pb))
  four k = and-left _ _ (five k)

  three : (k : ℕ) → T ((has k t.sa ⇒ has k u.sa) && (has k u.pa ⇒ has k t.pa) && (has k t.sb ⇒ has k u.sb))
  three k = and-left _ _ (four k)

  two : (k : ℕ) → T ((has k t.sa ⇒ has k u.sa) && (has k u.pa ⇒ has k t.pa))
  two k = and-left _ _ (three k)

  at-inside : Inside u t
  at-inside = record {
    sa = λ k. follows _ _ (and-left _ _ (two k));
    pa = λ k. follows _ _ (and-right _ _ (two k));
    sb = λ k. follows _ _ (and-right _ _ (three k));
    pb = λ k. follows _ _ (and-right _ _ (four k));
    sc = λ k. follows _ _ (and-right _ _ (five k));
    pc = λ k. follows _ _ (and-right _ _ (h k));
  }

inside-trans : (s t u : Ends ℕ) → Inside s t → Inside t u → Inside s u
inside-trans s t u i j = record {
  sa = λ k h. i.sa k (j.sa k h);
  pa = λ k h. j.pa k (i.pa k h);
  sb = λ k h. i.sb k (j.sb k h);
  pb = λ k h. j.pb k (i.pb k h);
  sc = λ k h. i.sc k (j.sc k h);
  pc = λ k h. j.pc k (i.pc k h);
}

-- what is gained and kept
abbrev pub told_sets : Word → Ends ℕ → Ends ℕ
told_sets w t = record { sa = sets w.gain-a t; pa = sets w.keep-a t; sb = sets w.gain-b t; pb = sets w.keep-b t; sc = sets w.gain-c t; pc = sets w.keep-c t }

over-told_sets : (w : Word) (k : ℕ) (t : Ends ℕ) → over (has k) (told_sets w t) ≡ told_at w (over (has k) t)
over-told_sets w k t = λ i. record {
  sa = has-set k w.gain-a t i;
  pa = has-set k w.keep-a t i;
  sb = has-set k w.gain-b t i;
  pb = has-set k w.keep-b t i;
  sc = has-set k w.gain-c t i;
  pc = has-set k w.keep-c t i;
}

-- the relation holds at each place
abbrev pub Says : Word → BaleSet → BaleSet → BaleSet → Type 0
Says w a b c = (k : ℕ) → T (w.relation (member k a) (member k b) (member k c))

abbrev values : BaleSet → BaleSet → BaleSet → Ends ℕ
values a b c = just a.places.bits b.places.bits c.places.bits

module _ (w : Word) (g : Good w) where
  monotone : (t u : Ends ℕ) → Inside u t → Inside (told_sets w u) (told_sets w t)
  monotone t u h = at-inside (told_sets w u) (told_sets w t) (λ k.
      subst (λ x. T (inside_at x (over (has k) (told_sets w t)))) (sym (over-told_sets w k u))
      (subst (λ x. T (inside_at (told_at w (over (has k) u)) x)) (sym (over-told_sets w k t))
      (follows _ _ (at (λ x. inside_at x (over (has k) t) ⇒ inside_at (told_at w x) (told_at w (over (has k) t))) (at (λ t. each (λ u. inside_at u t ⇒ inside_at (told_at w u) (told_at w t))) g.monotone (over (has k) t)) (over (has k) u)) (inside-at u t h k))))

  keeps : (t : Ends ℕ) (a b c : BaleSet) → Inside (values a b c) t → Says w a b c → Inside (values a b c) (told_sets w t)
  keeps t a b c h r = at-inside (values a b c) (told_sets w t) (λ k.
      subst (λ x. T (inside_at (just (member k a) (member k b) (member k c)) x)) (sym (over-told_sets w k t))
      (follows _ _ (table 3 (λ a b c. (inside_at (just a b c) (over (has k) t) && w.relation a b c) ⇒ inside_at (just a b c) (told_at w (over (has k) t)))
      (at (λ t. rows 3 (λ a b c. (inside_at (just a b c) t && w.relation a b c) ⇒ inside_at (just a b c) (told_at w t))) g.keeps (over (has k) t)) (member k a) (member k b) (member k c))
      (and-both _ _ (inside-at (values a b c) t h k) (r k))))

  exact : (a b c : BaleSet) → Inside (values a b c) (told_sets w (values a b c)) → Says w a b c
  exact a b c s k =
      follows _ _ (table 3 (λ a b c. inside_at (just a b c) (told_at w (just a b c)) ⇒ w.relation a b c) g.exact (member k a) (member k b) (member k c))
      (subst (λ x. T (inside_at (just (member k a) (member k b) (member k c)) x)) (over-told_sets w k (values a b c)) (inside-at (values a b c) (told_sets w (values a b c)) s k))

-- ---- groups

-- a single group is its value
pub single-ends : (x : Group) (v : BaleSet) → GroupAllows x v → group_height x ≡ 0 → (sure x ≡ v.places.bits) × (possible x ≡ v.places.bits)
single-ends x v a h =
    let one = group-heights.single-only x h in (
      ap (λ (b : BaleSet). b.places.bits) (one (bales (sure x)) v ((λ k t. t), sound x) a),
      ap (λ (b : BaleSet). b.places.bits) (one (bales (possible x)) v (sound x, (λ k t. t)) a),
    )

abbrev pub three_ends : Group → Group → Group → Ends ℕ
three_ends x y z = record { sa = sure x; pa = possible x; sb = sure y; pb = possible y; sc = sure z; pc = possible z }

abbrev pub tells_three : Word → Group → Group → Group → GroupTell × GroupTell × GroupTell
tells_three w x y z =
    let t = told_sets w (three_ends x y z) in
    (told t.sa t.pa, told t.sb t.pb, told t.sc t.pc)

-- of two groups: the third is empty, and is let be
abbrev pub two_ends : Group → Group → Ends ℕ
two_ends x y = record { sa = sure x; pa = possible x; sb = sure y; pb = possible y; sc = 0; pc = 0 }

abbrev pub tells_two : Word → Group → Group → GroupTell × GroupTell
tells_two w x y =
    let t = told_sets w (two_ends x y) in
    (told t.sa t.pa, told t.sb t.pb)

module _ (w : Word) (g : Good w) where
  passes-three : (x y z : Group) (a b c : BaleSet) → Inside (values a b c) (told_sets w (three_ends x y z)) → Three GroupPasses (tells_three w x y z) a b c
  passes-three x y z a b c i = ((i.sa, i.pa), (i.sb, i.pb), (i.sc, i.pc))

  three-passes : (x y z : Group) (a b c : BaleSet) → Three GroupPasses (tells_three w x y z) a b c → Inside (values a b c) (told_sets w (three_ends x y z))
  three-passes x y z a b c p = record { sa = p.0.0; pa = p.0.1; sb = p.1.0; pb = p.1.1; sc = p.2.0; pc = p.2.1 }

  -- A WORD OF THREE GROUPS that is good at one place shows its laws
  pub three-carried : ThreeLaws GroupAllows group_height GroupPasses (tells_three w) (Says w)
  three-carried = record {
    monotone = λ x y z x' y' z' a b c i j k p q r h. passes-three x' y' z' a b c
        (inside-trans (values a b c) (told_sets w (three_ends x y z)) (told_sets w (three_ends x' y' z')) (three-passes x y z a b c h) (monotone w g (three_ends x' y' z') (three_ends x y z)
        (record { sa = lower-sure x x' i; pa = lower-possible x x' i; sb = lower-sure y y' j; pb = lower-possible y y' j; sc = lower-sure z z' k; pc = lower-possible z z' k })));
    keeps = λ x y z a b c p q r s. passes-three x y z a b c (keeps w g (three_ends x y z) a b c
        (record { sa = p.0; pa = p.1; sb = q.0; pb = q.1; sc = r.0; pc = r.1 }) s);
    exact = λ x y z a b c p q r hx hy hz h.
        let ex = single-ends x a p hx in let ey = single-ends y b q hy in let ez = single-ends z c r hz in
        let same : three_ends x y z ≡ values a b c = (λ i. record { sa = ex.0 i; pa = ex.1 i; sb = ey.0 i; pb = ey.1 i; sc = ez.0 i; pc = ez.1 i }) in
        exact w g a b c (subst (λ t. Inside (values a b c) (told_sets w t)) same (three-passes x y z a b c h));
  }

  module _ (gains : w.gain-c ≡ sure_c) (keeps-only : w.keep-c ≡ possible_c) where
    passes-two : (x y : Group) (a b : BaleSet) → Inside (values a b (bales 0)) (told_sets w (two_ends x y)) → Two GroupPasses GroupPasses (tells_two w x y) a b
    passes-two x y a b i = ((i.sa, i.pa), (i.sb, i.pb))

    two-passes : (x y : Group) (a b : BaleSet) → Two GroupPasses GroupPasses (tells_two w x y) a b → Inside (values a b (bales 0)) (told_sets w (two_ends x y))
    two-passes x y a b p = record { sa = p.0.0; pa = p.0.1; sb = p.1.0; pb = p.1.1; sc = rw gains (λ k t. t); pc = rw keeps-only (λ k t. t) }

    -- A WORD OF TWO GROUPS is one of three that lets the third be
    pub two-carried : TwoLaws GroupAllows group_height GroupPasses GroupAllows group_height GroupPasses (tells_two w) (λ a b. Says w a b (bales 0))
    two-carried = record {
      monotone = λ x y x' y' a b i j p q h. passes-two x' y' a b
          (inside-trans (values a b (bales 0)) (told_sets w (two_ends x y)) (told_sets w (two_ends x' y')) (two-passes x y a b h) (monotone w g (two_ends x' y') (two_ends x y)
          (record { sa = lower-sure x x' i; pa = lower-possible x x' i; sb = lower-sure y y' j; pb = lower-possible y y' j; sc = λ k t. t; pc = λ k t. t })));
      keeps = λ x y a b p q s. passes-two x y a b (keeps w g (two_ends x y) a b (bales 0)
          (record { sa = p.0; pa = p.1; sb = q.0; pb = q.1; sc = λ k t. t; pc = λ k t. t }) s);
      exact = λ x y a b p q hx hy h.
          let ex = single-ends x a p hx in let ey = single-ends y b q hy in
          let same : two_ends x y ≡ values a b (bales 0) = (λ i. record { sa = ex.0 i; pa = ex.1 i; sb = ey.0 i; pb = ey.1 i; sc = 0; pc = 0 }) in
          exact w g a b (bales 0) (subst (λ t. Inside (values a b (bales 0)) (told_sets w t)) same (two-passes x y a b h));
    }

-- ---- a relation in other words

pub two-said : {X U J Y V K : Type 0} {allows : X → U → Type 0} {height : X → ℕ} {passes : J → U → Type 0} {allows' : Y → V → Type 0} {height' : Y → ℕ} {passes' : K → V → Type 0}
    {f : X → Y → J × K} {holds says : U → V → Type 0} → TwoLaws allows height passes allows' height' passes' f says → ((a : U) (b : V) → holds a b → says a b) → ((a : U) (b : V) → says a b → holds a b) →
    TwoLaws allows height passes allows' height' passes' f holds
two-said l to from = record {
  monotone = l.monotone;
  keeps = λ x y a b p q h. l.keeps x y a b p q (to a b h);
  exact = λ x y a b p q hx hy h. from a b (l.exact x y a b p q hx hy h);
}

pub three-said : {X U J : Type 0} {allows : X → U → Type 0} {height : X → ℕ} {passes : J → U → Type 0}
    {f : X → X → X → J × J × J} {holds says : U → U → U → Type 0} → ThreeLaws allows height passes f says → ((a b c : U) → holds a b c → says a b c) → ((a b c : U) → says a b c → holds a b c) →
    ThreeLaws allows height passes f holds
three-said l to from = record {
  monotone = l.monotone;
  keeps = λ x y z a b c p q r h. l.keeps x y z a b c p q r (to a b c h);
  exact = λ x y z a b c p q r hx hy hz h. from a b c (l.exact x y z a b c p q r hx hy hz h);
}
