-- Propagators of one, two and three operands as propagators on lists of operands.
use Rattle.std.proofs.Common.{◌≡◌, ℕ, ◌⊎◌, List, [], ◌∷◌, Some, None, Option, sym, ◌∙◌, subst, inl, inr, ⊎_elim}
use Rattle.std.proofs.lemmas.Option.{none-some, same_Some}
use Rattle.domain.specs.Options.{answered}
use Rattle.engine.specs.Rows.{Inside, Chosen, AllSingle}
use Rattle.engine.specs.Parts.{PartLaws}
use Rattle.engine.specs.Arity.{ThreeLaws, Two, TwoLaws, OneLaws}
use Rattle.engine.proofs.Operands.{AllPass, OperandLaws, one_tells, told_two, two_tells, three_tells, OneHeld, HeldTwo, TwoHeld, ThreeHeld}
use Rattle.engine.proofs.Parts.{part-within}

module _ {X U J : Type 0} {allows : X → U → Type 0} {height : X → ℕ} {passes : J → U → Type 0} {f : X → X → X → J × J × J} {holds : U → U → U → Type 0} (laws : ThreeLaws allows height passes f holds) where
  three-monotone : (xs ys : List X) (us : List U) → Inside allows xs ys → Chosen allows xs us → AllPass passes (three_tells f xs) us → AllPass passes (three_tells f ys) us
  three-monotone xs [] us a c h = tt
  three-monotone xs (x' ∷ []) us a c h = tt
  three-monotone xs (x' ∷ (y' ∷ [])) us a c h = tt
  three-monotone xs (x' ∷ (y' ∷ (z' ∷ (w' ∷ ws)))) us a c h = tt
  three-monotone [] (x' ∷ (y' ∷ (z' ∷ []))) us a c h = absurd a
  three-monotone (x ∷ []) (x' ∷ (y' ∷ (z' ∷ []))) us a c h = absurd a.1
  three-monotone (x ∷ (y ∷ [])) (x' ∷ (y' ∷ (z' ∷ []))) us a c h = absurd a.1.1
  three-monotone (x ∷ (y ∷ (z ∷ (w ∷ ws)))) (x' ∷ (y' ∷ (z' ∷ []))) us a c h = absurd a.1.1.1
  three-monotone (x ∷ (y ∷ (z ∷ []))) (x' ∷ (y' ∷ (z' ∷ []))) [] a c h = absurd c
  three-monotone (x ∷ (y ∷ (z ∷ []))) (x' ∷ (y' ∷ (z' ∷ []))) (u ∷ []) a c h = absurd c.1
  three-monotone (x ∷ (y ∷ (z ∷ []))) (x' ∷ (y' ∷ (z' ∷ []))) (u ∷ (v ∷ [])) a c h = absurd c.1.1
  three-monotone (x ∷ (y ∷ (z ∷ []))) (x' ∷ (y' ∷ (z' ∷ []))) (u ∷ (v ∷ (w ∷ (t ∷ ts)))) a c h = absurd c.1.1.1
  three-monotone (x ∷ (y ∷ (z ∷ []))) (x' ∷ (y' ∷ (z' ∷ []))) (u ∷ (v ∷ (w ∷ []))) a c h =
      let r = laws.monotone x y z x' y' z' u v w a.0 a.1.0 a.1.1.0 c.0 c.1.0 c.1.1.0 (h.0, h.1.0, h.1.1.0) in (r.0, (r.1, (r.2, tt)))

  three-keeps : (xs : List X) (us : List U) → Chosen allows xs us → ThreeHeld holds us → AllPass passes (three_tells f xs) us
  three-keeps [] us c h = tt
  three-keeps (x ∷ []) us c h = tt
  three-keeps (x ∷ (y ∷ [])) us c h = tt
  three-keeps (x ∷ (y ∷ (z ∷ (w ∷ ws)))) us c h = tt
  three-keeps (x ∷ (y ∷ (z ∷ []))) [] c h = absurd c
  three-keeps (x ∷ (y ∷ (z ∷ []))) (u ∷ []) c h = absurd c.1
  three-keeps (x ∷ (y ∷ (z ∷ []))) (u ∷ (v ∷ [])) c h = absurd c.1.1
  three-keeps (x ∷ (y ∷ (z ∷ []))) (u ∷ (v ∷ (w ∷ (t ∷ ts)))) c h = absurd c.1.1.1
  three-keeps (x ∷ (y ∷ (z ∷ []))) (u ∷ (v ∷ (w ∷ []))) c h = let r = laws.keeps x y z u v w c.0 c.1.0 c.1.1.0 h in (r.0, (r.1, (r.2, tt)))

  three-exact : (xs : List X) (us : List U) → Chosen allows xs us → AllSingle height xs → AllPass passes (three_tells f xs) us → ThreeHeld holds us
  three-exact xs [] c s h = tt
  three-exact xs (u ∷ []) c s h = tt
  three-exact xs (u ∷ (v ∷ [])) c s h = tt
  three-exact xs (u ∷ (v ∷ (w ∷ (t ∷ ts)))) c s h = tt
  three-exact [] (u ∷ (v ∷ (w ∷ []))) c s h = absurd c
  three-exact (x ∷ []) (u ∷ (v ∷ (w ∷ []))) c s h = absurd c.1
  three-exact (x ∷ (y ∷ [])) (u ∷ (v ∷ (w ∷ []))) c s h = absurd c.1.1
  three-exact (x ∷ (y ∷ (z ∷ (t ∷ ts)))) (u ∷ (v ∷ (w ∷ []))) c s h = absurd c.1.1.1
  three-exact (x ∷ (y ∷ (z ∷ []))) (u ∷ (v ∷ (w ∷ []))) c s h = laws.exact x y z u v w c.0 c.1.0 c.1.1.0 s.0 s.1.0 s.1.1.0 (h.0, h.1.0, h.1.1.0)

  pub three-word : OperandLaws allows height passes (three_tells f) (ThreeHeld holds)
  three-word = record { monotone = three-monotone; keeps = three-keeps; exact = three-exact }

module _ {C W L X U J Y V K : Type 0} {allows : C → W → Type 0} {height : C → ℕ} {passes : L → W → Type 0}
    {allows' : X → U → Type 0} {height' : X → ℕ} {passes' : J → U → Type 0} {part : C → Option X} {kin : W → Option U} {value : U → W} {tell : J → L}
    {allows'' : Y → V → Type 0} {height'' : Y → ℕ} {passes'' : K → V → Type 0} {part' : C → Option Y} {kin' : W → Option V} {value' : V → W} {tell' : K → L}
    {f : X → Y → J × K} {holds : U → V → Type 0}
    (one : PartLaws allows height passes allows' height' passes' part kin value tell) (two : PartLaws allows height passes allows'' height'' passes'' part' kin' value' tell')
    (laws : TwoLaws allows' height' passes' allows'' height'' passes'' f holds) where
  -- both operands are of their sorts, or nothing is told and nothing said
  sorts : (p q : C) (v w : W) → allows p v → allows q w →
      ((told_two tell tell' f (part p) (part' q) ≡ []) × HeldTwo holds (kin v) (kin' w)) ⊎
      ((x : X) × (y : Y) × (a : U) × (b : V) × (part p ≡ Some x) × (part' q ≡ Some y) × (kin v ≡ Some a) × (kin' w ≡ Some b) × allows' x a × allows'' y b)
  sorts p q v w c d =
      ⊎_elim (λ n. let m = one.none p v n c in inl (rw n, rw m tt))
      (λ (s : (x : X) × (part p ≡ Some x)).
      let es = s.1 in
      let a = one.some p s.0 v es c in
      let ea = a.1 in
      ⊎_elim (λ n. let m = two.none q w n d in inl (rw (es, n), rw (ea, m) tt))
      (λ (t : (y : Y) × (part' q ≡ Some y)).
      let b = two.some q t.0 w t.1 d in
      inr (s.0, t.0, a.0, b.0, es, t.1, ea, b.1, a.2, b.2))
      (answered (part' q)))
      (answered (part p))

  -- the values pass where the parts do, and the other way round
  over : (p q : C) (v w : W) (x : X) (y : Y) (a : U) (b : V) → part p ≡ Some x → part' q ≡ Some y → kin v ≡ Some a → kin' w ≡ Some b → Two passes' passes'' (f x y) a b → AllPass passes (told_two tell tell' f (part p) (part' q)) (v ∷ (w ∷ []))
  over p q v w x y a b e e' g g' h = rw (e, e') (one.pass (f x y).0 v a g h.0, (two.pass (f x y).1 w b g' h.1, tt))

  under : (p q : C) (v w : W) (x : X) (y : Y) (a : U) (b : V) → part p ≡ Some x → part' q ≡ Some y → kin v ≡ Some a → kin' w ≡ Some b → AllPass passes (told_two tell tell' f (part p) (part' q)) (v ∷ (w ∷ [])) → Two passes' passes'' (f x y) a b
  under p q v w x y a b e e' g g' h = let k = rw (e, e') at h in (one.passed (f x y).0 v a g k.0, two.passed (f x y).1 w b g' k.1.0)

  abbrev two-tells : List C → List L
  two-tells = two_tells part part' tell tell' f

  two-monotone : (ps qs : List C) (us : List W) → Inside allows ps qs → Chosen allows ps us → AllPass passes (two-tells ps) us → AllPass passes (two-tells qs) us
  two-monotone ps [] us i c h = tt
  two-monotone ps (q ∷ []) us i c h = tt
  two-monotone ps (q ∷ (r ∷ (s ∷ ss))) us i c h = tt
  two-monotone [] (q ∷ (r ∷ [])) us i c h = absurd i
  two-monotone (p ∷ []) (q ∷ (r ∷ [])) us i c h = absurd i.1
  two-monotone (p ∷ (o ∷ (s ∷ ss))) (q ∷ (r ∷ [])) us i c h = absurd i.1.1
  two-monotone (p ∷ (o ∷ [])) (q ∷ (r ∷ [])) [] i c h = absurd c
  two-monotone (p ∷ (o ∷ [])) (q ∷ (r ∷ [])) (v ∷ []) i c h = absurd c.1
  two-monotone (p ∷ (o ∷ [])) (q ∷ (r ∷ [])) (v ∷ (w ∷ (z ∷ zs))) i c h = absurd c.1.1
  two-monotone (p ∷ (o ∷ [])) (q ∷ (r ∷ [])) (v ∷ (w ∷ [])) i c h =
      ⊎_elim (λ n. let e = n.0 in rw e tt)
      (λ t. let (x', y', a, b, e, e', g, g', m, m') = t in
      ⊎_elim (λ (n : (part p ≡ None) ⊎ (part' o ≡ None)). ⊎_elim (λ z. absurd (none-some _ (sym (one.none p v z c.0) ∙ g))) (λ z. absurd (none-some _ (sym (two.none o w z c.1.0) ∙ g'))) n)
      (λ (s : (x : X) × (y : Y) × (part p ≡ Some x) × (part' o ≡ Some y)).
      let k = one.some p s.0 v s.2 c.0 in
      let l = two.some o s.1 w s.3 c.1.0 in
      let k' : allows' s.0 a = subst (allows' s.0) (same_Some _ _ (sym k.1 ∙ g)) k.2 in
      let l' : allows'' s.1 b = subst (allows'' s.1) (same_Some _ _ (sym l.1 ∙ g')) l.2 in
      over q r v w x' y' a b e e' g g' (laws.monotone s.0 s.1 x' y' a b (part-within one p q s.0 x' i.0 s.2 e) (part-within two o r s.1 y' i.1.0 s.3 e') k' l'
      (under p o v w s.0 s.1 a b s.2 s.3 g g' h)))
      (⊎_elim (λ z. inl (inl z)) (λ (s : (x : X) × (part p ≡ Some x)). ⊎_elim (λ z. inl (inr z)) (λ (u : (y : Y) × (part' o ≡ Some y)). inr (s.0, u.0, s.1, u.1)) (answered (part' o))) (answered (part p))))
      (sorts q r v w (i.0 v c.0) (i.1.0 w c.1.0))

  two-keeps : (ps : List C) (us : List W) → Chosen allows ps us → TwoHeld kin kin' holds us → AllPass passes (two-tells ps) us
  two-keeps [] us c h = tt
  two-keeps (p ∷ []) us c h = tt
  two-keeps (p ∷ (q ∷ (r ∷ rs))) us c h = tt
  two-keeps (p ∷ (q ∷ [])) [] c h = absurd c
  two-keeps (p ∷ (q ∷ [])) (v ∷ []) c h = absurd c.1
  two-keeps (p ∷ (q ∷ [])) (v ∷ (w ∷ (x ∷ xs))) c h = absurd c.1.1
  two-keeps (p ∷ (q ∷ [])) (v ∷ (w ∷ [])) c h =
      ⊎_elim (λ n. let e = n.0 in rw e tt)
      (λ t. let (x, y, a, b, e, e', g, g', m, m') = t in over p q v w x y a b e e' g g' (laws.keeps x y a b m m' (rw (g, g') at h)))
      (sorts p q v w c.0 c.1.0)

  two-exact : (ps : List C) (us : List W) → Chosen allows ps us → AllSingle height ps → AllPass passes (two-tells ps) us → TwoHeld kin kin' holds us
  two-exact ps [] c s h = tt
  two-exact ps (v ∷ []) c s h = tt
  two-exact ps (v ∷ (w ∷ (x ∷ xs))) c s h = tt
  two-exact [] (v ∷ (w ∷ [])) c s h = absurd c
  two-exact (p ∷ []) (v ∷ (w ∷ [])) c s h = absurd c.1
  two-exact (p ∷ (q ∷ (r ∷ rs))) (v ∷ (w ∷ [])) c s h = absurd c.1.1
  two-exact (p ∷ (q ∷ [])) (v ∷ (w ∷ [])) c s h =
      ⊎_elim (λ (n : (told_two tell tell' f (part p) (part' q) ≡ []) × HeldTwo holds (kin v) (kin' w)). n.1)
      (λ t. let (x, y, a, b, e, e', g, g', m, m') = t in rw (g, g') (laws.exact x y a b m m' (one.single p x e s.0) (two.single q y e' s.1.0) (under p q v w x y a b e e' g g' h)))
      (sorts p q v w c.0 c.1.0)

  pub two-word : OperandLaws allows height passes two-tells (TwoHeld kin kin' holds)
  two-word = record { monotone = two-monotone; keeps = two-keeps; exact = two-exact }

module _ {C W L X U J : Type 0} {allows : C → W → Type 0} {height : C → ℕ} {passes : L → W → Type 0}
    {allows' : X → U → Type 0} {height' : X → ℕ} {passes' : J → U → Type 0} {part : C → Option X} {kin : W → Option U} {value : U → W} {tell : J → L}
    {f : X → J} {holds : U → Type 0}
    (one : PartLaws allows height passes allows' height' passes' part kin value tell) (laws : OneLaws allows' height' passes' f holds) where
  abbrev one-tells : List C → List L
  one-tells = one_tells part tell f

  one-monotone : (ps qs : List C) (us : List W) → Inside allows ps qs → Chosen allows ps us → AllPass passes (one-tells ps) us → AllPass passes (one-tells qs) us
  one-monotone ps [] us i c h = tt
  one-monotone ps (q ∷ (r ∷ rs)) us i c h = tt
  one-monotone [] (q ∷ []) us i c h = absurd i
  one-monotone (p ∷ (o ∷ os)) (q ∷ []) us i c h = absurd i.1
  one-monotone (p ∷ []) (q ∷ []) [] i c h = absurd c
  one-monotone (p ∷ []) (q ∷ []) (v ∷ (w ∷ ws)) i c h = absurd c.1
  one-monotone (p ∷ []) (q ∷ []) (v ∷ []) i c h =
      ⊎_elim (λ n. rw n tt)
      (λ (t : (y : X) × (part q ≡ Some y)).
      let et = t.1 in
      let b = one.some q t.0 v et (i.0 v c.0) in
      ⊎_elim (λ n. absurd (none-some _ (sym (one.none p v n c.0) ∙ b.1)))
      (λ (s : (x : X) × (part p ≡ Some x)).
      let es = s.1 in
      let a = one.some p s.0 v es c.0 in
      let k = rw es at h in
      let m : allows' s.0 b.0 = subst (allows' s.0) (same_Some _ _ (sym a.1 ∙ b.1)) a.2 in
      rw et (one.pass (f t.0) v b.0 b.1 (laws.monotone s.0 t.0 b.0 (part-within one p q s.0 t.0 i.0 es et) m (one.passed (f s.0) v b.0 b.1 k.0)), tt))
      (answered (part p)))
      (answered (part q))

  one-keeps : (ps : List C) (us : List W) → Chosen allows ps us → OneHeld kin holds us → AllPass passes (one-tells ps) us
  one-keeps [] us c h = tt
  one-keeps (p ∷ (q ∷ qs)) us c h = tt
  one-keeps (p ∷ []) [] c h = absurd c
  one-keeps (p ∷ []) (v ∷ (w ∷ ws)) c h = absurd c.1
  one-keeps (p ∷ []) (v ∷ []) c h =
      ⊎_elim (λ n. rw n tt)
      (λ (s : (x : X) × (part p ≡ Some x)).
      let es = s.1 in
      let a = one.some p s.0 v es c.0 in
      let ea = a.1 in
      rw es (one.pass (f s.0) v a.0 ea (laws.keeps s.0 a.0 a.2 (rw ea at h)), tt))
      (answered (part p))

  one-exact : (ps : List C) (us : List W) → Chosen allows ps us → AllSingle height ps → AllPass passes (one-tells ps) us → OneHeld kin holds us
  one-exact ps [] c o h = tt
  one-exact ps (v ∷ (w ∷ ws)) c o h = tt
  one-exact [] (v ∷ []) c o h = absurd c
  one-exact (p ∷ (q ∷ qs)) (v ∷ []) c o h = absurd c.1
  one-exact (p ∷ []) (v ∷ []) c o h =
      ⊎_elim (λ n. let m = one.none p v n c.0 in rw m tt)
      (λ (s : (x : X) × (part p ≡ Some x)).
      let es = s.1 in
      let a = one.some p s.0 v es c.0 in
      let ea = a.1 in
      let k = rw es at h in
      rw ea (laws.exact s.0 a.0 a.2 (one.single p s.0 es o.0) (one.passed (f s.0) v a.0 ea k.0)))
      (answered (part p))

  pub one-word : OperandLaws allows height passes one-tells (OneHeld kin holds)
  one-word = record { monotone = one-monotone; keeps = one-keeps; exact = one-exact }
