-- Propagators on one kind of cell, in rows of several kinds.
use Rattle.std.proofs.Common.{◌≡◌, ℕ, List, [], ◌∷◌, map, Some, None, Option, sym, refl, ◌∙◌, subst, ⊎_elim}
use Rattle.domain.specs.Laws.{Within}
use Rattle.std.proofs.lemmas.Option.{none-some, same_Some}
use Rattle.domain.specs.Options.{answered}
use Rattle.engine.specs.Rows.{Inside, Chosen, AllSingle}
use Rattle.engine.proofs.Operands.{AllPass, OperandLaws, parts, part_tells, PartHolds}
use Rattle.engine.specs.Parts.{PartLaws}
use Rattle.engine.proofs.Answered.{both-some}
use Rattle.engine.proofs.Rows.{inside-chosen}

module _ {C V K X U J : Type 0} {allows : C → V → Type 0} {height : C → ℕ} {passes : K → V → Type 0}
    {allows' : X → U → Type 0} {height' : X → ℕ} {passes' : J → U → Type 0}
    {part : C → Option X} {kin : V → Option U} {value : U → V} {tell : J → K}
    (laws : PartLaws allows height passes allows' height' passes' part kin value tell) where
  parts-chosen : (ps : List C) (vs : List V) (xs : List X) → Chosen allows ps vs → parts part ps ≡ Some xs → (us : List U) × (parts kin vs ≡ Some us) × Chosen allows' xs us
  parts-chosen [] [] xs c e = ([], refl, subst (λ ys. Chosen allows' ys []) (same_Some _ _ e) tt)
  parts-chosen [] (v ∷ vs) xs c e = absurd c
  parts-chosen (p ∷ ps) [] xs c e = absurd c
  parts-chosen (p ∷ ps) (v ∷ vs) xs c e =
      let t = both-some (part p) (parts part ps) xs e in
      let a = laws.some p t.0 v t.2 c.0 in
      let b = parts-chosen ps vs t.1 c.1 t.3 in
      let ea = a.1 in
      let eb = b.1 in
      (a.0 ∷ b.0, rw (ea, eb), subst (λ ys. Chosen allows' ys (a.0 ∷ b.0)) (sym t.4) (a.2, b.2))

  parts-past : (ps : List C) (vs : List V) → Chosen allows ps vs → parts part ps ≡ None → parts kin vs ≡ None
  parts-past [] vs c e = absurd (none-some _ (sym e))
  parts-past (p ∷ ps) [] c e = absurd c
  parts-past (p ∷ ps) (v ∷ vs) c e =
      ⊎_elim (λ n. let m = laws.none p v n c.0 in rw m)
      (λ (t : (x : X) × (part p ≡ Some x)).
      let it = t.1 in
      let a = laws.some p t.0 v it c.0 in
      let ea = a.1 in
      ⊎_elim (λ n. let m = parts-past ps vs c.1 n in rw (ea, m))
      (λ (s : (xs : List X) × (parts part ps ≡ Some xs)). let is = s.1 in absurd (none-some _ (sym (rw (it, is) at e))))
      (answered (parts part ps)))
      (answered (part p))

  pub part-within : (p q : C) (x y : X) → Within allows p q → part p ≡ Some x → part q ≡ Some y → Within allows' x y
  part-within p q x y w e f u a =
      let t = laws.some q y (value u) f (w (value u) (laws.whole p x u e a)) in
      subst (allows' y) (same_Some _ _ (sym t.1 ∙ laws.value-kin u)) t.2

  parts-inside : (ps qs : List C) (xs ys : List X) → Inside allows ps qs → parts part ps ≡ Some xs → parts part qs ≡ Some ys → Inside allows' xs ys
  parts-inside [] [] xs ys a e f = subst (λ Z. Inside allows' Z ys) (same_Some _ _ e) (subst (λ Z. Inside allows' [] Z) (same_Some _ _ f) tt)
  parts-inside [] (q ∷ qs) xs ys a e f = absurd a
  parts-inside (p ∷ ps) [] xs ys a e f = absurd a
  parts-inside (p ∷ ps) (q ∷ qs) xs ys a e f =
      let s = both-some (part p) (parts part ps) xs e in
      let t = both-some (part q) (parts part qs) ys f in
      subst (λ Z. Inside allows' Z ys) (sym s.4) (subst (λ Z. Inside allows' (s.0 ∷ s.1) Z) (sym t.4)
      (part-within p q s.0 t.0 a.0 s.2 t.2, parts-inside ps qs s.1 t.1 a.1 s.3 t.3))

  parts-singles : (ps : List C) (xs : List X) → AllSingle height ps → parts part ps ≡ Some xs → AllSingle height' xs
  parts-singles [] xs s e = subst (AllSingle height') (same_Some _ _ e) tt
  parts-singles (p ∷ ps) xs s e =
      let t = both-some (part p) (parts part ps) xs e in
      subst (AllSingle height') (sym t.4) (laws.single p t.0 t.2 s.0, parts-singles ps t.1 s.1 t.3)

  pass-map : (js : List J) (vs : List V) (us : List U) → parts kin vs ≡ Some us → AllPass passes' js us → AllPass passes (map tell js) vs
  pass-map [] vs us e h = tt
  pass-map (j ∷ js) [] us e h = tt
  pass-map (j ∷ js) (v ∷ vs) us e h =
      let t = both-some (kin v) (parts kin vs) us e in
      let h' : AllPass passes' (j ∷ js) (t.0 ∷ t.1) = subst (AllPass passes' (j ∷ js)) t.4 h in
      (laws.pass j v t.0 t.2 h'.0, pass-map js vs t.1 t.3 h'.1)

  map-pass : (js : List J) (vs : List V) (us : List U) → parts kin vs ≡ Some us → AllPass passes (map tell js) vs → AllPass passes' js us
  map-pass [] vs us e h = tt
  map-pass (j ∷ js) [] us e h = subst (AllPass passes' (j ∷ js)) (same_Some _ _ e) tt
  map-pass (j ∷ js) (v ∷ vs) us e h =
      let t = both-some (kin v) (parts kin vs) us e in
      subst (AllPass passes' (j ∷ js)) (sym t.4) (laws.passed j v t.0 t.2 h.0, map-pass js vs t.1 t.3 h.1)

  -- what is shown for operands of one kind holds in rows of several kinds
  pub part-word : {tells : List X → List J} {holds : List U → Type 0} → OperandLaws allows' height' passes' tells holds → OperandLaws allows height passes (part_tells part tell tells) (PartHolds kin holds)
  part-word {tells} {holds} operands = record {
    monotone = λ ps qs vs a c h.
        ⊎_elim (λ n. rw n tt)
        (λ (t : (ys : List X) × (parts part qs ≡ Some ys)).
        let et = t.1 in
        let b = parts-chosen qs vs t.0 (inside-chosen allows ps qs vs a c) et in
        ⊎_elim (λ n. absurd (none-some _ (sym (parts-past ps vs c n) ∙ b.1)))
        (λ (s : (xs : List X) × (parts part ps ≡ Some xs)).
        let es = s.1 in
        let d = parts-chosen ps vs s.0 c es in
        let same : d.0 ≡ b.0 = same_Some _ _ (sym d.1 ∙ b.1) in
        rw et (pass-map (tells t.0) vs b.0 b.1 (operands.monotone s.0 t.0 b.0 (parts-inside ps qs s.0 t.0 a es et) (subst (Chosen allows' s.0) same d.2)
        (map-pass (tells s.0) vs b.0 b.1 (rw es at h)))))
        (answered (parts part ps)))
        (answered (parts part qs));
    keeps = λ ps vs c m.
        ⊎_elim (λ n. rw n tt)
        (λ (s : (xs : List X) × (parts part ps ≡ Some xs)).
        let es = s.1 in
        let d = parts-chosen ps vs s.0 c es in
        let ed = d.1 in
        rw es (pass-map (tells s.0) vs d.0 ed (operands.keeps s.0 d.0 d.2 (rw ed at m))))
        (answered (parts part ps));
    exact = λ ps vs c o h.
        ⊎_elim (λ n. let m = parts-past ps vs c n in rw m tt)
        (λ (s : (xs : List X) × (parts part ps ≡ Some xs)).
        let es = s.1 in
        let d = parts-chosen ps vs s.0 c es in
        let ed = d.1 in
        rw ed (operands.exact s.0 d.0 d.2 (parts-singles ps s.0 o es) (map-pass (tells s.0) vs d.0 ed (rw es at h))))
        (answered (parts part ps));
  }
