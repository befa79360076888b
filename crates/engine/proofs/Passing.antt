-- Rows that are told something: their choices are those of the old row that pass.
use Rattle.std.proofs.Common.{◌≡◌, ℕ, zero, suc, Bool, List, [], ◌∷◌, map, Some, None, Option, sym, ap, ◌∙◌, subst, ⊎_elim}
use Rattle.domain.specs.Laws.{BoundsLaws}
use Rattle.domain.specs.Tells.{TellLaws}
use Rattle.std.proofs.lemmas.Option.{none-some, same_Some}
use Rattle.domain.specs.Options.{answered}
use Rattle.engine.specs.Rows.{item, Chosen}
use Rattle.engine.specs.Telling.{told_at, told_all}
use Rattle.engine.proofs.Operands.{picked, AllPass}
use Rattle.engine.proofs.Answered.{head-told, tail-told, onward-some, both-some, headed-some, headed-none, tailed-some, tailed-none}
use Rattle.engine.proofs.Rows.{sample-chosen, chosen-inside, rows-same}

-- the value at place i passes k
abbrev pub PassesAt : {K V : Type 0} → (K → V → Type 0) → List V → ℕ → K → Type 0
PassesAt passes [] i k = Unit {0}
PassesAt passes (v ∷ vs) zero k = passes k v
PassesAt passes (v ∷ vs) (suc i) k = PassesAt passes vs i k

abbrev pub RowPasses : {K V : Type 0} → (K → V → Type 0) → List ℕ → List K → List V → Type 0
RowPasses passes [] ks vs = Unit {0}
RowPasses passes (i ∷ is) [] vs = Unit {0}
RowPasses passes (i ∷ is) (k ∷ ks) vs = PassesAt passes vs i k × RowPasses passes is ks vs

module _ {K V : Type 0} (passes : K → V → Type 0) where
  pass-at : (vs : List V) (i : ℕ) (k : K) (u : V) → item vs i ≡ Some u → passes k u → PassesAt passes vs i k
  pass-at [] i k u e h = tt
  pass-at (v ∷ vs) zero k u e h = subst (passes k) (sym (same_Some _ _ e)) h
  pass-at (v ∷ vs) (suc i) k u e h = pass-at vs i k u e h

  at-pass : (vs : List V) (i : ℕ) (k : K) (u : V) → item vs i ≡ Some u → PassesAt passes vs i k → passes k u
  at-pass [] i k u e h = absurd (none-some _ e)
  at-pass (v ∷ vs) zero k u e h = subst (passes k) (same_Some _ _ e) h
  at-pass (v ∷ vs) (suc i) k u e h = at-pass vs i k u e h

  pub row-pass : (vs : List V) (is : List ℕ) (ks : List K) (us : List V) → picked vs is ≡ Some us → AllPass passes ks us → RowPasses passes is ks vs
  row-pass vs [] ks us e h = tt
  row-pass vs (i ∷ is) [] us e h = tt
  row-pass vs (i ∷ is) (k ∷ ks) us e h =
      let t = both-some (item vs i) (picked vs is) us e in
      let h' : AllPass passes (k ∷ ks) (t.0 ∷ t.1) = subst (AllPass passes (k ∷ ks)) t.4 h in
      (pass-at vs i k t.0 t.2 h'.0, row-pass vs is ks t.1 t.3 h'.1)

  pub pass-row : (vs : List V) (is : List ℕ) (ks : List K) (us : List V) → picked vs is ≡ Some us → RowPasses passes is ks vs → AllPass passes ks us
  pass-row vs is [] us e h = tt
  pass-row vs [] (k ∷ ks) us e h = subst (AllPass passes (k ∷ ks)) (same_Some _ _ e) tt
  pass-row vs (i ∷ is) (k ∷ ks) us e h =
      let t = both-some (item vs i) (picked vs is) us e in
      subst (AllPass passes (k ∷ ks)) (sym t.4) (at-pass vs i k t.0 t.2 h.0, pass-row vs is ks t.1 t.3 h.1)

module _ {C V K : Type 0} {allows : C → V → Type 0} {passes : K → V → Type 0} {meet : K → C → Option C} (laws : TellLaws allows passes meet) where
  pub at-only : (P Q : List C) (i : ℕ) (k : K) (vs : List V) → told_at meet P i k ≡ Some Q → Chosen allows Q vs → Chosen allows P vs × PassesAt passes vs i k
  at-only [] Q i k [] e c = (tt, tt)
  at-only [] Q i k (v ∷ vs) e c = absurd (subst (λ X. Chosen allows X (v ∷ vs)) (sym (same_Some _ _ e)) c)
  at-only (p ∷ ps) Q zero k [] e c = let t = headed-some (meet k p) ps Q (sym (head-told meet p ps k) ∙ e) in absurd (subst (λ X. Chosen allows X []) (sym t.2) c)
  at-only (p ∷ ps) Q zero k (v ∷ vs) e c =
      let t = headed-some (meet k p) ps Q (sym (head-told meet p ps k) ∙ e) in
      let d : Chosen allows (t.0 ∷ ps) (v ∷ vs) = subst (λ X. Chosen allows X (v ∷ vs)) (sym t.2) c in
      ((laws.only k p t.0 t.1 v d.0, d.1), laws.passed k p t.0 t.1 v d.0)
  at-only (p ∷ ps) Q (suc i) k [] e c = let t = tailed-some p (told_at meet ps i k) Q (sym (tail-told meet p ps i k) ∙ e) in absurd (subst (λ X. Chosen allows X []) (sym t.2) c)
  at-only (p ∷ ps) Q (suc i) k (v ∷ vs) e c =
      let t = tailed-some p (told_at meet ps i k) Q (sym (tail-told meet p ps i k) ∙ e) in
      let d : Chosen allows (p ∷ t.0) (v ∷ vs) = subst (λ X. Chosen allows X (v ∷ vs)) (sym t.2) c in
      let r = at-only ps t.0 i k vs t.1 d.1 in
      ((d.0, r.0), r.1)

  at-each : (P Q : List C) (i : ℕ) (k : K) (vs : List V) → told_at meet P i k ≡ Some Q → Chosen allows P vs → PassesAt passes vs i k → Chosen allows Q vs
  at-each [] Q i k vs e c h = subst (λ X. Chosen allows X vs) (same_Some _ _ e) c
  at-each (p ∷ ps) Q i k [] e c h = absurd c
  at-each (p ∷ ps) Q zero k (v ∷ vs) e c h =
      let t = headed-some (meet k p) ps Q (sym (head-told meet p ps k) ∙ e) in
      subst (λ X. Chosen allows X (v ∷ vs)) t.2 (laws.each k p t.0 t.1 v c.0 h, c.1)
  at-each (p ∷ ps) Q (suc i) k (v ∷ vs) e c h =
      let t = tailed-some p (told_at meet ps i k) Q (sym (tail-told meet p ps i k) ∙ e) in
      subst (λ X. Chosen allows X (v ∷ vs)) t.2 (c.0, at-each ps t.0 i k vs t.1 c.1 h)

  at-none : (P : List C) (i : ℕ) (k : K) (vs : List V) → told_at meet P i k ≡ None → Chosen allows P vs → PassesAt passes vs i k → ⊥
  at-none [] i k vs e c h = none-some _ (sym e)
  at-none (p ∷ ps) i k [] e c h = c
  at-none (p ∷ ps) zero k (v ∷ vs) e c h = laws.none k p (headed-none (meet k p) ps (sym (head-told meet p ps k) ∙ e)) v c.0 h
  at-none (p ∷ ps) (suc i) k (v ∷ vs) e c h = at-none ps i k vs (tailed-none p (told_at meet ps i k) (sym (tail-told meet p ps i k) ∙ e)) c.1 h

  pub all-only : (is : List ℕ) (ks : List K) (P Q : List C) (vs : List V) → told_all meet is ks P ≡ Some Q → Chosen allows Q vs → Chosen allows P vs × RowPasses passes is ks vs
  all-only [] ks P Q vs e c = (subst (λ X. Chosen allows X vs) (sym (same_Some _ _ e)) c, tt)
  all-only (i ∷ is) [] P Q vs e c = (subst (λ X. Chosen allows X vs) (sym (same_Some _ _ e)) c, tt)
  all-only (i ∷ is) (k ∷ ks) P Q vs e c =
      let t = onward-some (told_at meet P i k) (told_all meet is ks) Q e in
      let r = all-only is ks t.0 Q vs t.2 c in
      let s = at-only P t.0 i k vs t.1 r.0 in
      (s.0, (s.1, r.1))

  pub all-each : (is : List ℕ) (ks : List K) (P Q : List C) (vs : List V) → told_all meet is ks P ≡ Some Q → Chosen allows P vs → RowPasses passes is ks vs → Chosen allows Q vs
  all-each [] ks P Q vs e c h = subst (λ X. Chosen allows X vs) (same_Some _ _ e) c
  all-each (i ∷ is) [] P Q vs e c h = subst (λ X. Chosen allows X vs) (same_Some _ _ e) c
  all-each (i ∷ is) (k ∷ ks) P Q vs e c h =
      let t = onward-some (told_at meet P i k) (told_all meet is ks) Q e in
      all-each is ks t.0 Q vs t.2 (at-each P t.0 i k vs t.1 c h.0) h.1

  pub all-none : (is : List ℕ) (ks : List K) (P : List C) (vs : List V) → told_all meet is ks P ≡ None → Chosen allows P vs → RowPasses passes is ks vs → ⊥
  all-none [] ks P vs e c h = none-some _ (sym e)
  all-none (i ∷ is) [] P vs e c h = none-some _ (sym e)
  all-none (i ∷ is) (k ∷ ks) P vs e c h =
      ⊎_elim (λ n. at-none P i k vs n c h.0)
      (λ (t : (X : List C) × (told_at meet P i k ≡ Some X)). let m = t.1 in all-none is ks t.0 vs (rw m at e) (at-each P t.0 i k vs m c h.0) h.1)
      (answered (told_at meet P i k))

-- ---- The answer depends only on which choices pass, so neither on the order of the tells nor on how they are divided

module _ {C V K : Type 0} {allows : C → V → Type 0} {inside : C → C → Bool} {sample : C → V} {passes : K → V → Type 0} {meet : K → C → Option C}
    (bounds : BoundsLaws allows sample inside) (kin : TellLaws allows passes meet) where
  one-way : (is js : List ℕ) (ks ls : List K) (P Q : List C) → ((vs : List V) → RowPasses passes is ks vs → RowPasses passes js ls vs) → ((vs : List V) → RowPasses passes js ls vs → RowPasses passes is ks vs) →
      told_all meet is ks P ≡ Some Q → told_all meet js ls P ≡ Some Q
  one-way is js ks ls P Q f g e =
      ⊎_elim (λ n. let c = sample-chosen allows bounds.some Q in let a = all-only kin is ks P Q (map sample Q) e c in absurd (all-none kin js ls P (map sample Q) n a.0 (f (map sample Q) a.1)))
      (λ (t : (R : List C) × (told_all meet js ls P ≡ Some R)). t.1 ∙ ap Some (rows-same bounds t.0 Q
      (chosen-inside allows bounds.some t.0 Q (λ vs c. let a = all-only kin js ls P t.0 vs t.1 c in all-each kin is ks P Q vs e a.0 (g vs a.1)))
      (chosen-inside allows bounds.some Q t.0 (λ vs c. let a = all-only kin is ks P Q vs e c in all-each kin js ls P t.0 vs t.1 a.0 (f vs a.1)))))
      (answered (told_all meet js ls P))

  pub all-same : (is js : List ℕ) (ks ls : List K) (P : List C) → ((vs : List V) → RowPasses passes is ks vs → RowPasses passes js ls vs) → ((vs : List V) → RowPasses passes js ls vs → RowPasses passes is ks vs) →
      told_all meet is ks P ≡ told_all meet js ls P
  all-same is js ks ls P f g =
      ⊎_elim (λ n. ⊎_elim (λ m. n ∙ sym m) (λ (t : (R : List C) × (told_all meet js ls P ≡ Some R)). absurd (none-some _ (sym n ∙ one-way js is ls ks P t.0 g f t.1))) (answered (told_all meet js ls P)))
      (λ (t : (R : List C) × (told_all meet is ks P ≡ Some R)). t.1 ∙ sym (one-way is js ks ls P t.0 f g t.1))
      (answered (told_all meet is ks P))

  pub all-swap : (i j : ℕ) (k l : K) (is : List ℕ) (ks : List K) (P : List C) → told_all meet (i ∷ (j ∷ is)) (k ∷ (l ∷ ks)) P ≡ told_all meet (j ∷ (i ∷ is)) (l ∷ (k ∷ ks)) P
  all-swap i j k l is ks P = all-same (i ∷ (j ∷ is)) (j ∷ (i ∷ is)) (k ∷ (l ∷ ks)) (l ∷ (k ∷ ks)) P (λ vs h. (h.1.0, (h.0, h.1.1))) (λ vs h. (h.1.0, (h.0, h.1.1)))

  -- a cell named twice takes both tells at once, where m is passed by what passes k and l
  module _ (k l m : K) (apart : (v : V) → passes m v → passes k v × passes l v) (together : (v : V) → passes k v → passes l v → passes m v) where
    at-apart : (vs : List V) (i : ℕ) → PassesAt passes vs i m → PassesAt passes vs i k × PassesAt passes vs i l
    at-apart [] i h = (tt, tt)
    at-apart (v ∷ vs) zero h = apart v h
    at-apart (v ∷ vs) (suc i) h = at-apart vs i h

    at-together : (vs : List V) (i : ℕ) → PassesAt passes vs i k → PassesAt passes vs i l → PassesAt passes vs i m
    at-together [] i g h = tt
    at-together (v ∷ vs) zero g h = together v g h
    at-together (v ∷ vs) (suc i) g h = at-together vs i g h

    pub all-join : (i : ℕ) (is : List ℕ) (ks : List K) (P : List C) → told_all meet (i ∷ (i ∷ is)) (k ∷ (l ∷ ks)) P ≡ told_all meet (i ∷ is) (m ∷ ks) P
    all-join i is ks P = all-same (i ∷ (i ∷ is)) (i ∷ is) (k ∷ (l ∷ ks)) (m ∷ ks) P
        (λ vs h. (at-together vs i h.0 h.1.0, h.1.1)) (λ vs h. let t = at-apart vs i h.0 in (t.0, (t.1, h.1)))
