-- A table of weights that is filled place by place.
use Rattle.std.proofs.Common.{◌≡◌, ℕ, suc, ◌+◌, ◌-◌, ◌<◌, ◌≤◌, List, [], ◌∷◌, ◌++◌, length, get_or, take, set, replicate, sym, ap, ◌∙◌, append_assoc, arith}
use Rattle.std.proofs.lemmas.List.{length-map, length-take-le, map_more, set_at}
use Rattle.bales.specs.declared.list.Bale.{Bale}
use Rattle.bales.specs.Tables.{weights}

-- the weights of the first i bales, and 0 from there on
abbrev pub filled : List Bale → ℕ → List ℕ
filled bs i = weights (take i bs) ++ replicate (64 - i) 0

pub filled-more : (bs : List Bale) (i : ℕ) (d : Bale) → i < length bs → length bs ≤ 64 → set (filled bs i) i (get_or bs i d).weight.number ≡ filled bs (i + 1)
filled-more bs i d h m =
    let e : 64 - i ≡ suc (64 - (i + 1)) = omega arith in
    ap (λ n. set (weights (take i bs) ++ replicate n 0) i (get_or bs i d).weight.number) e
    ∙ set_at (weights (take i bs)) 0 (replicate (64 - (i + 1)) 0) (get_or bs i d).weight.number i (length-map (take i bs) _ ∙ length-take-le i bs (omega arith))
    ∙ sym (append_assoc (weights (take i bs)) ((get_or bs i d).weight.number ∷ []) (replicate (64 - (i + 1)) 0))
    ∙ ap (λ ws. ws ++ replicate (64 - (i + 1)) 0) (sym (map_more (λ b. b.weight.number) bs i d h))
