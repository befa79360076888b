-- A fit lasts: the fields of a word stay free of fault, in rows of every kind of cell in which its operands' kinds sit.
use Rattle.std.specs.Prelude.{ℕ, Bool, List, [], ◌∷◌, Option}
use Rattle.domain.specs.Laws.{BoundsLaws}
use Rattle.engine.specs.declared.field.Field.{Field}
use Rattle.engine.specs.Telling.{named}
use Rattle.engine.specs.Parts.{PartLaws}
use Rattle.engine.specs.Fits.{FitLaws, cell_fields}
use Rattle.engine.proofs.Fitting.{cells-fit}
use Rattle.engine.proofs.Sorts.{kind-lasts}
use Rattle.words.specs.Fields.{field_at, two_fields, three_fields}

module _ {C V K X U J : Type 0} {allows : C → V → Type 0} {inside : C → C → Bool} {sample : C → V} {height : C → ℕ} {passes : K → V → Type 0}
    {allows' : X → U → Type 0} {height' : X → ℕ} {passes' : J → U → Type 0} {part : C → Option X} {kin : V → Option U} {value : U → V} {tell : J → K}
    (bounds : BoundsLaws allows sample inside) (kind : PartLaws allows height passes allows' height' passes' part kin value tell) where
  -- over one cell, and fields that do not look at the row
  pub one-fits : (i : ℕ) (fs : List Field) → FitLaws allows (named (i ∷ [])) (cell_fields (field_at part 3 i ∷ []) fs)
  one-fits i fs = cells-fit allows (field_at part 3 i ∷ []) fs (kind-lasts bounds kind, tt)

  -- over two cells
  pub two-fit : {Y W I : Type 0} {allows'' : Y → W → Type 0} {height'' : Y → ℕ} {passes'' : I → W → Type 0} {part' : C → Option Y} {kin' : V → Option W} {value' : W → V} {tell' : I → K} →
      PartLaws allows height passes allows'' height'' passes'' part' kin' value' tell' → (i j : ℕ) → FitLaws allows (named (i ∷ (j ∷ []))) (two_fields part part' i j)
  two-fit {part'} kind' i j = cells-fit allows (field_at part 3 i ∷ (field_at part' 4 j ∷ [])) [] (kind-lasts bounds kind, (kind-lasts bounds kind', tt))

  -- over three cells
  pub three-fit : (i j k : ℕ) → FitLaws allows (named (i ∷ (j ∷ (k ∷ [])))) (three_fields part i j k)
  three-fit i j k =
      let last = kind-lasts bounds kind in
      cells-fit allows (field_at part 3 i ∷ (field_at part 4 j ∷ (field_at part 5 k ∷ []))) [] (last, (last, (last, tt)))
