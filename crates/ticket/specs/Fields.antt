-- The fields that follow a comma.
use Rattle.std.specs.Prelude.{◌≡◌, ℕ, ◌+◌, List, [], Some, None, Option, slice_index_or}
use Rattle.std.specs.Option.{option_map}
use Rattle.ticket.specs.declared.fields.Fields.{Fields}
use Rattle.text.specs.Parts.{parts_of}

-- the fields of what follows a comma, and none where no comma is left
abbrev pub following : Option (List ℕ) → List (List ℕ)
following None = []
following (Some s) = parts_of 44 s

-- gs are the fields of fs after its first; past the end of either, a field is empty
abbrev pub After : List (List ℕ) → List (List ℕ) → Type 0
After fs gs = (k : ℕ) → slice_index_or gs k [] ≡ slice_index_or fs (k + 1) []

-- the fields that are still to be read
abbrev pub ahead : Fields → List (List ℕ)
ahead f = following (option_map (λ x. x.now) f.rest)

-- the first field was taken
pub record Took (before after : Fields) : Type 0 where
  pub line : after.line ≡ before.line
  pub rest : After (ahead before) (ahead after)
