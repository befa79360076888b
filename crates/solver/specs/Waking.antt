-- Which rules wait when a cell or a rule has changed something. Rule number k, counted from 0, is place k + 1 of a set.
use Rattle.std.specs.Prelude.{◌≡◌, ℕ, ◌<◌, Bool, true, false, T, List, length, Some, None, Option, slice_index_or}
use Rattle.places.specs.Members.{has}
use Rattle.places.specs.declared.PlaceSet.{PlaceSet}
use Rattle.engine.specs.Rows.{item}

-- does the rule, if there is one, name the cell?
abbrev pub named_by : {R : Type 0} → (R → ℕ → Bool) → ℕ → Option R → Bool
named_by names cell None = false
named_by names cell (Some r) = names r cell

-- the set of the rules that name the cell
abbrev pub Namers : {R : Type 0} → (R → ℕ → Bool) → List R → ℕ → ℕ → Type 0
Namers names rules cell set = (k : ℕ) → has k set ≡ named_by names cell (item rules k)

-- a set of rules, with each that names one of the first cells that r names
pub record Sharers {R : Type 0} (names : R → ℕ → Bool) (rules : List R) (cells : ℕ) (r : R) (set : ℕ) : Type 0 where
  pub only : (k : ℕ) → T (has k set) → k < length rules
  pub each : (k i : ℕ) (s : R) → item rules k ≡ Some s → i < cells → names r i ≡ true → names s i ≡ true → T (has k set)

-- the set that stands at place k of a table; past its end, none
abbrev pub set_at : List PlaceSet → ℕ → ℕ
set_at table k = (slice_index_or table k (record { bits = 0 })).bits

module _ {R : Type 0} (names : R → ℕ → Bool) (rules : List R) (cells : ℕ) where
  -- the table of cells says who names a cell below 64
  abbrev pub CellTable : List PlaceSet → Type 0
  CellTable table = (cell : ℕ) → cell < cells → cell < 64 → Namers names rules cell (set_at table cell)

  -- the table of rules says who shares a cell with a rule
  abbrev pub RuleTable : List PlaceSet → Type 0
  RuleTable table = (k : ℕ) (r : R) → item rules k ≡ Some r → Sharers names rules cells r (set_at table k)
