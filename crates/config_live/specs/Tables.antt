-- What is known of the callees of a unit.
use Rattle.std.specs.Prelude.{◌≡◌, ◌<◌, ℕ, Bool, false, length, Some, None, slice_get}
use Rattle.exo_tree.specs.Tree.{Program}
use Rattle.meaning_laws.specs.UnitFields.{unit_live}
use Rattle.config_laws.specs.FieldRule.{is_listed}
use Rattle.config_laws.specs.Surely.{unit_surely}
use Rattle.config_laws.specs.Exits.{by_exit}
use Rattle.config_live.specs.declared.table.LiveTable.{LiveTable}

abbrev pub reads_first : LiveTable → ℕ → ℕ → Bool
reads_first table k f = elim (slice_get table.calls.items k) [
  | None ↦ false
  | Some c ↦ is_listed f c.read_first
]

abbrev pub writes_surely : LiveTable → ℕ → ℕ → Bool
writes_surely table k f = elim (slice_get table.calls.items k) [
  | None ↦ false
  | Some c ↦ is_listed f c.surely_written
]

-- whether a field is live before a call, by whether it is behind it
abbrev pub calls_in : LiveTable → ℕ → ℕ → Bool → Bool
calls_in table k f out = by_exit (reads_first table k f) (writes_surely table k f) out

-- of each procedure of the unit, the fields that it may read before it surely writes them,
-- and those that it surely writes
pub record IsLiveTable (unit : Program) (table : LiveTable) : Type 0 where
  pub read_first :
      (k f : ℕ) → f < length unit.fields
      → reads_first table k f ≡ unit_live unit.procedures k f false
  pub surely_written :
      (k f : ℕ) → f < length unit.fields
      → writes_surely table k f ≡ unit_surely unit.procedures k f
