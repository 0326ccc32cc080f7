-- The tables of all procedures of a unit that steps on one of them look into.
use Rattle.std.specs.Prelude.{◌≡◌, length}
use Rattle.exo_tree.specs.PlainUnit.{program}
use Rattle.exo_modes.specs.Marks.{modes_of}
use Rattle.exo_modes.specs.Seen.{table_says}
use Rattle.meaning_laws.specs.UnitFields.{unit_writes}
use Rattle.config_state.specs.FieldSets.{IsTable}
use Rattle.step_driver.specs.declared.target.Target.{Target}

-- the tables are those of the unit
pub record HasTables (t : Target) : Type 0 where
  pub modes : table_says t.modes.now ≡ modes_of (program t.unit.now)
  pub writes :
      IsTable (length (program t.unit.now).fields) (unit_writes (program t.unit.now).procedures)
      t.writes.now
