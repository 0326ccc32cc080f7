-- By what the needs of a procedure are told.
use Rattle.std.specs.Prelude.{◌≡◌, ◌<◌, true, length}
use Rattle.exo_tree.specs.Tree.{Procedure, Program}
use Rattle.exo_tree.specs.PlainProcedure.{procedure}
use Rattle.exo_tree.specs.PlainUnit.{program}
use Rattle.exo_meaning.specs.Run.{program_world}
use Rattle.exo_meaning.specs.Units.{field_kind, IsProcedure}
use Rattle.exo_modes.specs.Marks.{modes_of}
use Rattle.exo_modes.specs.Seen.{table_says}
use Rattle.meaning_laws.specs.UnitFields.{unit_writes}
use Rattle.config_state.specs.FieldSets.{IsTable}
use Rattle.affine_places.specs.Roots.{roots_of}
use Rattle.affine_places.specs.Seen.{roots_in}
use Rattle.check_facts.specs.Contexts.{may_be_walked}
use Rattle.text_show.specs.Seen.{words_in}
use Rattle.text_show.specs.Words.{words_of}
use Rattle.step_driver.specs.declared.needs.site.NeedSite.{NeedSite}

-- a well-formed procedure of a unit that has no more fields than numbers
pub record IsWell (it : Program × Procedure) : Type 0 where
  pub few : length it.0.fields < 4294967296
  pub walks : may_be_walked it.1 ≡ true
  pub well :
      IsProcedure (field_kind it.0.fields) (length it.0.memories) (program_world it.0).callees it.1

abbrev pub seen : NeedSite → Program × Procedure
seen s = (program s.unit.now, procedure s.proc.now)

-- the tables are those of the procedure and its unit
pub record IsSite (s : NeedSite) : Type 0 where
  pub well : IsWell (seen s)
  pub modes : table_says s.modes.now ≡ modes_of (program s.unit.now)
  pub roots : roots_in s.roots.now ≡ roots_of (procedure s.proc.now)
  pub writes :
      IsTable (length (program s.unit.now).fields) (unit_writes (program s.unit.now).procedures)
      s.writes.now
  pub words :
      words_in s.words.now ≡ words_of (program s.unit.now) (procedure s.proc.now)
