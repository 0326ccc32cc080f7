-- What is promised of the text of a version.
use Rattle.std.specs.Prelude.{◌≡◌, ℕ, List, Some, Result}
use Rattle.exo_tree.specs.Tree.{Procedure}
use Rattle.exo_reader.specs.Source.{Item}
use Rattle.exo_reader.specs.Texts.{ReadsUnit}
use Rattle.exo_reader.specs.declared.unit.ReadError.{ReadError}
use Rattle.exo_reader.specs.declared.unit.Source.{Source}
use Rattle.exo_types.specs.UnitRules.{unit_of}
use Rattle.text_show.specs.ProcedureText.{shown}
use Rattle.exo_types_laws.specs.Shown.Laws.{ReadsBack}
use Rattle.exo_types_laws.specs.Shown.Sizes.{IsWithinItem}
use Rattle.exo_types_laws.specs.Shown.Written.{written}
use Rattle.schedule_laws.specs.Versions.Versions.{Versions, version_of}
use Rattle.compile_stages.specs.Promise.{AreMade, ComesFrom}

-- The text that is written is that of the version which the name holds in the end. It comes from a
-- procedure of the text; and where it keeps the limits of the grammar, its text is read as its own
-- source tree.
pub record Displayed (bytes schedule name text : List ℕ) : Type 0 where
  pub items : List Item
  pub versions : Versions
  pub number : ℕ
  pub version : Procedure
  pub origin : Procedure
  pub made : AreMade bytes schedule items versions
  pub held : version_of versions name ≡ Some number
  pub comes : ComesFrom (unit_of items) versions number origin version
  pub is_text : text ≡ shown versions.unit number
  pub reads :
      IsWithinItem (written versions.unit version)
      → (result : Result Source ReadError)
      → ReadsUnit text result
      → ReadsBack versions.unit version result
