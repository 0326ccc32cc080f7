-- What is promised of a check that ends well.
use Rattle.std.specs.Prelude.{◌≡◌, ℕ, List, None}
use Rattle.text_phrases.specs.Text.{IsText}
use Rattle.exo_meaning.specs.Units.{IsUnit}
use Rattle.exo_reader.specs.Source.{Item}
use Rattle.exo_reader.specs.Items.{unit}
use Rattle.exo_reader.specs.Texts.{tokens_of}
use Rattle.exo_types.specs.UnitRules.{unit_fault, unit_of}
use Rattle.unit_check.specs.Faults.{NothingFaults}
use Rattle.unit_check.specs.Checked.{Shown, checked}
use Rattle.compile_stages.specs.Messages as messages

-- The text spells a unit that keeps all rules, and each system that a procedure of it owes is shown
-- to have no integer point: so no admissible input makes any procedure of the unit fault. The
-- report is the number of these systems and `ok`.
pub record IsCounted (text report : List ℕ) : Type 0 where
  pub items : List Item
  pub count : ℕ
  pub spelled : IsText unit (tokens_of text) items
  pub keeps : unit_fault items ≡ None
  pub formed : IsUnit (unit_of items)
  pub shown : checked (unit_of items) ≡ Shown count
  pub no_fault : NothingFaults (unit_of items)
  pub is_report : report ≡ messages.checked count
