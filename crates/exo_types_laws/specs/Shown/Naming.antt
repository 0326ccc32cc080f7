-- Which units have names of the grammar, and what that gives.
use Rattle.std.specs.Prelude.{◌≡◌, ℕ, List, Some, slice_get}
use Rattle.text_phrases.specs.Text.{IsText}
use Rattle.exo_tree.specs.Tree.{Procedure, Program}
use Rattle.exo_meaning.specs.Units.{IsUnit}
use Rattle.exo_reader.specs.Source.{Item}
use Rattle.exo_reader.specs.Items.{unit}
use Rattle.exo_reader.specs.Texts.{tokens_of}
use Rattle.exo_types.specs.UnitRules.{unit_of}
use Rattle.exo_types_laws.specs.Shown.Writable.{IsWritable}
use Rattle.exo_types_laws.specs.Shown.Named.{AreNamed}

-- the unit that a text is read as
abbrev pub ReadUnitsAreNamed : Type 0
ReadUnitsAreNamed =
    (text : List ℕ) (items : List Item)
    → IsText unit (tokens_of text) items
    → AreNamed (unit_of items)

-- each procedure of a well-formed unit with such names can be written down
abbrev pub NamedUnitsAreWritable : Type 0
NamedUnitsAreWritable =
    (program : Program) (k : ℕ) (p : Procedure)
    → IsUnit program
    → AreNamed program
    → slice_get program.procedures k ≡ Some p
    → IsWritable program p
