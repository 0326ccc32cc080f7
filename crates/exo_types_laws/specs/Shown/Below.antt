-- The shown text of a procedure in a text, behind that of the items that hold what it names.
use Rattle.std.specs.Prelude.{◌≡◌, ℕ, List, [], ◌∷◌, ◌++◌, map, Some, None, slice_get, Result}
use Rattle.std.specs.Prelude.{MatchResult}
use Rattle.text_phrases.specs.Text.{IsText}
use Rattle.exo_tree.specs.Tree.{Procedure, Program}
use Rattle.exo_meaning.specs.Renaming.{Renaming}
use Rattle.exo_meaning.specs.Units.{IsUnit}
use Rattle.exo_reader.specs.Source.{Item}
use Rattle.exo_reader.specs.Items.{unit}
use Rattle.exo_reader.specs.Texts.{tokens_of, ReadsUnit}
use Rattle.exo_reader.specs.Views.{plain_item}
use Rattle.exo_reader.specs.declared.unit.ReadError.{ReadError}
use Rattle.exo_reader.specs.declared.unit.ReadKind.TheVariants.{Memory}
use Rattle.exo_reader.specs.declared.unit.Source.{Source}
use Rattle.text_show.specs.ProcedureText.{shown}
use Rattle.exo_types.specs.UnitRules.{nothing_above, after_items, unit_fault, unit_of}
use Rattle.exo_types_laws.specs.Shown.Again.{re_procedure, HoldsWhatIsNamed}
use Rattle.exo_types_laws.specs.Shown.Sizes.{IsWithinItem}
use Rattle.exo_types_laws.specs.Shown.Writable.{IsWritable}
use Rattle.exo_types_laws.specs.Shown.Written.{written}

-- the last line of the text is ended
abbrev pub EndsLine : List ℕ → Type 0
EndsLine [] = Unit {0}
EndsLine (b ∷ []) = b ≡ 10
EndsLine (b ∷ c ∷ text) = EndsLine (c ∷ text)

-- behind the text of some items, the shown text is read as its source tree, but for want of memory
abbrev pub ShownIsReadBelow : Type 0
ShownIsReadBelow = (program : Program) (k : ℕ) (p : Procedure) (text : List ℕ) (items : List Item)
    → slice_get program.procedures k ≡ Some p
    → IsWritable program p
    → IsWithinItem (written program p)
    → IsText unit (tokens_of text) items → EndsLine text
    → (result : Result Source ReadError) → ReadsUnit (text ++ shown program k) result
    → MatchResult result
    (λ s. map plain_item s.items.items ≡ items ++ written program p ∷ [])
    (λ e. e.kind ≡ Memory)

-- what is read breaks no rule, and stands for what the items stand for and behind that for the
-- procedure with other ids, which calls what has these numbers
pub record StandsAgain (items read : List Item) (to : ℕ → ℕ) (p : Procedure) : Type 0 where
  pub keeps : unit_fault read ≡ None
  pub ids : Renaming
  pub same : (unit_of read).procedures ≡ (unit_of items).procedures ++ re_procedure ids to p ∷ []

-- behind the text of items that hold what it names, the shown text of a procedure stands for the
-- procedure, but for ids and numbers of procedures
abbrev pub ShownStandsAgain : Type 0
ShownStandsAgain = (program : Program) (k : ℕ) (p : Procedure) (text : List ℕ) (items : List Item)
    → IsUnit program
    → slice_get program.procedures k ≡ Some p
    → IsWritable program p → IsWithinItem (written program p)
    → IsText unit (tokens_of text) items → EndsLine text → unit_fault items ≡ None
    → (holds : HoldsWhatIsNamed (after_items nothing_above items) program p)
    → (result : Result Source ReadError) → ReadsUnit (text ++ shown program k) result
    → MatchResult result
    (λ s. StandsAgain items (map plain_item s.items.items) holds.to p)
    (λ e. e.kind ≡ Memory)
