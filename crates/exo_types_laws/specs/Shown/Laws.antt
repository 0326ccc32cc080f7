-- The laws of shown texts.
use Rattle.std.specs.Prelude.{◌≡◌, ℕ, List, [], ◌∷◌, map, Some, slice_get, Result, MatchResult}
use Rattle.text_phrases.specs.Limits.{Limits}
use Rattle.exo_tree.specs.Tree.{Control, Condition, Datum, Procedure, Program}
use Rattle.text_lexer.specs.Layout.{token_of, line_lexed}
use Rattle.text_lexer.specs.declared.token.Token.{Token}
use Rattle.text_expressions.specs.Expression.{spelling}
use Rattle.exo_reader.specs.Items.{item}
use Rattle.exo_reader.specs.Views.{plain_item}
use Rattle.exo_reader.specs.Texts.{tokens_of, ReadsUnit}
use Rattle.exo_reader.specs.declared.unit.ReadError.{ReadError}
use Rattle.exo_reader.specs.declared.unit.ReadKind.TheVariants.{Memory}
use Rattle.exo_reader.specs.declared.unit.Source.{Source}
use Rattle.text_show.specs.Layout.{Text}
use Rattle.text_show.specs.Words.{words_with}
use Rattle.text_show.specs.ControlText.{control_text, condition_text}
use Rattle.text_show.specs.DatumText.{datum_text}
use Rattle.text_show.specs.ProcedureText.{shown}
use Rattle.exo_types_laws.specs.Shown.Written.{control_tree, condition_tree, datum_tree, written}
use Rattle.exo_types_laws.specs.Shown.Writable.{IsControl, IsCondition, IsDatum, IsWritable}
use Rattle.exo_types_laws.specs.Shown.Sizes.{IsWithinItem}

-- the tokens of a text of one line
abbrev pub line_tokens_of : Text → List Token
line_tokens_of text = map token_of (line_lexed text)

-- the text of an expression is what its source tree spells
abbrev pub ControlsAreSpelled : Type 0
ControlsAreSpelled =
    (program : Program) (names : ℕ → Text) (e : Control)
    → IsControl program names e
    → line_tokens_of (control_text (words_with program names) e)
    ≡ spelling (control_tree (words_with program names) program.fields e)

abbrev pub ConditionsAreSpelled : Type 0
ConditionsAreSpelled =
    (program : Program) (names : ℕ → Text) (c : Condition)
    → IsCondition program names c
    → line_tokens_of (condition_text (words_with program names) c)
    ≡ spelling (condition_tree (words_with program names) program.fields c)

abbrev pub DataAreSpelled : Type 0
DataAreSpelled =
    (program : Program) (names : ℕ → Text) (e : Datum)
    → IsDatum program names e
    → line_tokens_of (datum_text (words_with program names) e)
    ≡ spelling (datum_tree (words_with program names) program.fields e)

-- the shown text of a procedure of a program is what its source tree spells
abbrev pub ProceduresAreSpelled : Type 0
ProceduresAreSpelled =
    (program : Program) (k : ℕ) (p : Procedure)
    → slice_get program.procedures k ≡ Some p
    → IsWritable program p
    → tokens_of (shown program k) ≡ item.spell (written program p)

-- the source tree of the procedure alone is read, but for want of memory
abbrev pub ReadsBack : Program → Procedure → Result Source ReadError → Type 0
ReadsBack program p result =
    MatchResult result (λ s. map plain_item s.items.items ≡ written program p ∷ [])
    (λ e. e.kind ≡ Memory)

-- the source tree of a procedure within the limits is of the grammar
abbrev pub WrittenFits : Type 0
WrittenFits =
    (program : Program) (p : Procedure)
    → IsWritable program p
    → IsWithinItem (written program p)
    → (limits : Limits)
    → item.Fits limits (written program p)

-- whoever reads the shown text of such a procedure reads that tree
abbrev pub ShownIsRead : Type 0
ShownIsRead =
    (program : Program) (k : ℕ) (p : Procedure)
    → slice_get program.procedures k ≡ Some p
    → IsWritable program p
    → IsWithinItem (written program p)
    → (result : Result Source ReadError)
    → ReadsUnit (shown program k) result
    → ReadsBack program p result
