-- Expressions that are a whole text.
use Rattle.std.proofs.Common.{◌≡◌, ℕ, List, [], ◌∷◌, map, refl, sym, ap, ◌∙◌, append-nil, subst}
use Rattle.text_lexer.specs.Layout.{token_of, tokens_in, lines, longer, one_line}
use Rattle.text_lexer.specs.declared.token.Token.{Token}
use Rattle.text_show.specs.Words.{words_with}
use Rattle.exo_types_laws.specs.Shown.Written.{control_tree, condition_tree, datum_tree}
use Rattle.exo_types_laws.specs.Shown.Laws.{line_tokens_of, ControlsAreSpelled}
use Rattle.exo_types_laws.specs.Shown.Laws.{ConditionsAreSpelled, DataAreSpelled}
use Rattle.exo_types_laws.proofs.OfShown.Bare.{bare, bare_is}
use Rattle.exo_types_laws.proofs.OfShown.Pieces.{Free, Reads, OneLine}
use Rattle.exo_types_laws.proofs.OfShown.Rows.{IsSound, kept, line_byte}
use Rattle.exo_types_laws.proofs.OfShown.Sound.{tree_whole}
use Rattle.exo_types_laws.proofs.OfShown.Expressions.{control_reads, condition_reads, datum_reads}

lines_alone : (x : List ℕ) → OneLine x → lines x ≡ x ∷ []
lines_alone [] l = refl
lines_alone (b ∷ x) l = line_byte b x l.0 ∙ ap (longer b) (lines_alone x l.1)

alone : (x : List ℕ) (tokens : List Token) → Reads Free x tokens → IsSound tokens → line_tokens_of x ≡ tokens
alone x tokens r sound =
    let e : map token_of (tokens_in 1 1 0 x) ≡ tokens = bare_is 1 1 0 x ∙ ap (bare 0) (sym (append-nil x)) ∙ r.goes [] tt ∙ append-nil tokens in
    ap (λ (ls : List (List ℕ)). map token_of (one_line ls)) (lines_alone x r.line)
    ∙ ap (map token_of) (kept (tokens_in 1 1 0 x) (subst IsSound (sym e) sound))
    ∙ e

pub controls_are_spelled : ControlsAreSpelled
controls_are_spelled program names e h = alone _ _ (control_reads program names e h) (tree_whole (control_tree (words_with program names) program.fields e)).sound

pub conditions_are_spelled : ConditionsAreSpelled
conditions_are_spelled program names c h = alone _ _ (condition_reads program names c h) (tree_whole (condition_tree (words_with program names) program.fields c)).sound

pub data_are_spelled : DataAreSpelled
data_are_spelled program names e h = alone _ _ (datum_reads program names e h) (tree_whole (datum_tree (words_with program names) program.fields e)).sound
