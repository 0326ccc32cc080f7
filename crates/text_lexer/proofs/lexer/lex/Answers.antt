use Rattle.std.proofs.Common.{ap, ◌∙◌, [], map}
use Rattle.text_lexer.specs.Layout.{lines, up_to_fault, layout, token_of}
use Rattle.text_lexer.proofs.Widths.{few_of}
use Rattle.text_lexer.proofs.lexer.lex.Goals as goal

pub returns-clause-widths : goal.returns-clause-widths
returns-clause-widths c =
    few_of c.args.text.now _ (c.in_ok-lay_text.ensures.0
    ∙ ap (λ e. map token_of (up_to_fault (layout e 1 [] 0 (lines c.args.text.now)))) c.end_place-end.ensures)
