use Rattle.std.proofs.Common.{◌+◌, ◌∙◌, ◌++◌, ◌∷◌, [], List, length, sym, ap}
use Rattle.text_lexer.specs.Layout.{at, put, one_line, up_to_fault}
use Rattle.text_lexer.specs.declared.place.Placed.{Placed}
use Rattle.text_lexer.specs.declared.token.Token.TheVariants.{NewLine}
use Rattle.text_lexer.proofs.Cuts.{parted_last, one_more}
use Rattle.text_lexer.proofs.lexer.lay_one_line.Goals as goal

pub returns-in_default : goal.returns-in_default
returns-in_default c = c.in_ok-placed.ensures.value ∙ sym (ap one_line (parted_last _ _ _ c.first_line.ensures.value c.in_default.not-Some))

pub returns : goal.returns
returns c =
    let value = rw c.in-Some.is at c.first_line.ensures.value in
    c.cut_at_fault.ensures.cut ∙ ap up_to_fault (c.in_ok-all.ensures
    ∙ ap (λ e. c.in_ok-placed.placed.items ++ (put e NewLine ∷ [])) c.end_of.ensures)
    ∙ ap (λ (ts : List Placed). up_to_fault (ts ++ (put (at 1 (length c.first_line.result.0.now + 1)) NewLine ∷ []))) c.in_ok-placed.ensures.value
    ∙ one_more c.args.text.now c.first_line.result.0.now c.in-Some.field-0.now value
