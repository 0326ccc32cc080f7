use Rattle.std.proofs.Common.{◌≡◌, ◌&&◌, true, false, length, take, drop, ap, sym, ◌∙◌, arith}
use Rattle.exo_meaning.specs.Units.{is_text, data_ending}
use Rattle.exo_modes.proofs.Endings.{text_parts}
use Rattle.exo_modes.proofs.texts.is_data_of.Goals as goal

pub returns-then-is_same : goal.returns-then-is_same
returns-then-is_same c =
    let text = c.args.text.now in
    let name = c.args.name.now in
    let front : is_text (take (length name) text) name ≡ true = ap (λ x. is_text x name) (sym c.split_at.ensures.front) ∙ sym c.is_same.ensures ∙ c.if-is_same.true in
    c.is_same-then-is_same.ensures
    ∙ ap (λ x. is_text x data_ending) c.split_at.ensures.back
    ∙ ap (λ b. b && is_text (drop (length name) text) data_ending) (sym front)
    ∙ sym (text_parts name text data_ending (omega (arith, c.if-text-name.false)))

pub returns-else-is_same : goal.returns-else-is_same
returns-else-is_same c =
    let text = c.args.text.now in
    let name = c.args.name.now in
    let front : is_text (take (length name) text) name ≡ false = ap (λ x. is_text x name) (sym c.split_at.ensures.front) ∙ sym c.is_same.ensures ∙ c.if-is_same.false in
    c.if-is_same.false
    ∙ ap (λ b. b && is_text (drop (length name) text) data_ending) (sym front)
    ∙ sym (text_parts name text data_ending (omega (arith, c.if-text-name.false)))
