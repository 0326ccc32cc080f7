use Rattle.std.proofs.Common.{◌≡◌, ◌∙◌, ◌++◌, ◌∷◌, ◌==◌, [], map, length, sym, ap, false}
use Rattle.std.proofs.lemmas.List.{map_push}
use Rattle.c_lowering.specs.Made.Lowered as parts
use Rattle.c_lowering.specs.PlainHole.{plain_hole}
use Rattle.c_lowering.specs.declared.templates.Hole.TheVariants.{Bytes}
use Rattle.c_lowering.proofs.Reading.{text_alone}
use Rattle.c_lowering.proofs.templates.put_text.Goals as goal

pub returns : goal.returns
returns c =
    let text = c.args.text.now in
    let some : (length text == 0) ≡ false = sym c.is_empty.ensures ∙ c.if-is_empty.false in
    ap (map plain_hole) c.in_ok-push.ensures.items
    ∙ map_push plain_hole c.args.parts.now.items (Bytes c.in_ok-text.text)
    ∙ ap (λ t. map plain_hole c.args.parts.now.items ++ parts.Bytes t ∷ []) c.in_ok-text.ensures.ok
    ∙ sym (ap (λ l. map plain_hole c.args.parts.now.items ++ l) (text_alone text some))
