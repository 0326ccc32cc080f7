use Rattle.std.proofs.Common.{sym, ap, ◌∙◌, Some, option_map, position}
use Rattle.std.specs.Map.{lookup, keys_of}
use Rattle.rules_names.specs.Names.{field_in}
use Rattle.rules_names.specs.Tables.{found_field}
use Rattle.rules_names.proofs.Tables.{field_found, placed, is_field}
use Rattle.rules_names.proofs.table.FieldTable.get.Goals as goal

pub returns-in_err-number : goal.returns-in_err-number
returns-in_err-number c =
    let es = c.self.inside.table.entries in
    let test = is_field c.args.config.now c.args.name.now in
    let kept = field_found es c.args.config.now c.args.name.now in
    ap (option_map found_field) c.from_residual.ensures ∙ ap (λ o. placed o (lookup test es)) c.in_err-number.ensures.index ∙ sym kept
    ∙ ap (λ s. field_in s c.args.config.now c.args.name.now) c.self.view_is

pub returns : goal.returns
returns c =
    let es = c.self.inside.table.entries in
    let test = is_field c.args.config.now c.args.name.now in
    let kept = field_found es c.args.config.now c.args.name.now in
    ap (λ o. placed o (Some c.in_ok-number.kind.now)) c.in_ok-number.ensures.index ∙ ap (placed (position test (keys_of es))) c.in_ok-number.ensures.value ∙ sym kept
    ∙ ap (λ s. field_in s c.args.config.now c.args.name.now) c.self.view_is
