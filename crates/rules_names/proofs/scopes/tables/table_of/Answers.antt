use Rattle.std.proofs.Common.{◌<◌, suc, ◌++◌, ◌∷◌, length, take, drop, map, ap, sym, ◌∙◌, drop-cons, arith}
use Rattle.std.proofs.lemmas.List.{map-append, take-append-drop}
use Rattle.exo_tree.specs.PlainTables.{config_field}
use Rattle.rules_names.specs.Names.{field_in}
use Rattle.rules_names.proofs.OfScopes.Fields.{absent}
use Rattle.rules_names.proofs.scopes.tables.table_of.Goals as goal

pub push-requires-clause-new : goal.push-requires-clause-new
push-requires-clause-new c =
    let fields = c.as_slice-field-items.result.now in
    let k = c.loop-field.field-index in
    let item = c.field-item.result in
    let here : k < length fields = omega (arith, c.loop-field-test.true) in
    let rest = drop-cons fields k item here ∙ ap (λ y. y ∷ drop (suc k) fields) (sym c.field-item.is) in
    let whole =
    ap (λ l. map config_field (take k fields) ++ map config_field l) (sym rest)
    ∙ sym (map-append config_field (take k fields) (drop k fields))
    ∙ ap (map config_field) (take-append-drop k fields)
    ∙ c.as_slice-field-items.ensures in
    (λ i. field_in (c.loop-field.invariant i) (c.as_str.ensures i) (c.as_str-in-loop-field.ensures i))
    ∙ absent (map config_field (take k fields)) (config_field item) (map config_field (drop (suc k) fields)) c.args.fields.now whole c.requires.differ
