use Rattle.std.proofs.Common.{◌≡◌, ◌∷◌, ◌+◌, ◌<◌, ◌≤◌, ℕ, List, Some, drop, get_or, map, length, sym, ap, ap₂, ◌∙◌, arith}
use Rattle.std.specs.Prelude.{◌&&◌}
use Rattle.std.proofs.Math.ListN.{drop_of_length-le}
use Rattle.std.proofs.lemmas.List.{length-map}
use Rattle.exo_tree.specs.PlainBinder.{control_kind}
use Rattle.exo_tree.specs.PlainTables.{config_field}
use Rattle.exo_tree.specs.PlainUnit.{program}
use Rattle.exo_tree.specs.declared.unit.Field.{Field}
use Rattle.exo_meaning.specs.Units.{is_text}
use Rattle.rules_names.specs.Names.{field_in, field_from}
use Rattle.config_state.proofs.Sets.{drop_item}
use Rattle.schedule_run.proofs.FirstNamed.{field_here, field_further, few_fields, same_item}
use Rattle.schedule_run.proofs.named.field_in.Goals as goal

pub overflow_cast-result : goal.overflow_cast-result
overflow_cast-result c =
    let few = few_fields (program c.args.unit.now) c.requires in
    omega (arith, few, c.loop-k-test.true, ap length c.as_slice-fields.ensures, length-map c.as_slice-fields.result.now config_field)

pub returns-then-is_field : goal.returns-then-is_field
returns-then-is_field c =
    let items = c.as_slice-fields.result.now in
    let k = c.loop-k.k in
    let config = c.args.config.now in
    let x = c.args.name.now in
    let item = c.index-fields-k.result in
    let less : k < length items = omega (arith, c.loop-k-test.true) in
    let here : field_in (map config_field items) config x ≡ field_from k (config_field item ∷ map config_field (drop (k + 1) items)) config x =
    c.loop-k.invariant
    ∙ ap (λ (l : List Field). field_from k (map config_field l) config x) (drop_item items k item less c.index-fields-k.is) in
    let same : (is_text item.config config && is_text item.name x) ≡ c.is_field.result =
    ap₂ (λ (a b : List ℕ). is_text item.config a && is_text item.name b) (sym c.as_slice.ensures) (sym (c.as_bytes.ensures.value ∙ c.as_str.ensures))
    ∙ sym c.is_field.ensures in
    let again = c.index-fields-k-then-is_field.result in
    let kinds : get_or items k again ≡ item = same_item items k again item less ∙ sym c.index-fields-k.is in
    ap (λ (f : Field). Some (k, control_kind f.kind)) kinds
    ∙ sym
    (ap (λ fs. field_in fs config x) (sym c.as_slice-fields.ensures)
    ∙ field_here config x _ k (config_field item) (map config_field (drop (k + 1) items)) here
    (same ∙ c.if-is_field.true))

pub loop-k-preserved : goal.loop-k-preserved
loop-k-preserved c =
    let items = c.as_slice-fields.result.now in
    let k = c.loop-k.k in
    let config = c.args.config.now in
    let x = c.args.name.now in
    let item = c.index-fields-k.result in
    let less : k < length items = omega (arith, c.loop-k-test.true) in
    let here : field_in (map config_field items) config x ≡ field_from k (config_field item ∷ map config_field (drop (k + 1) items)) config x =
    c.loop-k.invariant
    ∙ ap (λ (l : List Field). field_from k (map config_field l) config x) (drop_item items k item less c.index-fields-k.is) in
    let same : (is_text item.config config && is_text item.name x) ≡ c.is_field.result =
    ap₂ (λ (a b : List ℕ). is_text item.config a && is_text item.name b) (sym c.as_slice.ensures) (sym (c.as_bytes.ensures.value ∙ c.as_str.ensures))
    ∙ sym c.is_field.ensures in
    field_further config x _ k (config_field item) (map config_field (drop (k + 1) items)) here
    (same ∙ c.if-is_field.false)

pub returns : goal.returns
returns c =
    let items = c.as_slice-fields.result.now in
    let k = c.loop-k.k in
    let config = c.args.config.now in
    let x = c.args.name.now in
    let past : length items ≤ k = omega (arith, c.loop-k-test.false) in
    sym
    (ap (λ fs. field_in fs config x) (sym c.as_slice-fields.ensures) ∙ c.loop-k.invariant
    ∙ ap (λ (l : List Field). field_from k (map config_field l) config x) (drop_of_length-le items past))
