use Rattle.std.proofs.Common.{◌≡◌, ◌+◌, [], length, map, ap, sym, ◌∙◌, arith}
use Rattle.std.proofs.lemmas.Bool.Decides.{nat_tests}
use Rattle.std.proofs.lemmas.List.{length-map}
use Rattle.exo_meaning.specs.Units.{plainly}
use Rattle.text_expressions.specs.Views.{tree_of}
use Rattle.exo_reader.specs.Source.{plain}
use Rattle.exo_reader.specs.Views.{plain_kind, plain_form}
use Rattle.rules_names.specs.Faults.{charged}
use Rattle.rules_names.specs.ExpressionRules.{controls_faults, closed_width}
use Rattle.exo_types.specs.TypeRules.{memory_faults}
use Rattle.exo_types.specs.ArgumentRules.{dims_width}
use Rattle.exo_types.specs.ItemRules.{form_faults}
use Rattle.exo_types.proofs.Params.{no_dims, dims_faults}
use Rattle.exo_types.proofs.definition.test_form.Goals as goal

pub returns-then-is_empty-clause-charge : goal.returns-then-is_empty-clause-charge
returns-then-is_empty-clause-charge c =
    let none : length c.in-Plain.dims.items ≡ 0 = grind (arith, nat_tests) in
    let kind = plain_kind c.in-Plain.kind in
    let form : plain_form c.args.form.now ≡ plain kind [] = ap plain_form c.in-Plain.is ∙ ap (plain kind) (no_dims tree_of c.in-Plain.dims.items none) in
    c.test_scalar.ensures c.args.names.now.fields.now
    ∙ ap (λ f. charged (form_faults c.args.names.now.fields.now c.args.memories.now c.args.names.now.scope.now c.args.n f c.args.memory.now)) (sym form)

pub returns-else-is_empty-clause-charge : goal.returns-else-is_empty-clause-charge
returns-else-is_empty-clause-charge c =
    let fields = c.args.names.now.fields.now in
    let scope = c.args.names.now.scope.now in
    let memories = c.args.memories.now in
    let n = c.args.n in
    let m = c.args.memory.now in
    let kind = plain_kind c.in-Plain.kind in
    let ds = map tree_of c.in-Plain.dims.items in
    let some : length ds ≡ 0 → ⊥ = λ e. let none : length c.in-Plain.dims.items ≡ 0 = sym (length-map c.in-Plain.dims.items tree_of) ∙ e in grind (arith, nat_tests) in
    let seen : map tree_of c.deref.result.now ≡ ds = ap (map tree_of) c.deref.ensures.value in
    let start : n + 1 + 1 ≡ n + 2 = omega arith in
    let extents = c.test_dims-end.ensures.charge ∙ (λ i. charged (controls_faults fields plainly scope (start i) (seen i))) in
    let end' : c.test_dims-end.result.1 ≡ n + 1 + dims_width ds = c.test_dims-end.ensures.end ∙ ap (λ l. n + 1 + dims_width l) seen in
    let place = c.memory_charge-place.ensures ∙ ap (λ k. charged (memory_faults memories k m)) end' in
    c.and-in-Plain.ensures _ _ c.cell_charge.ensures (c.and.ensures _ _ extents place)
    ∙ ap charged (sym (dims_faults fields memories scope n kind ds m some))
    ∙ ap (λ f. charged (form_faults fields memories scope n f m)) (sym (ap plain_form c.in-Plain.is))

pub returns-in-Window-clause-charge : goal.returns-in-Window-clause-charge
returns-in-Window-clause-charge c =
    let fields = c.args.names.now.fields.now in
    let scope = c.args.names.now.scope.now in
    let memories = c.args.memories.now in
    let n = c.args.n in
    let m = c.args.memory.now in
    let ds = map tree_of c.in-Window.dims.items in
    let seen : map tree_of c.deref-in-Window.result.now ≡ ds = ap (map tree_of) c.deref-in-Window.ensures.value in
    let extents = c.test_controls-end.ensures.charge ∙ ap (λ l. charged (controls_faults fields plainly scope (n + 4) l)) seen in
    let end' : c.test_controls-end.result.1 ≡ n + 4 + closed_width ds = c.test_controls-end.ensures.end ∙ ap (λ l. n + 4 + closed_width l) seen in
    let place = c.memory_charge-place-in-Window.ensures ∙ ap (λ k. charged (memory_faults memories k m)) end' in
    c.and-in-Window-2.ensures _ _ c.cell_charge-in-Window.ensures (c.and-in-Window.ensures _ _ extents place)
    ∙ ap (λ f. charged (form_faults fields memories scope n f m)) (sym (ap plain_form c.in-Window.is))
