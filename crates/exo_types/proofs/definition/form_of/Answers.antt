use Rattle.std.proofs.Common.{◌≡◌, ℕ, ◌==◌, false, List, [], ◌∷◌, Option, length, map, refl, ap, sym, ◌∙◌, arith}
use Rattle.std.proofs.lemmas.Bool.Decides.{nat_tests}
use Rattle.exo_tree.specs.Tree.{ConfigField, TensorParam}
use Rattle.exo_meaning.specs.Units.{Scope}
use Rattle.text_expressions.specs.Views.{tree_of}
use Rattle.text_expressions.specs.declared.source.SourceExpr.{SourceExpr}
use Rattle.exo_reader.specs.Source.{TypeName, plain}
use Rattle.exo_reader.specs.Views.{plain_kind, plain_form}
use Rattle.rules_names.specs.Resolved.{controls_of}
use Rattle.exo_types.specs.TypeRules.{cell_of, memory_of}
use Rattle.exo_types.specs.ItemRules as rules
use Rattle.exo_types.proofs.Params.{no_dims}
use Rattle.exo_types.proofs.definition.form_of.Goals as goal

pub returns-then-is_empty : goal.returns-then-is_empty
returns-then-is_empty c =
    let none : length c.in-Plain.dims.items ≡ 0 = grind (arith, nat_tests) in
    let kind = plain_kind c.in-Plain.kind in
    let form : plain_form c.args.form.now ≡ plain kind [] = ap plain_form c.in-Plain.is ∙ ap (plain kind) (no_dims tree_of c.in-Plain.dims.items none) in
    c.scalar_of.ensures c.args.names.now.fields.now
    ∙ ap (λ f. rules.form_of c.args.names.now.fields.now c.args.memories.now c.args.names.now.scope.now f c.args.memory.now) (sym form)

-- a type with dimensions
with_dims : (fields : List ConfigField) (memories : List (List ℕ)) (scope : Scope) (kind : TypeName)
    (ds : List SourceExpr) (m : Option (List ℕ)) → (length ds == 0) ≡ false
    → rules.form_of fields memories scope (plain kind (map tree_of ds)) m
    ≡ TensorParam (cell_of kind) (controls_of fields scope (map tree_of ds)) (memory_of memories m)
with_dims fields memories scope kind [] m h = cc
with_dims fields memories scope kind (d ∷ ds) m h = refl

pub returns-in_ok-extents-in-Plain : goal.returns-in_ok-extents-in-Plain
returns-in_ok-extents-in-Plain c =
    let fields = c.args.names.now.fields.now in
    let memories = c.args.memories.now in
    let scope = c.args.names.now.scope.now in
    let kind = plain_kind c.in-Plain.kind in
    let seen = ap (map tree_of) c.deref.ensures.value in
    let long = sym (ap length c.deref.ensures.value) ∙ c.deref.ensures.len in
    (λ i. TensorParam (c.cell_of.ensures i) ((c.in_ok-extents-in-Plain.ensures ∙ ap (controls_of fields scope) seen) i)
    (c.memory_of.ensures i))
    ∙ sym (with_dims fields memories scope kind c.in-Plain.dims.items c.args.memory.now
    (ap (λ n. n == 0) long ∙ sym c.is_empty.ensures ∙ c.if-is_empty.false))
    ∙ ap (λ f. rules.form_of fields memories scope f c.args.memory.now) (sym (ap plain_form c.in-Plain.is))
