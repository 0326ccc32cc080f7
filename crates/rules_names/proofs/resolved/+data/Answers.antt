use Rattle.std.proofs.Common.{ap, sym, ◌∙◌, arith, map}
use Rattle.exo_tree.specs.Tree.{Read}
use Rattle.text_expressions.specs.Views.{tree_of}
use Rattle.rules_names.specs.ExpressionRules.{width}
use Rattle.rules_names.specs.Names.{id_in}
use Rattle.rules_names.specs.Resolved.{controls_of, datum_of}
use Rattle.rules_names.proofs.Seen.{seen_access, choices, listed}
use Rattle.rules_names.proofs.Trees.{two}
use Rattle.rules_names.proofs.Wide.{wide, wide_relu, wide_negative, wide_parens, wide_binary}
use Rattle.rules_names.proofs.Widths.{width_select}
use Rattle.rules_names.proofs.resolved.+data.Goals as goal

pub data_of-boxed_data-requires : goal.data_of-boxed_data-requires
data_of-boxed_data-requires t c =
    let w = wide_relu _ _ c.in-Relu.is in let v = ap wide c.deref-in-Relu.ensures in (omega arith, tt)

pub data_of-choice_of-requires : goal.data_of-choice_of-requires
data_of-choice_of-requires t c =
    let w = ap width (choices _ _ _ _ _ _ _ _ _ c.in-Select.is c.deref-in-Select.ensures c.deref-in-Select-2.ensures c.deref-in-Select-3.ensures c.deref-in-Select-4.ensures) in
    let v = width_select (tree_of c.deref-in-Select.result.now) (tree_of c.deref-in-Select-2.result.now) (tree_of c.deref-in-Select-3.result.now) (tree_of c.deref-in-Select-4.result.now) in (omega arith, tt)

pub data_of-boxed_data-requires-in-Negative : goal.data_of-boxed_data-requires-in-Negative
data_of-boxed_data-requires-in-Negative t c =
    let w = wide_negative _ _ c.in-Negative.is in let v = ap wide c.deref-in-Negative.ensures in (omega arith, tt)

pub data_of-data_of-requires : goal.data_of-data_of-requires
data_of-data_of-requires t c =
    let w = wide_parens _ _ c.in-Parens.is in let v = ap wide c.deref-in-Parens.ensures in (omega arith, tt)

pub data_of-operation_of-requires : goal.data_of-operation_of-requires
data_of-operation_of-requires t c =
    let w = wide_binary _ _ _ _ c.in-Binary.is in let v = ap wide c.deref-in-Binary.ensures in let u = ap wide c.deref-in-Binary-2.ensures in (omega arith, tt)

pub data_of-returns-in_ok-indices-in-Access : goal.data_of-returns-in_ok-indices-in-Access
data_of-returns-in_ok-indices-in-Access t c =
    two Read (c.id_in-in-Access.ensures ∙ ap (id_in c.args.names.now.scope.now) c.as_str-in-Access.ensures)
    (c.in_ok-indices-in-Access.ensures ∙ ap (λ l. controls_of c.args.names.now.fields.now c.args.names.now.scope.now (map tree_of l)) c.deref.ensures.value ∙ ap (controls_of c.args.names.now.fields.now c.args.names.now.scope.now) (sym (listed (map tree_of c.in-Access.list.items))))
    ∙ sym (ap (λ e. datum_of c.args.names.now.fields.now c.args.names.now.scope.now e) (ap tree_of c.in-Access.is ∙ seen_access _ _))
