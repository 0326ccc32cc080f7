use Rattle.std.proofs.Common.{ap, sym, ◌∙◌, ◌&&◌}
use Rattle.text_expressions.specs.Views.{tree_of}
use Rattle.rules_names.specs.Arguments.{is_control_form, condition_sides, is_condition_form}
use Rattle.rules_names.proofs.Seen.{seen_parens, sides}
use Rattle.rules_names.proofs.Trees.{two}
use Rattle.rules_names.proofs.argument.+is_condition_form.Goals as goal

pub returns-in-Parens : goal.returns-in-Parens
returns-in-Parens t c =
    c.is_condition_form.ensures ∙ ap (λ e. is_condition_form (tree_of e)) c.deref.ensures ∙ sym (ap (λ e. is_condition_form e) (ap tree_of c.in-Parens.is ∙ seen_parens _))

pub returns-in-Binary : goal.returns-in-Binary
returns-in-Binary t c =
    let l = c.is_control_form.ensures ∙ ap (λ e. is_control_form (tree_of e)) (c.deref-in-Binary-3.ensures ∙ sym c.deref-in-Binary.ensures) in
    let r = c.is_control_form-in-Binary.ensures ∙ ap (λ e. is_control_form (tree_of e)) (c.deref-in-Binary-4.ensures ∙ sym c.deref-in-Binary-2.ensures) in
    c.condition_sides.ensures
    ∙ two (condition_sides c.in-Binary.operator) (c.all_of-conditions.ensures ∙ two (λ a b. a && b) c.is_condition_form-in-Binary.ensures c.is_condition_form-in-Binary-2.ensures) (c.all_of-controls.ensures ∙ two (λ a b. a && b) l r)
    ∙ sym (ap (λ e. is_condition_form e) (sides _ _ _ _ _ _ c.in-Binary.is c.deref-in-Binary.ensures c.deref-in-Binary-2.ensures))
