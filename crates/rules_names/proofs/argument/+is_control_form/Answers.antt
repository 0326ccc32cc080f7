use Rattle.std.proofs.Common.{ap, sym, ◌∙◌}
use Rattle.text_expressions.specs.Views.{tree_of}
use Rattle.rules_names.specs.Arguments.{is_count, sides_form, is_control_form}
use Rattle.rules_names.proofs.Seen.{seen_negative, seen_parens, sides}
use Rattle.rules_names.proofs.Trees.{three}
use Rattle.rules_names.proofs.argument.+is_control_form.Goals as goal

pub returns-in-Negative : goal.returns-in-Negative
returns-in-Negative t c =
    c.is_control_form.ensures ∙ ap (λ e. is_control_form (tree_of e)) c.deref.ensures ∙ sym (ap (λ e. is_control_form e) (ap tree_of c.in-Negative.is ∙ seen_negative _))

pub returns-in-Parens : goal.returns-in-Parens
returns-in-Parens t c =
    c.is_control_form-in-Parens.ensures ∙ ap (λ e. is_control_form (tree_of e)) c.deref-in-Parens.ensures ∙ sym (ap (λ e. is_control_form e) (ap tree_of c.in-Parens.is ∙ seen_parens _))

pub returns-in-Binary : goal.returns-in-Binary
returns-in-Binary t c =
    c.sides_form.ensures ∙ three (sides_form c.in-Binary.operator) c.is_control_form-in-Binary.ensures c.is_control_form-in-Binary-2.ensures (c.is_count.ensures ∙ ap (λ e. is_count (tree_of e)) (c.deref-in-Binary-3.ensures ∙ sym c.deref-in-Binary-2.ensures))
    ∙ sym (ap (λ e. is_control_form e) (sides _ _ _ _ _ _ c.in-Binary.is c.deref-in-Binary.ensures c.deref-in-Binary-2.ensures))
