use Rattle.std.proofs.Common.{ap, sym, ◌∙◌, ◌&&◌}
use Rattle.text_expressions.specs.Views.{tree_of}
use Rattle.rules_names.specs.Arguments.{knows_fields}
use Rattle.rules_names.proofs.Seen.{seen_negative, seen_parens, sides}
use Rattle.rules_names.proofs.Trees.{two}
use Rattle.rules_names.proofs.argument.+knows_fields.Goals as goal

pub returns-in-Negative : goal.returns-in-Negative
returns-in-Negative t c =
    c.knows_fields.ensures ∙ ap (λ e. knows_fields c.args.names.now.fields.now (tree_of e)) c.deref.ensures ∙ sym (ap (λ e. knows_fields c.args.names.now.fields.now e) (ap tree_of c.in-Negative.is ∙ seen_negative _))

pub returns-in-Parens : goal.returns-in-Parens
returns-in-Parens t c =
    c.knows_fields-in-Parens.ensures ∙ ap (λ e. knows_fields c.args.names.now.fields.now (tree_of e)) c.deref-in-Parens.ensures ∙ sym (ap (λ e. knows_fields c.args.names.now.fields.now e) (ap tree_of c.in-Parens.is ∙ seen_parens _))

pub returns-in-Binary : goal.returns-in-Binary
returns-in-Binary t c =
    c.all_of.ensures ∙ two (λ a b. a && b) c.knows_fields-in-Binary.ensures c.knows_fields-in-Binary-2.ensures ∙ sym (ap (λ e. knows_fields c.args.names.now.fields.now e) (sides _ _ _ _ _ _ c.in-Binary.is c.deref-in-Binary.ensures c.deref-in-Binary-2.ensures))
