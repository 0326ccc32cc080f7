use Rattle.std.proofs.Common.{◌∙◌, ap, subst}
use Rattle.exo_tree.specs.Tree.{Argument}
use Rattle.exo_tree.specs.PlainArgument.{argument}
use Rattle.cursor_forward.specs.PlainCursor.{plain_side}
use Rattle.cursor_forward.specs.PlainProposal.{plain_proposal}
use Rattle.call_laws.specs.Fields.FieldRules.{write_rule}
use Rattle.step_rules.specs.Lawful.{config_side}
use Rattle.step_rules.specs.Answer.{proposed}
use Rattle.step_driver.specs.PlainTarget.{target}
use Rattle.schedule_run.specs.Outcomes.{Makes}
use Rattle.schedule_run.specs.Planned.{as_tried}
use Rattle.schedule_run.proofs.fields.written.Goals as goal

pub returns : goal.returns
returns c =
    subst (λ (a : Argument). Makes plain_proposal
    (as_tried
    (proposed (write_rule (config_side (plain_side c.args.beside.now.side)) c.args.field.0 a)
    (target c.args.on.now) c.args.beside.now.path))
    c.proposed.result)
    (ap argument c.deref.ensures ∙ c.in_ok-value.ensures) c.proposed.ensures
