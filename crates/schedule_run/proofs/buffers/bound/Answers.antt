use Rattle.std.proofs.Common.{subst}
use Rattle.cursor_forward.specs.PlainProposal.{plain_proposal}
use Rattle.alloc_laws.specs.Bind.Binding.{Form, bind_rule}
use Rattle.step_rules.specs.Answer.{proposed}
use Rattle.step_driver.specs.PlainTarget.{target}
use Rattle.schedule_run.specs.Outcomes.{Makes}
use Rattle.schedule_run.specs.Planned.{as_tried}
use Rattle.schedule_run.proofs.buffers.bound.Goals as goal

pub returns : goal.returns
returns c =
    subst (λ (form : Form). Makes plain_proposal
    (as_tried
    (proposed (bind_rule form c.args.part.now.nth c.args.name.now) (target c.args.on.now) c.args.path.now))
    c.proposed.result)
    c.in_ok-form.ensures c.proposed.ensures
