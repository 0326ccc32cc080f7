use Rattle.std.proofs.Common.{ℕ, List, ap₂, subst}
use Rattle.exo_tree.specs.Tree.{Coord}
use Rattle.cursor_forward.specs.PlainProposal.{plain_proposal}
use Rattle.buffer_laws.specs.StageMem.{Staging}
use Rattle.alloc_laws.specs.Stage.Staging.{stage_rule}
use Rattle.step_rules.specs.Answer.{proposed}
use Rattle.step_driver.specs.PlainTarget.{target}
use Rattle.schedule_run.specs.Outcomes.{Makes}
use Rattle.schedule_run.specs.Planned.{as_tried}
use Rattle.schedule_run.proofs.staging.staged.Goals as goal

pub returns : goal.returns
returns c =
    subst (λ (w : Staging). Makes plain_proposal
    (as_tried
    (proposed (stage_rule c.args.piece.now.count w) (target c.args.on.now) c.args.piece.now.path))
    c.proposed.result)
    (ap₂ (λ (x : ℕ) (coords : List Coord). record {
      root = x;
      coords = coords;
      name = c.args.name.now;
      accum = c.args.accum;
    })
    c.in_ok-window.ensures.1 c.in_ok-window.ensures.2)
    c.proposed.ensures
