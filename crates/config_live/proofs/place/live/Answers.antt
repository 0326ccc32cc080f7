use Rattle.std.proofs.Common.{Option, Some, None, Bool, false, ap, ◌∙◌}
use Rattle.exo_tree.specs.Tree.{Procedure}
use Rattle.exo_tree.specs.PlainUnit.{program}
use Rattle.config_state.proofs.Sets.{if_ok}
use Rattle.config_live.specs.Places.{side_taken, live_in_body}
use Rattle.config_live.proofs.place.live.Goals as goal

pub returns : goal.returns
returns c =
    if_ok c.live_in_body.result _ _
    (λ r h. h ∙ ap (λ (o : Option Procedure). elim o as (λ o. Bool) [
      | None ↦ false
      | Some q ↦ live_in_body (program c.args.unit.now) q.body c.args.path.now (side_taken c.args.side) c.args.f.0
    ]) c.in-Some.ensures)
    c.live_in_body.ensures
