use Rattle.std.proofs.Common.{◌∙◌}
use Rattle.step_rules.specs.Lawful.{scope_here}
use Rattle.step_driver.specs.PlainTarget.{target, plain_piece}
use Rattle.step_driver.specs.Spots.{spot_at}
use Rattle.tree_findings.specs.Walked.{place_scope}
use Rattle.stage_rewrites.proofs.OfTested.Missed.{first_missed, rest_missed}
use Rattle.stage_rewrites.proofs.tested.staging.Staging.misses_names.Goals as goal
use Rattle.stage_rewrites.proofs.tested.staging.Staging.misses_names.Goals.{then-has, else-has}

pub returns : goal.returns
returns c =
    let before = place_scope c.in_ok-scope.scope in
    let here = scope_here (spot_at (target c.args.on.now) (plain_piece c.args.piece.now)) in
    let x = c.args.self.now.root.0 in
    let cs = c.args.self.now.coords.now in
    elim c.if-has.branch [
      | then-has w ↦
          w.result-is
          ∙ first_missed before here x cs c.in_ok-scope.ensures c.has.result c.has.ensures
          w.if-has.true
      | else-has w ↦
          w.result-is ∙ w.in_coords.ensures
          ∙ rest_missed before here x cs c.in_ok-scope.ensures c.has.result _ c.has.ensures
          w.if-has.false w.as_slice.ensures
    ]
