use Rattle.exo_tree.specs.Tree.{block}
use Rattle.tree_findings.specs.Findings.{findings_of_body}
use Rattle.step_rules.specs.Answer.{body_with}
use Rattle.step_driver.specs.PlainTarget.{target, plain_piece}
use Rattle.step_driver.specs.Spots.{spot_at}
use Rattle.step_driver.proofs.Refused.{needs_keep_rules}
use Rattle.step_driver.proofs.driver.answered_there.Goals as goal

pub finish-requires-clause-rules : goal.finish-requires-clause-rules
finish-requires-clause-rules g c =
    let t = target c.args.on.now in
    let body = body_with (spot_at t (plain_piece c.args.piece.now)) (block c.in_ok-plain.plain) in
    needs_keep_rules (findings_of_body t.unit t.proc.params body) c.in_ok-found.found _ c.in_ok-found.ensures
    c.in_ok-shape_kept.ensures
