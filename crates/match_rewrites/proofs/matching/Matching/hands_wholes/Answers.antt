use Rattle.std.proofs.Common.{◌∙◌, ap}
use Rattle.exo_tree.specs.PlainProcedure.{procedure}
use Rattle.call_laws.specs.Replace.Rule as rule
use Rattle.match_rewrites.proofs.matching.Matching.hands_wholes.Goals as goal
use Rattle.check_claims.specs.Arguments.{passed_for}

pub returns : goal.returns
returns c =
    let q = procedure c.args.self.now.callee.now in
    c.hands_wholes.ensures
    ∙ ap (rule.hands_wholes (passed_for q.params c.args.args.now) q.body)
    c.in_ok-block.ensures
