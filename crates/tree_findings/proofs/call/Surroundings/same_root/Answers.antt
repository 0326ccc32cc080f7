use Rattle.std.proofs.Common.{◌∙◌}
use Rattle.tree_findings.specs.Walked.{ground_kinds}
use Rattle.tree_findings.proofs.Calls.{same_roots}
use Rattle.tree_findings.proofs.call.Surroundings.same_root.Goals as goal

pub returns : goal.returns
returns c =
    c.same_buffer.ensures ∙ same_roots (ground_kinds c.args.self.now) c.args.one c.args.other
