use Rattle.step_rules.proofs.Meaning.{proposals_are_kept}
use Rattle.step_rules.proofs.laws.proposals_are_kept.Goals as goal

pub returns : goal.returns
returns c = proposals_are_kept
