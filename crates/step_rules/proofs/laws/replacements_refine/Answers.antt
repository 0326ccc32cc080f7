use Rattle.step_rules.proofs.Replaced.{replaced_refines}
use Rattle.step_rules.proofs.laws.replacements_refine.Goals as goal

pub returns : goal.returns
returns c = replaced_refines
