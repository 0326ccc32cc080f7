use Rattle.std.proofs.Common.{◌∙◌, ap₂}
use Rattle.exo_tree.specs.Places.{same_path}
use Rattle.check_facts.proofs.PathSteps.{same_paths}
use Rattle.check_facts.proofs.agreement.is_same_path.Goals as goal

pub returns : goal.returns
returns c = c.eq.ensures ∙ same_paths c.as_slice.result.now c.as_slice-2.result.now ∙ ap₂ same_path c.as_slice.ensures.value c.as_slice-2.ensures.value
