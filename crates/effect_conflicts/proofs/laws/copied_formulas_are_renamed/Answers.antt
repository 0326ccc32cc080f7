use Rattle.effect_conflicts.proofs.CopyForms.{copy_formula, copy_condition_writable}
use Rattle.effect_conflicts.proofs.laws.copied_formulas_are_renamed.Goals as goal

pub returns : goal.returns
returns c = λ base side turns own e sides h. (copy_formula base side turns own sides e h, copy_condition_writable base side turns own sides e h)
