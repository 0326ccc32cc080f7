use Rattle.effect_conflicts.proofs.CopyForms.{copy_normal, copy_writable}
use Rattle.effect_conflicts.proofs.laws.copied_forms_are_renamed.Goals as goal

pub returns : goal.returns
returns c = λ base side turns own e sides h. (copy_normal base side turns own sides e h, copy_writable base side turns own sides e h)
