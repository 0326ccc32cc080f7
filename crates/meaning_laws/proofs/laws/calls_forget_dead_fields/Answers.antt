use Rattle.meaning_laws.proofs.UnitFields.{unit_forgets}
use Rattle.meaning_laws.proofs.laws.calls_forget_dead_fields.Goals as goal

pub returns : goal.returns
returns c = unit_forgets
