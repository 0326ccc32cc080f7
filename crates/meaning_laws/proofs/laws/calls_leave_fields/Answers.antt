use Rattle.meaning_laws.proofs.UnitFields.{unit_leaves}
use Rattle.meaning_laws.proofs.laws.calls_leave_fields.Goals as goal

pub returns : goal.returns
returns c = unit_leaves
