use Rattle.meaning_laws.proofs.UnitFootprints.{runs_go_by_footprint}
use Rattle.meaning_laws.proofs.laws.runs_go_by_footprint.Goals as goal

pub returns : goal.returns
returns c = runs_go_by_footprint
