use Rattle.alloc_laws.proofs.OfStage.Staging.{stage_is_lawful}
use Rattle.alloc_laws.proofs.stage.laws.stagings_are_lawful.Goals as goal

pub returns : goal.returns
returns c = stage_is_lawful
