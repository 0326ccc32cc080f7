use Rattle.alloc_laws.proofs.OfStage.Carrying.{stage_is_carrying}
use Rattle.alloc_laws.proofs.stage.laws.stagings_carry.Goals as goal

pub returns : goal.returns
returns c = stage_is_carrying
