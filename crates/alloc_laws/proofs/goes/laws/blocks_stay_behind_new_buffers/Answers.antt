use Rattle.alloc_laws.proofs.OfGoes.Untouched.{untouched_goes}
use Rattle.alloc_laws.proofs.goes.laws.blocks_stay_behind_new_buffers.Goals as goal

pub returns : goal.returns
returns c = untouched_goes
