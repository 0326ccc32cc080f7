use Rattle.alloc_laws.proofs.OfBind.Binding.{bind_is_carrying}
use Rattle.alloc_laws.proofs.bind.laws.bindings_carry.Goals as goal

pub returns : goal.returns
returns c = bind_is_carrying
