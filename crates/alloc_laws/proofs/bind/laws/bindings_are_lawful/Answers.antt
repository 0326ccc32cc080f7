use Rattle.alloc_laws.proofs.OfBind.Binding.{bind_is_lawful}
use Rattle.alloc_laws.proofs.bind.laws.bindings_are_lawful.Goals as goal

pub returns : goal.returns
returns c = bind_is_lawful
