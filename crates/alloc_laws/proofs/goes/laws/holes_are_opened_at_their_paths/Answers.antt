use Rattle.alloc_laws.proofs.OfGoes.Asked.{hole_opens}
use Rattle.alloc_laws.proofs.goes.laws.holes_are_opened_at_their_paths.Goals as goal

pub returns : goal.returns
returns c = hole_opens
