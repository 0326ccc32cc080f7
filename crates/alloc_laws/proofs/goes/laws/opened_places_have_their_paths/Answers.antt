use Rattle.alloc_laws.proofs.OfGoes.Asked.{path_law}
use Rattle.alloc_laws.proofs.goes.laws.opened_places_have_their_paths.Goals as goal

pub returns : goal.returns
returns c = path_law
