use Rattle.meaning_laws.proofs.Copies.{unbound_law}
use Rattle.meaning_laws.proofs.laws.free_names_stand_for_nothing.Goals as goal

pub returns : goal.returns
returns c = unbound_law
