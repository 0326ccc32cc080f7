use Rattle.meaning_laws.proofs.Scoped.{scope_law}
use Rattle.meaning_laws.proofs.laws.names_stay_in_scope.Goals as goal

pub returns : goal.returns
returns c = scope_law
