use Rattle.meaning_laws.proofs.FirstState.{first_state_law}
use Rattle.meaning_laws.proofs.laws.first_states_are_admissible.Goals as goal

pub returns : goal.returns
returns c = first_state_law
