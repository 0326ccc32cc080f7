use Rattle.exo_meaning.proofs.Tested.{test_law}
use Rattle.exo_meaning.proofs.laws.windows_are_tested.Goals as goal

pub returns : goal.returns
returns c = test_law
