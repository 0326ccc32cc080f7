use Rattle.meaning_laws.proofs.FreshCopies.{copies_run_alike}
use Rattle.meaning_laws.proofs.laws.copies_run_alike.Goals as goal

pub returns : goal.returns
returns c = copies_run_alike
