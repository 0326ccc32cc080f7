use Rattle.exo_types.proofs.Writes.{signature_same}
use Rattle.exo_types.proofs.laws.signatures_agree.Goals as goal

pub returns : goal.returns
returns c = signature_same
