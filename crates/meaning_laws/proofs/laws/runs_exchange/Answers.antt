use Rattle.meaning_laws.proofs.UnitFootprints.{runs_exchange}
use Rattle.meaning_laws.proofs.laws.runs_exchange.Goals as goal

pub returns : goal.returns
returns c = runs_exchange
