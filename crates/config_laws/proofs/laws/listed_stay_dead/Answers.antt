use Rattle.config_laws.proofs.AtEnd.{listed_stay_dead}
use Rattle.config_laws.proofs.laws.listed_stay_dead.Goals as goal

pub returns : goal.returns
returns c = listed_stay_dead
