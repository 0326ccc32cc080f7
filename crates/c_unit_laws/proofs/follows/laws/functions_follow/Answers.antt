use Rattle.c_unit_laws.proofs.OfFollows.Functions.{functions_follow}
use Rattle.c_unit_laws.proofs.follows.laws.functions_follow.Goals as goal

pub returns : goal.returns
returns c = functions_follow
