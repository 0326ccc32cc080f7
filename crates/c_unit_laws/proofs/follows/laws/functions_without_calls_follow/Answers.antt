use Rattle.c_unit_laws.proofs.OfFollows.Functions.{functions_without_calls_follow}
use Rattle.c_unit_laws.proofs.follows.laws.functions_without_calls_follow.Goals as goal

pub returns : goal.returns
returns c = functions_without_calls_follow
