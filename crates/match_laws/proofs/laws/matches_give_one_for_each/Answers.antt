use Rattle.match_laws.proofs.Matched.{one_for_each}
use Rattle.match_laws.proofs.laws.matches_give_one_for_each.Goals as goal

pub returns : goal.returns
returns c = one_for_each
