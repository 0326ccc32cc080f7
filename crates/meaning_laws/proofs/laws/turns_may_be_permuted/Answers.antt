use Rattle.meaning_laws.proofs.TurnOrders.{turns_may_be_permuted}
use Rattle.meaning_laws.proofs.laws.turns_may_be_permuted.Goals as goal

pub returns : goal.returns
returns c = turns_may_be_permuted
