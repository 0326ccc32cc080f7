use Rattle.call_laws.proofs.OfCalls.Puts.{puts_renumbered}
use Rattle.call_laws.proofs.calls.laws.new_ids_and_arguments_are_put_at_once.Goals as goal

pub returns : goal.returns
returns c = puts_renumbered
