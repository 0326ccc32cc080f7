use Rattle.call_laws.proofs.OfCalls.Fresh.{fresh_ids}
use Rattle.call_laws.proofs.calls.laws.new_numbers_are_given_once.Goals as goal

pub returns : goal.returns
returns c = fresh_ids
