use Rattle.call_laws.proofs.OfCalls.OfNames.Mentions.{free_unmentioned}
use Rattle.call_laws.proofs.calls.names.laws.formed_blocks_mention_no_free_name.Goals as goal

pub returns : goal.returns
returns c = free_unmentioned
