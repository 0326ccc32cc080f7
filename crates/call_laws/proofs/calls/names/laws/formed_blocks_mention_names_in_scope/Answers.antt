use Rattle.call_laws.proofs.OfCalls.OfNames.Mentions.{formed_mentions}
use Rattle.call_laws.proofs.calls.names.laws.formed_blocks_mention_names_in_scope.Goals as goal

pub returns : goal.returns
returns c = formed_mentions
