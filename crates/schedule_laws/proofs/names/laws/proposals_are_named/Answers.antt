use Rattle.schedule_laws.proofs.OfNames.Proposed.{proposals_are_named}
use Rattle.schedule_laws.proofs.names.laws.proposals_are_named.Goals as goal

pub returns : goal.returns
returns c = proposals_are_named
