use Rattle.schedule_laws.proofs.OfNames.Rules.{rules_give_names}
use Rattle.schedule_laws.proofs.names.laws.rules_give_names.Goals as goal

pub returns : goal.returns
returns c = rules_give_names
