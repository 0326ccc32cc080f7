use Rattle.schedule_laws.proofs.OfOperators.ScopeExamples.{scopes_instance}
use Rattle.schedule_laws.proofs.operators.laws.scopes_instance.Goals as goal

pub returns : goal.returns
returns c = scopes_instance
