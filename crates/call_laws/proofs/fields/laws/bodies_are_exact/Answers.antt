use Rattle.call_laws.proofs.OfFields.Exact.{body_is_exact}
use Rattle.call_laws.proofs.fields.laws.bodies_are_exact.Goals as goal

pub returns : goal.returns
returns c = body_is_exact
