use Rattle.check_laws.proofs.OfFacts.Shown.{conditions_hold}
use Rattle.check_laws.proofs.facts.laws.shown_conditions_hold.Goals as goal

pub returns : goal.returns
returns c = conditions_hold c.contexts_hold.ensures c.well_formed_is_allowed.ensures c.shown_claims_hold.ensures
