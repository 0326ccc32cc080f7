use Rattle.effect_laws.proofs.Clear.{clear_law}
use Rattle.effect_laws.proofs.laws.shown_conflicts_are_clear.Goals as goal

pub returns : goal.returns
returns c = clear_law c.failed_claims_have_points.ensures
