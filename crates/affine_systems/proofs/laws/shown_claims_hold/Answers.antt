use Rattle.affine_systems.proofs.Points.{shown_law}
use Rattle.affine_systems.proofs.laws.shown_claims_hold.Goals as goal

pub returns : goal.returns
returns c = shown_law
