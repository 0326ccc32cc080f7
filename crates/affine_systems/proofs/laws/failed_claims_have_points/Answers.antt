use Rattle.affine_systems.proofs.Points.{systems_law}
use Rattle.affine_systems.proofs.laws.failed_claims_have_points.Goals as goal

pub returns : goal.returns
returns c = systems_law
