use Rattle.buffer_laws.proofs.OfStaging.Box.{box_law}
use Rattle.buffer_laws.proofs.staging.laws.spans_are_the_box.Goals as goal

pub returns : goal.returns
returns c = box_law
