use Rattle.meaning_laws.proofs.NestsWithin.{nests_within_bounds}
use Rattle.meaning_laws.proofs.laws.nests_within_bounds.Goals as goal

pub returns : goal.returns
returns c = nests_within_bounds
