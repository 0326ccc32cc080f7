use Rattle.meaning_laws.proofs.NestsWithin.{nests_from_footprints}
use Rattle.meaning_laws.proofs.laws.nests_from_footprints.Goals as goal

pub returns : goal.returns
returns c = nests_from_footprints
