use Rattle.meaning_laws.proofs.PlaceFacts.{plain_telling}
use Rattle.meaning_laws.proofs.laws.plain_writes_are_told.Goals as goal

pub returns : goal.returns
returns c = plain_telling
