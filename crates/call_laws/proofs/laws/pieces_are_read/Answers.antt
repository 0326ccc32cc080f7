use Rattle.call_laws.proofs.Spots.{pieces_are_read}
use Rattle.call_laws.proofs.laws.pieces_are_read.Goals as goal

pub returns : goal.returns
returns c = pieces_are_read
