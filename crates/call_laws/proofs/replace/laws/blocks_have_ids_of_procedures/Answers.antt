use Rattle.call_laws.proofs.OfReplace.PieceIds.{piece_ids}
use Rattle.call_laws.proofs.replace.laws.blocks_have_ids_of_procedures.Goals as goal

pub returns : goal.returns
returns c = piece_ids
