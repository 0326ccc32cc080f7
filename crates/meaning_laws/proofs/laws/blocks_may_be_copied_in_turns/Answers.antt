use Rattle.meaning_laws.proofs.CopiesAtPlaces.{may_copy_in_turn}
use Rattle.meaning_laws.proofs.laws.blocks_may_be_copied_in_turns.Goals as goal

pub returns : goal.returns
returns c = may_copy_in_turn
