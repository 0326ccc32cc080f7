use Rattle.buffer_laws.proofs.OnlyAdds.{only_adds_at_place}
use Rattle.buffer_laws.proofs.laws.blocks_only_add_at_places.Goals as goal

pub returns : goal.returns
returns c = only_adds_at_place
