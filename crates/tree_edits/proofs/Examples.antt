-- Counts of entries by computation.
use Rattle.std.proofs.Common.{refl}
use Rattle.tree_edits.specs.Laws.{EntriesOfAWay}

pub entries_of_a_way : EntriesOfAWay
entries_of_a_way = refl
