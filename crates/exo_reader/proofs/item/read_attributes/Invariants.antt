use Rattle.std.proofs.Common.{length}
use Rattle.exo_reader.specs.Items.{attribute}
use Rattle.exo_reader.specs.Views.{plain_attribute}
use Rattle.exo_reader.proofs.Lists.{Lines_read}
use Rattle.exo_reader.proofs.item.read_attributes.Given as goal

abbrev pub invariant-more : goal.invariant-more
invariant-more l = Lines_read attribute plain_attribute l.fn.tokens l.list.items l.rest

abbrev pub decreases-more : goal.decreases-more
decreases-more l = length l.rest
