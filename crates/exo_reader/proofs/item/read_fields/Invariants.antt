use Rattle.std.proofs.Common.{length}
use Rattle.exo_reader.specs.Items.{field}
use Rattle.exo_reader.specs.Views.{plain_field}
use Rattle.exo_reader.proofs.Lists.{Lines_read}
use Rattle.exo_reader.proofs.item.read_fields.Given as goal

abbrev pub invariant-more : goal.invariant-more
invariant-more l = Lines_read field plain_field l.fn.tokens l.list.items l.rest

abbrev pub decreases-more : goal.decreases-more
decreases-more l = length l.rest
