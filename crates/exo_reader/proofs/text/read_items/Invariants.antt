use Rattle.std.proofs.Common.{length, map}
use Rattle.text_phrases.proofs.Sequences.{Items}
use Rattle.exo_reader.specs.Items.{item}
use Rattle.exo_reader.specs.Views.{plain_item}
use Rattle.exo_reader.proofs.Items.{AtEnd}
use Rattle.exo_reader.proofs.text.read_items.Given as goal

abbrev pub invariant-more : goal.invariant-more
invariant-more l = Items item AtEnd l.fn.tokens (map plain_item l.items.items) l.rest

abbrev pub decreases-more : goal.decreases-more
decreases-more l = length l.rest
