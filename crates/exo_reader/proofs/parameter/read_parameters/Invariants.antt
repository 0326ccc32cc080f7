use Rattle.std.proofs.Common.{length}
use Rattle.exo_reader.specs.Parts.{parameter, FewParameters}
use Rattle.exo_reader.specs.Views.{plain_parameter}
use Rattle.exo_reader.proofs.Lists.{Items_read}
use Rattle.exo_reader.proofs.parameter.read_parameters.Given as goal

abbrev pub invariant-more : goal.invariant-more
invariant-more l = Items_read parameter FewParameters plain_parameter l.fn.tokens l.items.items l.trailing l.rest

abbrev pub decreases-more : goal.decreases-more
decreases-more l = length l.rest
