use Rattle.std.proofs.Common.{length}
use Rattle.exo_reader.specs.Statements.{argument, AnyNumber}
use Rattle.exo_reader.specs.Views.{plain_argument}
use Rattle.exo_reader.proofs.Lists.{Items_read}
use Rattle.exo_reader.proofs.argument.read_arguments.Given as goal

abbrev pub invariant-more : goal.invariant-more
invariant-more l = Items_read argument AnyNumber plain_argument l.fn.tokens l.items.items l.trailing l.rest

abbrev pub decreases-more : goal.decreases-more
decreases-more l = length l.rest
