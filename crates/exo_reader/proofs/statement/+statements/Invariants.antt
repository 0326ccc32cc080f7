use Rattle.std.proofs.Common.{length, ◌+◌, ◌*◌}
use Rattle.exo_reader.specs.Statements.{statement}
use Rattle.exo_reader.specs.Views.{plain_statement}
use Rattle.exo_reader.proofs.Lists.{Lines_read}
use Rattle.exo_reader.proofs.statement.+statements.Given as goal

abbrev pub decreases-read_statement : goal.decreases-read_statement
decreases-read_statement l = 16 * length l.tokens.now + 1

abbrev pub decreases-read_if : goal.decreases-read_if
decreases-read_if l = 16 * length l.after.now + 8

abbrev pub decreases-read_else : goal.decreases-read_else
decreases-read_else l = 16 * length l.tokens.now + 6

abbrev pub decreases-read_for : goal.decreases-read_for
decreases-read_for l = 16 * length l.after.now + 8

abbrev pub decreases-read_block : goal.decreases-read_block
decreases-read_block l = 16 * length l.tokens.now + 4

abbrev pub decreases-read_body : goal.decreases-read_body
decreases-read_body l = 16 * length l.tokens.now + 2

abbrev pub invariant-read_body-more : goal.invariant-read_body-more
invariant-read_body-more l = Lines_read (statement l.nesting) plain_statement l.fn.tokens l.inside.items l.rest

abbrev pub decreases-read_body-more : goal.decreases-read_body-more
decreases-read_body-more l = length l.rest
