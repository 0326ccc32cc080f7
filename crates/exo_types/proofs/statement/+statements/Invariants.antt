-- The tokens that are left fall; a walk through a block has gone from its first statement to the one at hand.
use Rattle.std.proofs.Common.{◌+◌, ◌*◌, drop, map}
use Rattle.text_expressions.specs.Views.{tree_of}
use Rattle.exo_reader.specs.Source.{branch, loop, block_of}
use Rattle.exo_reader.specs.Views.{plain_statement}
use Rattle.exo_types.specs.StatementRules.{statement_width, block_width}
use Rattle.exo_types.proofs.Walked.{SoFar}
use Rattle.exo_types.proofs.statement.+statements.Given as goal

abbrev pub decreases-add_statement : goal.decreases-add_statement
decreases-add_statement l = 4 * statement_width (plain_statement l.s.now) + 2

abbrev pub decreases-add_branch : goal.decreases-add_branch
decreases-add_branch l = 4 * statement_width (branch (tree_of l.c.now) (block_of (map plain_statement l.a.now)) (block_of (map plain_statement l.b.now))) + 1

abbrev pub decreases-add_else : goal.decreases-add_else
decreases-add_else l = 4 * block_width (block_of (map plain_statement l.b.now)) + 4

abbrev pub decreases-add_loop : goal.decreases-add_loop
decreases-add_loop l = 4 * statement_width (loop l.i.now (tree_of l.low.now) (tree_of l.high.now) (block_of (map plain_statement l.a.now))) + 1

abbrev pub decreases-add_statements : goal.decreases-add_statements
decreases-add_statements l = 4 * block_width (block_of (map plain_statement l.statements.now)) + 3

abbrev pub invariant-add_statements-loop-s : goal.invariant-add_statements-loop-s
invariant-add_statements-loop-s l = SoFar l.context l.fn.walk l.walk l.made l.n l.next (block_of (map plain_statement l.statements)) (block_of (map plain_statement (drop l.s-index l.statements)))
