use Rattle.c_tree.specs.Plain.{plain_statement}
use Rattle.c_tree.proofs.Blocks.{drop_at_read, nodes_of_part}
use Rattle.c_tree.proofs.tree.CBlock.statement.Goals as goal

pub returns-clause-value : goal.returns-clause-value
returns-clause-value c = drop_at_read plain_statement c.self.inside.statements.items c.args.self.now c.args.k c.index.result.now c.self.view_is c.index.ensures c.requires

pub returns-clause-smaller : goal.returns-clause-smaller
returns-clause-smaller c = nodes_of_part c.args.self.now _ c.args.k (plain_statement c.index.result.now) (drop_at_read plain_statement c.self.inside.statements.items c.args.self.now c.args.k c.index.result.now c.self.view_is c.index.ensures c.requires)
