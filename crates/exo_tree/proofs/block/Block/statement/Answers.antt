use Rattle.std.proofs.Common.{◌∙◌}
use Rattle.exo_tree.specs.PlainStatement.{statement}
use Rattle.exo_tree.proofs.Trees.{drop_at_read, nodes_of_part}
use Rattle.exo_tree.proofs.block.Block.statement.Goals as goal

pub returns-clause-value : goal.returns-clause-value
returns-clause-value c = rw c.as_ref.ensures (drop_at_read (λ r. statement r.value) c.list.result.now.items c.args.self.now c.args.k c.index.result.now (c.list.ensures ∙ c.self.view_is) c.index.ensures c.requires)

pub returns-clause-smaller : goal.returns-clause-smaller
returns-clause-smaller c = rw c.as_ref.ensures (nodes_of_part c.args.self.now _ c.args.k (statement c.index.result.now.value) (drop_at_read (λ r. statement r.value) c.list.result.now.items c.args.self.now c.args.k c.index.result.now (c.list.ensures ∙ c.self.view_is) c.index.ensures c.requires))
