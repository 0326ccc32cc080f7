use Rattle.std.proofs.Common.{◌+◌, drop, refl, arith}
use Rattle.exo_tree.specs.Tree.{block}
use Rattle.exo_tree.specs.PlainStatement.{statement}
use Rattle.exo_tree.specs.Mapped.{mapped_statement, mapped_block}
use Rattle.exo_tree.proofs.Walk.{walk_on, walk_end}
use Rattle.exo_tree.proofs.block.+mapped.Goals as goal

pub Block::mapped-loop-k-preserved : goal.Block::mapped-loop-k-preserved
Block::mapped-loop-k-preserved g t c =
    walk_on (mapped_block (g.L.Leaves.leaves c.args.leaves.now)) (mapped_statement (g.L.Leaves.leaves c.args.leaves.now)) (λ a b. refl)
    c.loop-k.made c.push.new.self c.args.self.now (drop (c.loop-k.k + 1) c.args.self.now) c.loop-k.k
    (statement c.statement.result.now) (statement c.in_ok-mapped.field-0) (mapped_block (g.L.Leaves.leaves c.args.leaves.now) (block c.args.self.now))
    c.statement.ensures.value c.in_ok-mapped.ensures c.in_ok-push.ensures.pushed c.loop-k.invariant

pub Block::mapped-returns : goal.Block::mapped-returns
Block::mapped-returns g t c =
    walk_end (mapped_block (g.L.Leaves.leaves c.args.leaves.now)) refl c.loop-k.made c.args.self.now c.loop-k.k
    (mapped_block (g.L.Leaves.leaves c.args.leaves.now) (block c.args.self.now)) (omega arith) c.loop-k.invariant
