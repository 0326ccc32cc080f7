use Rattle.std.proofs.Common.{◌≡◌, List, IfOk, subst}
use Rattle.exo_tree.specs.Tree.{Statement, Block, block}
use Rattle.exo_tree.specs.Renaming.{fresh}
use Rattle.loop_rewrites.proofs.dividing.Dividing.tail_turns.Goals as goal

pub returns : goal.returns
returns c base =
    subst (λ (x : Block). IfOk c.copy.result (λ (b : List Statement). block b ≡ fresh c.args.fresh.now x))
    (c.in_ok-turns.ensures base) c.copy.ensures.copy
