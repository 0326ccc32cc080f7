use Rattle.exo_tree.specs.Tree.{block}
use Rattle.exo_tree.specs.PlainProcedure.{procedure}
use Rattle.tree_edits.specs.Made.Ids.{next_id}
use Rattle.loop_laws.specs.JoinLoops.{joining, joined_loop}
use Rattle.loop_rewrites.specs.Nest.PlainTwo.{plain_loops}
use Rattle.loop_rewrites.proofs.Asked.{made_of}
use Rattle.loop_rewrites.proofs.nest.joining.JoiningOnPiece.made.Goals as goal

pub returns : goal.returns
returns c =
    made_of (joining (next_id (procedure c.args.on.now.proc.now))) joined_loop (plain_loops c.in_ok-n.n) _
    (block c.in_ok-old.old) _ c.in_ok-old.ensures c.in_ok-n.ensures c.in_ok-joined.ensures
