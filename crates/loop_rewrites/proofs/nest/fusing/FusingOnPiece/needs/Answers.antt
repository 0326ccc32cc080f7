use Rattle.exo_tree.specs.Tree.{block}
use Rattle.cursor_forward.specs.PlainProposal.{cause_of}
use Rattle.step_driver.specs.Needs.PlainNeed.{plain_need}
use Rattle.loop_laws.specs.Nest.Fuse.{fusing, fuse_needs}
use Rattle.loop_rewrites.proofs.Asked.{nothing_asked}
use Rattle.loop_rewrites.proofs.nest.fusing.FusingOnPiece.needs.Goals as goal

pub returns : goal.returns
returns c =
    nothing_asked plain_need (fuse_needs c.args.piece.now.path) fusing c.new.result.items
    (cause_of c.in-Err.error) (block c.in_ok-old.old) _ c.in_ok-old.ensures c.in-Err.ensures
    c.if-is_memory.ensures c.new.ensures.items
