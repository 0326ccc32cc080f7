use Rattle.exo_tree.specs.PlainPlace.{branch_taken}
use Rattle.buffer_rewrites.specs.PlainInner.{plain_lifting}
use Rattle.buffer_rewrites.proofs.Lifted.{all_moves, moves_are, so_many_before}
use Rattle.buffer_rewrites.proofs.found.LiftingAt.moves.Goals as goal

pub returns : goal.returns
returns c =
    let l = c.args.self.now in
    moves_are (branch_taken c.args.branch) (plain_lifting l) l.index c.put_other.new.all
    (so_many_before l.block.now l.index l.inside)
    (all_moves _ _ _ _ c.in_ok-all.all c.put_behind.new.all _ c.put_other.new.all
    c.in_ok-all.ensures c.in_ok-put_behind.ensures c.in_ok-put_other.ensures)
