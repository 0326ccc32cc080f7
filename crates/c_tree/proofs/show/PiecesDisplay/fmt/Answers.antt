use Rattle.std.proofs.Common.{◌++◌, arith, rules}
use Rattle.std.proofs.Output.{has_written_append}
use Rattle.c_tree.specs.CText.{piece_text}
use Rattle.c_tree.specs.Plain.{plain_piece}
use Rattle.c_tree.proofs.Listed.{one_more}
use Rattle.c_tree.proofs.show.PiecesDisplay.fmt.Goals as goal

pub loop-piece-preserved : goal.loop-piece-preserved
loop-piece-preserved g c = λ plain.
    let now = c.loop-piece.invariant plain in
    let text = piece_text (plain_piece c.piece-item.result) in
    (now.0 ++ text, has_written_append _ _ _ _ _ _ now.1 (search rules), one_more piece_text plain_piece c.as_slice-pieces.result.now c.loop-piece.piece-index c.piece-item.result now.0 _ (omega arith) c.piece-item.is now.2)
