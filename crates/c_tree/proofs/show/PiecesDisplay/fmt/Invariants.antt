-- What is written and what is left make the whole.
use Rattle.std.proofs.Common.{◌≡◌, ℕ, List, ◌++◌, drop, map}
use Rattle.std.specs.Fmt.{HasWritten, IsPlainFormatter}
use Rattle.c_tree.specs.CText.{each, piece_text}
use Rattle.c_tree.specs.Plain.{plain_piece}
use Rattle.c_tree.proofs.show.PiecesDisplay.fmt.Given as goal

abbrev pub invariant-loop-piece : goal.invariant-loop-piece
invariant-loop-piece g l =
    IsPlainFormatter l.fn.f
    → (done : List ℕ) × HasWritten g.W.Write.write_str_gives l.fn.f done l.f
    × (done ++ each piece_text (map plain_piece (drop l.piece-index l.pieces)) ≡ each piece_text (map plain_piece l.fn.self.0.now.items))
