-- The rest of the path leads to the piece.
use Rattle.std.proofs.Common.{◌≡◌, drop, map}
use Rattle.exo_tree.specs.PlainPlace.{step_taken}
use Rattle.exo_tree.specs.PlainUnit.{program}
use Rattle.config_state.specs.Pieces.{piece_at}
use Rattle.config_state.proofs.Pieces.{piece_from}
use Rattle.config_state.proofs.piece.piece_at.Given as goal

abbrev pub invariant-loop-step : goal.invariant-loop-step
invariant-loop-step l =
    piece_from l.count (map step_taken (drop l.step-index l.rest)) l.from l.block
    ≡ piece_at (program l.unit) l.fn.p.0 l.path l.count
