-- Where the cursor is, and what moves are left.
use Rattle.std.proofs.Common.{◌≡◌, drop}
use Rattle.exo_tree.specs.Tree.{block}
use Rattle.cursor_forward.specs.PlainCursor.{plain_cursor}
use Rattle.schedule_calls.specs.PlainRequest.{moves_of}
use Rattle.schedule_laws.specs.Versions.Places.{moved_all}
use Rattle.schedule_run.proofs.cursors.moved_all.Given as goal

abbrev pub invariant-loop-m : goal.invariant-loop-m
invariant-loop-m l =
    moved_all (block l.p.body) (moves_of l.moves) (plain_cursor l.fn.c)
    ≡ moved_all (block l.p.body) (moves_of (drop l.m-index l.moves)) (plain_cursor l.at)
