-- Where the cursor is, and what is left of the way.
use Rattle.std.proofs.Common.{◌≡◌, ◌≤◌, map, take, length}
use Rattle.exo_tree.specs.declared.number.ProcId.{ProcId}
use Rattle.cursor_forward.specs.PlainCursor.{plain_cursor}
use Rattle.schedule_run.specs.Ways.{along}
use Rattle.schedule_run.specs.PlainVersions.{versions}
use Rattle.schedule_run.proofs.session.Session.along.Given as goal

abbrev pub invariant-loop-left : goal.invariant-loop-left
invariant-loop-left l = record {
  within : l.left ≤ length l.way;
  same :
      along (versions l.self) (map (λ (j : ProcId). j.0) l.way) (plain_cursor l.fn.c)
      ≡ along (versions l.self) (map (λ (j : ProcId). j.0) (take l.left l.way)) (plain_cursor l.at);
}

abbrev pub decreases-loop-left : goal.decreases-loop-left
decreases-loop-left l = l.left
