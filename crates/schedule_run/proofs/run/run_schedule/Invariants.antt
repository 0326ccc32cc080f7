-- However the lines that are left end, all lines end.
use Rattle.std.proofs.Common.{map, drop}
use Rattle.exo_tree.specs.PlainUnit.{program}
use Rattle.schedule_text.specs.Views.{plain_line}
use Rattle.schedule_laws.specs.Versions.Versions.{started}
use Rattle.schedule_laws.specs.Versions.Lines.{Outcome}
use Rattle.ob_check.specs.Held.{held}
use Rattle.schedule_run.specs.Runs.{LinesRun}
use Rattle.schedule_run.specs.Running.{IsRunning, MarkHolds, versions_in}
use Rattle.schedule_run.proofs.Caching.{RestCached}
use Rattle.schedule_run.proofs.run.run_schedule.Given as goal

abbrev pub invariant-loop-index : goal.invariant-loop-index
invariant-loop-index g l = record {
  running : IsRunning l.running;
  mark : MarkHolds l.running.latest (held l.cache);
  rest :
      (end : Outcome)
      → LinesRun l.index (drop l.index (map plain_line l.lines)) (versions_in l.running) end
      → LinesRun 0 (map plain_line l.lines) (started (program l.fn.unit) l.shown) end;
  cached :
      RestCached (map plain_line l.lines) (started (program l.fn.unit) l.shown) (held l.fn.cache)
      (drop l.index (map plain_line l.lines)) (versions_in l.running) (held l.cache);
}
