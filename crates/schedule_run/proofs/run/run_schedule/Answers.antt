use Rattle.std.proofs.Common.{◌≤◌, ◌<◌, List, Option, map, length, sym, subst, arith}
use Rattle.exo_tree.specs.PlainUnit.{program}
use Rattle.schedule_text.specs.Tree as tree
use Rattle.schedule_text.specs.Views.{plain_line}
use Rattle.schedule_laws.specs.Versions.Versions.{started}
use Rattle.schedule_laws.specs.Versions.Lines.{Done}
use Rattle.schedule_run.specs.Runs.{LinesRun, ends}
use Rattle.ob_check.specs.Held.{held}
use Rattle.schedule_run.specs.Running.{MarkHolds, versions_in}
use Rattle.schedule_run.specs.declared.running.Latest.{Latest}
use Rattle.schedule_run.proofs.Going.{dropped, past_all, goes_on, refused_runs}
use Rattle.schedule_run.proofs.Caching.{none_dropped, first_cached, line_behind, lines_cached}
use Rattle.schedule_run.proofs.run.run_schedule.Goals as goal

pub returns-in-Err-run_line-clause-exact : goal.returns-in-Err-run_line-clause-exact
returns-in-Err-run_line-clause-exact g c =
    let items = c.args.lines.now in
    let k = c.loop-index.index in
    let lines = map plain_line items in
    let line = c.index-lines-index.result in
    let less : k < length items = omega (arith, c.loop-index-test.true) in
    refused_runs k lines (plain_line line) (started (program c.args.unit) c.args.shown)
    (versions_in c.loop-index.running) lines c.in-Err-run_line.why
    (dropped plain_line items k line c.index-lines-index.is less)
    c.loop-index.invariant.rest c.in-Err-run_line.ensures.runs

pub loop-index-init : goal.loop-index-init
loop-index-init g c =
    let lines = map plain_line c.args.lines.now in
    let first = started (program c.args.unit) c.args.shown in
    let is = c.in-Ok.ensures.versions in
    record {
      running = c.in-Ok.ensures.running;
      mark =
          subst (λ (o : Option Latest). MarkHolds o (held c.args.cache.now))
          (sym c.in-Ok.ensures.latest) tt;
      rest = λ end h.
          subst (λ v. LinesRun 0 lines v end) is
          (subst (λ l. LinesRun 0 l (versions_in c.in-Ok.running) end) (none_dropped lines) h);
      cached = first_cached lines first (versions_in c.in-Ok.running) _ is;
    }

pub loop-index-preserved : goal.loop-index-preserved
loop-index-preserved g c =
    let items = c.args.lines.now in
    let k = c.loop-index.index in
    let lines = map plain_line items in
    let line = c.index-lines-index.result in
    let less : k < length items = omega (arith, c.loop-index-test.true) in
    record {
      running = c.in_default.ensures.running;
      mark = c.in_default.ensures.mark;
      rest = λ end h.
          c.loop-index.invariant.rest end
          (goes_on k lines (plain_line line) (versions_in c.loop-index.running)
          (dropped plain_line items k line c.index-lines-index.is less)
          _ end c.in_default.ensures.runs h);
      cached =
          line_behind lines (started (program c.args.unit) c.args.shown) _ k lines (plain_line line)
          (versions_in c.loop-index.running) _ _ _
          (dropped plain_line items k line c.index-lines-index.is less) c.loop-index.invariant.cached
          c.in_default.ensures.cache;
    }

pub returns-clause-exact : goal.returns-clause-exact
returns-clause-exact g c =
    let items = c.args.lines.now in
    let k = c.loop-index.index in
    let v = versions_in c.loop-index.running in
    let past : length items ≤ k = omega (arith, c.loop-index-test.false) in
    c.loop-index.invariant.rest (Done v)
    (subst (λ (l : List tree.Line). LinesRun k l v (Done v)) (sym (past_all plain_line items k past))
    (ends k v))

pub returns-clause-cache : goal.returns-clause-cache
returns-clause-cache g c =
    let items = c.args.lines.now in
    let k = c.loop-index.index in
    let lines = map plain_line items in
    let past : length items ≤ k = omega (arith, c.loop-index-test.false) in
    lines_cached lines (started (program c.args.unit) c.args.shown) _ _ (versions_in c.loop-index.running) _
    (past_all plain_line items k past) c.loop-index.invariant.cached
