use Rattle.std.proofs.Common.{subst}
use Rattle.schedule_text.specs.Views.{plain_line}
use Rattle.schedule_calls.specs.Answers.{IsAnswer}
use Rattle.schedule_calls.specs.PlainRequest.{plain_request}
use Rattle.schedule_run.specs.Running.{versions_in}
use Rattle.schedule_run.proofs.Forms.{asked_forms}
use Rattle.schedule_run.proofs.Going.{asked_runs, unasked_runs}
use Rattle.schedule_run.proofs.Caching.{asked_cached}
use Rattle.schedule_run.proofs.running.Running.run_line.Goals as goal

pub perform-requires-clause-forms : goal.perform-requires-clause-forms
perform-requires-clause-forms g c κs within =
    asked_forms (plain_line c.args.line.now) (plain_request c.in-Ok.request)
    (subst (IsAnswer (plain_line c.args.line.now)) c.in-Ok.is c.in_ok-read.ensures)

pub returns-in-Ok-clause-runs : goal.returns-in-Ok-clause-runs
returns-in-Ok-clause-runs g c =
    asked_runs (plain_line c.args.line.now) (plain_request c.in-Ok.request)
    (versions_in c.args.self.now) (versions_in c.perform.new.self) c.perform.result
    (subst (IsAnswer (plain_line c.args.line.now)) c.in-Ok.is c.in_ok-read.ensures)
    c.perform.ensures.performs

pub returns-in-Err-clause-runs : goal.returns-in-Err-clause-runs
returns-in-Err-clause-runs g c =
    unasked_runs (plain_line c.args.line.now) (versions_in c.args.self.now) c.in-Err.fault
    c.unasked.result c.unasked.ensures
    (subst (IsAnswer (plain_line c.args.line.now)) c.in-Err.is c.in_ok-read.ensures)

pub returns-in-Ok-clause-cache : goal.returns-in-Ok-clause-cache
returns-in-Ok-clause-cache g c =
    asked_cached (plain_line c.args.line.now) (plain_request c.in-Ok.request)
    (versions_in c.args.self.now) (versions_in c.perform.new.self) c.perform.result _ _
    (subst (IsAnswer (plain_line c.args.line.now)) c.in-Ok.is c.in_ok-read.ensures)
    c.perform.ensures.performs c.perform.ensures.cache
