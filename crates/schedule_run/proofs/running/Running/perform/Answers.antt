use Rattle.std.proofs.Common.{◌≡◌, refl, sym, subst}
use Rattle.std.specs.Prelude.{OnOk}
use Rattle.ob_check.specs.Held.{held}
use Rattle.unit_check.specs.Cached.{discharged_all}
use Rattle.schedule_calls.specs.PlainRequest.{plain_request}
use Rattle.schedule_calls.specs.declared.request.Request.{Request}
use Rattle.schedule_laws.specs.Versions.Lines.{performed}
use Rattle.schedule_laws.specs.Operators.Operators.{act_of}
use Rattle.schedule_run.specs.Outcomes.{Performs}
use Rattle.schedule_run.specs.PlainVersions.{versions}
use Rattle.schedule_run.specs.Running.{versions_in}
use Rattle.schedule_run.specs.Cached.{lists_of}
use Rattle.schedule_run.proofs.Caching.{only_ok}
use Rattle.schedule_run.proofs.Staying.{stays_running}
use Rattle.schedule_run.proofs.running.Running.perform.Goals as goal

pub returns-in-Apply-clause-performs : goal.returns-in-Apply-clause-performs
returns-in-Apply-clause-performs g c =
    subst (λ (r : Request). Performs (performed (versions_in c.args.self.now) (act_of (plain_request r))) (versions_in c.apply_owned.new.self) c.apply_owned.result)
    (sym c.in-Apply.is) c.apply_owned.ensures.performs

pub returns-in-Search-clause-performs : goal.returns-in-Search-clause-performs
returns-in-Search-clause-performs g c =
    subst (λ (r : Request). Performs (performed (versions_in c.args.self.now) (act_of (plain_request r))) (versions c.search_owned.new.self) c.search_owned.result)
    (sym c.in-Search.is) c.search_owned.ensures.performs

pub returns-in-Apply-clause-cache : goal.returns-in-Apply-clause-cache
returns-in-Apply-clause-cache g c =
    subst (λ (r : Request). OnOk c.apply_owned.result (held c.apply_owned.new.cache
    ≡ discharged_all (held c.args.cache.now) (lists_of (versions_in c.args.self.now) (act_of (plain_request r)))))
    (sym c.in-Apply.is) c.apply_owned.ensures.cache

pub returns-in-Search-clause-cache : goal.returns-in-Search-clause-cache
returns-in-Search-clause-cache g c =
    subst (λ (r : Request). OnOk c.search_owned.result (held c.args.cache.now
    ≡ discharged_all (held c.args.cache.now) (lists_of (versions_in c.args.self.now) (act_of (plain_request r)))))
    (sym c.in-Search.is) (only_ok c.search_owned.result refl)

pub returns-in-Moved-clause-cache : goal.returns-in-Moved-clause-cache
returns-in-Moved-clause-cache g c =
    subst (λ (r : Request). OnOk c.follow.result (held c.args.cache.now
    ≡ discharged_all (held c.args.cache.now) (lists_of (versions_in c.args.self.now) (act_of (plain_request r)))))
    (sym c.in-Moved.is) (only_ok c.follow.result refl)

pub returns-in-Emit-clause-cache : goal.returns-in-Emit-clause-cache
returns-in-Emit-clause-cache g c =
    subst (λ (r : Request). OnOk c.emit.result (held c.args.cache.now
    ≡ discharged_all (held c.args.cache.now) (lists_of (versions_in c.args.self.now) (act_of (plain_request r)))))
    (sym c.in-Emit.is) (only_ok c.emit.result refl)

pub returns-in-Search-clause-mark : goal.returns-in-Search-clause-mark
returns-in-Search-clause-mark g c = only_ok c.search_owned.result c.requires.mark

pub returns-in-Moved-clause-mark : goal.returns-in-Moved-clause-mark
returns-in-Moved-clause-mark g c = only_ok c.follow.result c.requires.mark

pub returns-in-Emit-clause-mark : goal.returns-in-Emit-clause-mark
returns-in-Emit-clause-mark g c = only_ok c.emit.result c.requires.mark

pub returns-in-Search-clause-running : goal.returns-in-Search-clause-running
returns-in-Search-clause-running g c =
    stays_running c.args.self.now c.search_owned.new.self c.search_owned.result
    c.search_owned.ensures.unit c.requires.running

pub returns-in-Moved-clause-running : goal.returns-in-Moved-clause-running
returns-in-Moved-clause-running g c =
    stays_running c.args.self.now c.follow.new.self c.follow.result c.follow.ensures.unit
    c.requires.running

pub returns-in-Emit-clause-running : goal.returns-in-Emit-clause-running
returns-in-Emit-clause-running g c =
    stays_running c.args.self.now c.emit.new.self c.emit.result c.emit.ensures.unit
    c.requires.running
