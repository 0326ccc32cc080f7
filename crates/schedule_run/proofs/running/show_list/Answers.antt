use Rattle.std.proofs.Common.{map, sym}
use Rattle.affine_systems.specs.Outcomes.{plain_obligation}
use Rattle.ob_check.specs.Held.{held}
use Rattle.unit_check.specs.Checked.{first_open}
use Rattle.schedule_run.proofs.Settling.{refused_alike, settles}
use Rattle.schedule_run.proofs.running.show_list.Goals as goal

pub returns-then-settled-clause-exact : goal.returns-then-settled-clause-exact
returns-then-settled-clause-exact g c = (c.requires c.if-settled.true).0

pub returns-then-settled-clause-cache : goal.returns-then-settled-clause-cache
returns-then-settled-clause-cache g c = sym (c.requires c.if-settled.true).1

pub returns-then-settled-clause-settled : goal.returns-then-settled-clause-settled
returns-then-settled-clause-settled g c = λ is. c.requires c.if-settled.true

pub returns-in-Err-clause-exact : goal.returns-in-Err-clause-exact
returns-in-Err-clause-exact g c =
    refused_alike c.in-Err.why (first_open (map plain_obligation c.args.owed.now))
    c.in-Err.ensures.exact

pub returns-in-Ok-clause-settled : goal.returns-in-Ok-clause-settled
returns-in-Ok-clause-settled g c = λ is.
    settles c.known_lists_settle.ensures c.args.owed.now (held c.args.cache.now)
    (held c.show.new.cache)
    (c.is_known-known.ensures is) c.in-Ok.ensures.exact c.in-Ok.ensures.cache

pub returns-in-Ok-clause-exact : goal.returns-in-Ok-clause-exact
returns-in-Ok-clause-exact g c = c.in-Ok.ensures.exact

pub returns-in-Ok-clause-cache : goal.returns-in-Ok-clause-cache
returns-in-Ok-clause-cache g c = c.in-Ok.ensures.cache
