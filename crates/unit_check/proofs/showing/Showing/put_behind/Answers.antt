use Rattle.std.specs.Prelude.{Ok, Err}
use Rattle.std.proofs.Common.{[]}
use Rattle.unit_check.specs.Cached.{systems_in}
use Rattle.unit_check.proofs.Parted.{found_is}
use Rattle.unit_check.proofs.showing.Showing.put_behind.Goals as goal

pub returns-in-Err-clause-exact : goal.returns-in-Err-clause-exact
returns-in-Err-clause-exact c = λ os d h.
    (found_is (Err c.in-Err.why) [] os d c.args.self c.in-Err.is h).0

pub returns-in-Ok-append-clause-exact : goal.returns-in-Ok-append-clause-exact
returns-in-Ok-append-clause-exact c = λ os d h.
    (found_is (Ok c.in-Ok.field-0) [] os d c.args.self c.in-Ok.is h).0

pub returns-in-Ok-append-clause-taken : goal.returns-in-Ok-append-clause-taken
returns-in-Ok-append-clause-taken c = λ ss os e d t h.
    c.in-Ok-append.ensures ss (systems_in os) e d t
    (found_is (Ok c.in-Ok.field-0) [] os d c.args.self c.in-Ok.is h).1
