use Rattle.std.specs.Prelude.{Ok}
use Rattle.unit_check.specs.Cached.{systems_in}
use Rattle.unit_check.proofs.Parted.{found_is, none_has_point}
use Rattle.unit_check.proofs.showing.Showing.end.Goals as goal

pub returns-in-Ok-end-clause-shown : goal.returns-in-Ok-end-clause-shown
returns-in-Ok-end-clause-shown c = λ es os h.
    let found =
    found_is (Ok c.in-Ok.field-0) es os c.args.cache.now c.args.self c.in-Ok.is h in
    none_has_point os c.in-Ok-end.field-0 found.0
    (c.in-Ok-end.ensures.exact es (systems_in os) found.1)
    (c.in-Ok-end.ensures.shown es (systems_in os) found.1)
