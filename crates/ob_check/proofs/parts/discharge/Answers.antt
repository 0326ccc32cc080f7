use Rattle.std.proofs.Common.{[]}
use Rattle.ob_check.specs.Held.{held}
use Rattle.ob_check.specs.Systems.{systems_of}
use Rattle.ob_check.proofs.parts.discharge.Goals as goal

pub returns-clause-exact : goal.returns-clause-exact
returns-clause-exact g c =
    let es = held c.args.cache.now in
    c.end.ensures.exact es (systems_of c.args.obs.now) (c.in_ok-take.ensures.taken es [] (c.new-parts.ensures c.args.cache.now))

pub returns-clause-shown : goal.returns-clause-shown
returns-clause-shown g c =
    let es = held c.args.cache.now in
    c.end.ensures.shown es (systems_of c.args.obs.now) (c.in_ok-take.ensures.taken es [] (c.new-parts.ensures c.args.cache.now))

pub returns-clause-held : goal.returns-clause-held
returns-clause-held g c =
    let es = held c.args.cache.now in
    c.end.ensures.held es (systems_of c.args.obs.now) (c.in_ok-take.ensures.taken es [] (c.new-parts.ensures c.args.cache.now))
