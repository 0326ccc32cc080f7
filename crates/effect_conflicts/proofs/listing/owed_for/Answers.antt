use Rattle.std.proofs.Common.{◌^◌, subst}
use Rattle.affine_systems.specs.Outcomes.{IsAnswer}
use Rattle.affine_systems.specs.Systems.{cases_stated}
use Rattle.exo_effects.specs.Accesses.{access_of}
use Rattle.exo_effects.specs.Conflicts.{meeting, against, pair_fits}
use Rattle.exo_effects.specs.PlainUses.{plain_use}
use Rattle.effect_conflicts.specs.PlainCopies.{plain_order}
use Rattle.effect_conflicts.proofs.Answered.{left_wide, all_made}
use Rattle.effect_conflicts.proofs.listing.owed_for.Goals as goal

pub returns-in_err-context : goal.returns-in_err-context
returns-in_err-context g c =
    let contexts = c.args.contexts.now in
    let order = plain_order c.args.order.now in
    let x = access_of (plain_use c.args.x.now) in
    let y = access_of (plain_use c.args.y.now) in
    left_wide (pair_fits (g.C.Contexts.fits contexts) order (x, y))
    (cases_stated (meeting (g.C.Contexts.known contexts) order (2 ^ 31) x y)) (against (x, y)) c.args.place.now
    c.from_residual.result c.in_err-context.field-0.0 c.from_residual.ensures.1 c.in_err-context.ensures

pub returns : goal.returns
returns g c =
    let contexts = c.args.contexts.now in
    let order = plain_order c.args.order.now in
    let x = access_of (plain_use c.args.x.now) in
    let y = access_of (plain_use c.args.y.now) in
    let place = c.args.place.now in
    let told = cases_stated (meeting (g.C.Contexts.known contexts) order (2 ^ 31) x y) in
    all_made (pair_fits (g.C.Contexts.fits contexts) order (x, y)) told (against (x, y)) place c.systems_where.result
    c.in_ok-context.ensures.0
    (subst (λ z. IsAnswer c.systems_where.result (cases_stated z) (against (x, y)) place) c.in_ok-context.ensures.1
    c.systems_where.ensures)
