use Rattle.std.proofs.Common.{[], ◌∷◌, map}
use Rattle.affine_systems.specs.Outcomes.{plain_obligation}
use Rattle.exo_effects.specs.Accesses.{Access, access_of}
use Rattle.exo_effects.specs.PlainUses.{plain_use}
use Rattle.effect_conflicts.specs.PlainCopies.{plain_order}
use Rattle.effect_conflicts.proofs.Answered.{pair_owed, pair_refused, pair_put, left_owes}
use Rattle.effect_conflicts.proofs.listing.owe_pair.Goals as goal

pub returns-in_err-more : goal.returns-in_err-more
returns-in_err-more g c =
    let fits = g.C.Contexts.fits c.args.contexts.now in
    let ctx = g.C.Contexts.known c.args.contexts.now in
    let order = plain_order c.args.order.now in
    let place = c.args.place.now in
    let p : Access × Access = (access_of (plain_use c.args.x.now), access_of (plain_use c.args.y.now)) in
    let e = c.in_err-more.field-0.0 in
    left_owes fits ctx order place c.from_residual.result e (p ∷ []) c.args.out.now c.args.out.now
    c.from_residual.ensures.1 (pair_refused fits ctx order place p e c.in_err-more.ensures c.args.out.now)

pub returns : goal.returns
returns g c =
    let fits = g.C.Contexts.fits c.args.contexts.now in
    let ctx = g.C.Contexts.known c.args.contexts.now in
    let order = plain_order c.args.order.now in
    let place = c.args.place.now in
    let p : Access × Access = (access_of (plain_use c.args.x.now), access_of (plain_use c.args.y.now)) in
    let os = c.in_ok-more.more.items in
    pair_put fits ctx order place p c.push_all.result c.args.out.now (map plain_obligation os) c.push_all.new.self
    (pair_owed fits ctx order place p os c.in_ok-more.ensures) c.push_all.ensures
