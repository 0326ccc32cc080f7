use Rattle.std.proofs.Common.{map, subst}
use Rattle.exo_effects.specs.Accesses.{access_of}
use Rattle.exo_effects.specs.PlainUses.{plain_uses}
use Rattle.effect_conflicts.specs.Outcomes.{IsListed}
use Rattle.effect_conflicts.specs.PlainCopies.{plain_order}
use Rattle.effect_conflicts.proofs.Answered.{low_uses, low_order, at_base}
use Rattle.effect_conflicts.proofs.Listings.{uses_past}
use Rattle.effect_conflicts.proofs.listing.conflicts.Goals as goal

pub returns : goal.returns
returns g c =
    let contexts = c.args.contexts.now in
    let order = c.args.order.now in
    let us = plain_uses c.args.first.now in
    let vs = plain_uses c.args.second.now in
    subst (IsListed c.owed_together.result)
    (at_base (g.C.Contexts.fits contexts) (g.C.Contexts.known contexts) (plain_order order) c.args.place.now
    (map access_of us) (map access_of vs) c.requires.context (low_order order c.requires.order)
    (uses_past us (low_uses c.args.first.now c.requires.first)) (uses_past vs (low_uses c.args.second.now c.requires.second)))
    c.owed_together.ensures
