use Rattle.std.proofs.Common.{◌&&◌, ◌^◌, Bool, ap, ◌∙◌}
use Rattle.exo_effects.specs.Accesses.{access_of}
use Rattle.exo_effects.specs.Conflicts.{meeting, pair_fits}
use Rattle.exo_effects.specs.PlainUses.{plain_use}
use Rattle.effect_conflicts.specs.PlainCopies.{plain_order}
use Rattle.effect_conflicts.proofs.Answered.{not_made, wide_context, wide_meeting, both_fit}
use Rattle.effect_conflicts.proofs.listing.met.Goals as goal

pub returns-in_err-context : goal.returns-in_err-context
returns-in_err-context g c =
    let contexts = c.args.contexts.now in
    let order = plain_order c.args.order.now in
    let x = access_of (plain_use c.args.x.now) in
    let y = access_of (plain_use c.args.y.now) in
    let fits = g.C.Contexts.fits contexts in
    let part : Bool = order.fits && (x.fits && y.fits) in
    not_made c.from_residual.result c.in_err-context.field-0.0 fits (pair_fits fits order (x, y))
    (meeting (g.C.Contexts.known contexts) order (2 ^ 31) x y) c.from_residual.ensures.1 c.in_err-context.ensures
    (wide_context fits part)

pub returns-in_err-put_meeting : goal.returns-in_err-put_meeting
returns-in_err-put_meeting g c =
    let contexts = c.args.contexts.now in
    let order = plain_order c.args.order.now in
    let x = access_of (plain_use c.args.x.now) in
    let y = access_of (plain_use c.args.y.now) in
    let fits = g.C.Contexts.fits contexts in
    let part : Bool = order.fits && (x.fits && y.fits) in
    not_made c.from_residual-in_err-put_meeting.result c.in_err-put_meeting.field-0.0 part (pair_fits fits order (x, y))
    (meeting (g.C.Contexts.known contexts) order (2 ^ 31) x y) c.from_residual-in_err-put_meeting.ensures.1
    c.in_err-put_meeting.ensures (wide_meeting fits part c.in_ok-context.ensures.0)

pub returns : goal.returns
returns g c =
    let contexts = c.args.contexts.now in
    let order = plain_order c.args.order.now in
    let x = access_of (plain_use c.args.x.now) in
    let y = access_of (plain_use c.args.y.now) in
    let fits = g.C.Contexts.fits contexts in
    let part : Bool = order.fits && (x.fits && y.fits) in (
      both_fit fits part c.in_ok-context.ensures.0 c.in_ok-put_meeting.ensures.0,
      c.in_ok-put_meeting.ensures.1 ∙ ap (λ z. meeting z order (2 ^ 31) x y) c.in_ok-context.ensures.1,
    )
