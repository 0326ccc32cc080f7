use Rattle.std.proofs.Common.{◌^◌, [], map, sym, ap, ap₂, subst, ◌∙◌}
use Rattle.std.proofs.lemmas.List.{append-nil}
use Rattle.exo_effects.specs.Accesses.{access_of}
use Rattle.exo_effects.specs.Conflicts.{clashing, owed_behind, Lists}
use Rattle.exo_effects.specs.PlainUses.{plain_uses}
use Rattle.effect_conflicts.specs.Outcomes.{IsFault}
use Rattle.effect_conflicts.specs.PlainCopies.{plain_order}
use Rattle.effect_conflicts.proofs.Answered.{left_listed}
use Rattle.effect_conflicts.proofs.listing.owed_together.Goals as goal

pub returns-in_err-owe_all : goal.returns-in_err-owe_all
returns-in_err-owe_all g c =
    let fits = g.C.Contexts.fits c.args.contexts.now in
    let ctx = g.C.Contexts.known c.args.contexts.now in
    let order = plain_order c.args.order.now in
    let place = c.args.place.now in
    let all = clashing (map access_of (plain_uses c.args.first.now)) (map access_of (plain_uses c.args.second.now)) in
    let e = c.in_err-owe_all.field-0.0 in
    left_listed c.from_residual.result e (owed_behind fits ctx order place (2 ^ 31) [] all) c.from_residual.ensures.1
    (subst (IsFault e) (ap₂ (λ os ps. owed_behind fits ctx order place (2 ^ 31) os ps) c.new-out.ensures (append-nil all)) (c.in_err-owe_all.ensures []))

pub returns : goal.returns
returns g c =
    let fits = g.C.Contexts.fits c.args.contexts.now in
    let ctx = g.C.Contexts.known c.args.contexts.now in
    let order = plain_order c.args.order.now in
    let place = c.args.place.now in
    let all = clashing (map access_of (plain_uses c.args.first.now)) (map access_of (plain_uses c.args.second.now)) in
    ap₂ (λ os ps. owed_behind fits ctx order place (2 ^ 31) os ps) (sym c.new-out.ensures) (sym (append-nil all))
    ∙ c.in_ok-owe_all.ensures [] ∙ ap Lists (sym c.into_items.ensures)
