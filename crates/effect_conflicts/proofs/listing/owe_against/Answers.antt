use Rattle.std.proofs.Common.{◌+◌, [], ◌∷◌, map, drop, ap, ◌∙◌}
use Rattle.std.proofs.lemmas.List.{at_drop_all}
use Rattle.exo_modes.proofs.Arguments.{drop_read}
use Rattle.exo_effects.specs.Accesses.{access_of}
use Rattle.exo_effects.specs.PlainUses.{plain_use, plain_uses}
use Rattle.effect_conflicts.specs.Outcomes.{access_is_low, clashing_with}
use Rattle.effect_conflicts.specs.PlainCopies.{plain_order}
use Rattle.effect_conflicts.proofs.Answered.{goes_further, goes_to_end, gone_wrong, left_owes, one_more}
use Rattle.effect_conflicts.proofs.Turns.{item_has}
use Rattle.effect_conflicts.proofs.listing.owe_against.Goals as goal

pub returns-in_err-owe_clash : goal.returns-in_err-owe_clash
returns-in_err-owe_clash g c =
    let fits = g.C.Contexts.fits c.args.contexts.now in
    let ctx = g.C.Contexts.known c.args.contexts.now in
    let order = plain_order c.args.order.now in
    let place = c.args.place.now in
    let x = access_of (plain_use c.args.x.now) in
    let y = access_of (plain_use c.y-item.result) in
    let all = c.args.others.now in
    let k = c.loop-y.y-index in
    let pairs = clashing_with x (map access_of (plain_uses all)) in
    let left = clashing_with x (map access_of (plain_uses (drop k all))) in
    let more = map access_of (plain_uses (drop (k + 1) all)) in
    let next = ap (λ zs. clashing_with x (map access_of (plain_uses zs))) (drop_read all k c.y-item.result c.y-item.is c.loop-y-test.true) ∙ one_more x y more in
    left_owes fits ctx order place c.from_residual.result c.in_err-owe_clash.field-0.0 pairs c.args.out.now c.owe_clash.new.out c.from_residual.ensures.1
    (gone_wrong fits ctx order place c.in_err-owe_clash.field-0.0 c.args.out.now c.loop-y.out pairs left (clashing_with x (y ∷ [])) (clashing_with x more) c.loop-y.invariant next c.in_err-owe_clash.ensures)

pub owe_clash-requires-clause-second : goal.owe_clash-requires-clause-second
owe_clash-requires-clause-second g c = item_has access_is_low c.args.others.now c.loop-y.y-index c.y-item.result
    c.loop-y-test.true c.y-item.is c.requires.second

pub loop-y-preserved : goal.loop-y-preserved
loop-y-preserved g c =
    let fits = g.C.Contexts.fits c.args.contexts.now in
    let ctx = g.C.Contexts.known c.args.contexts.now in
    let x = access_of (plain_use c.args.x.now) in
    let y = access_of (plain_use c.y-item.result) in
    let all = c.args.others.now in
    let k = c.loop-y.y-index in
    let pairs = clashing_with x (map access_of (plain_uses all)) in
    let left = clashing_with x (map access_of (plain_uses (drop k all))) in
    let more = map access_of (plain_uses (drop (k + 1) all)) in
    let next = ap (λ zs. clashing_with x (map access_of (plain_uses zs))) (drop_read all k c.y-item.result c.y-item.is c.loop-y-test.true) ∙ one_more x y more in
    goes_further fits ctx (plain_order c.args.order.now) c.args.place.now c.args.out.now c.loop-y.out
    c.owe_clash.new.out pairs left (clashing_with x (y ∷ [])) (clashing_with x more) c.loop-y.invariant next
    c.in_ok-owe_clash.ensures

pub returns : goal.returns
returns g c =
    let fits = g.C.Contexts.fits c.args.contexts.now in
    let ctx = g.C.Contexts.known c.args.contexts.now in
    let x = access_of (plain_use c.args.x.now) in
    let all = c.args.others.now in
    let k = c.loop-y.y-index in
    let pairs = clashing_with x (map access_of (plain_uses all)) in
    let left = clashing_with x (map access_of (plain_uses (drop k all))) in
    goes_to_end fits ctx (plain_order c.args.order.now) c.args.place.now c.args.out.now c.loop-y.out pairs left
    c.loop-y.invariant
    (at_drop_all (λ ys. clashing_with x (map access_of (plain_uses ys))) all k c.loop-y-test.false)
