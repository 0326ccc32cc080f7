use Rattle.std.proofs.Common.{◌+◌, map, drop, ap}
use Rattle.std.proofs.lemmas.List.{at_drop_all}
use Rattle.exo_modes.proofs.Arguments.{drop_read}
use Rattle.exo_effects.specs.Accesses.{access_of}
use Rattle.exo_effects.specs.Conflicts.{clashing}
use Rattle.exo_effects.specs.PlainUses.{plain_use, plain_uses}
use Rattle.effect_conflicts.specs.Outcomes.{access_is_low, clashing_with}
use Rattle.effect_conflicts.specs.PlainCopies.{plain_order}
use Rattle.effect_conflicts.proofs.Answered.{goes_further, goes_to_end, gone_wrong, left_owes}
use Rattle.effect_conflicts.proofs.Turns.{item_has}
use Rattle.effect_conflicts.proofs.listing.owe_all.Goals as goal

pub owe_against-requires-clause-first : goal.owe_against-requires-clause-first
owe_against-requires-clause-first g c = item_has access_is_low c.args.first.now c.loop-x.x-index c.x-item.result
    c.loop-x-test.true c.x-item.is c.requires.first

pub loop-x-preserved : goal.loop-x-preserved
loop-x-preserved g c =
    let fits = g.C.Contexts.fits c.args.contexts.now in
    let ctx = g.C.Contexts.known c.args.contexts.now in
    let order = plain_order c.args.order.now in
    let place = c.args.place.now in
    let all = c.args.first.now in
    let ys = map access_of (plain_uses c.args.second.now) in
    let k = c.loop-x.x-index in
    let pairs = clashing (map access_of (plain_uses all)) ys in
    let left = clashing (map access_of (plain_uses (drop k all))) ys in
    let x = access_of (plain_use c.x-item.result) in
    let more = clashing (map access_of (plain_uses (drop (k + 1) all))) ys in
    let next = ap (λ zs. clashing (map access_of (plain_uses zs)) ys)
    (drop_read all k c.x-item.result c.x-item.is c.loop-x-test.true) in
    goes_further fits ctx order place c.args.out.now c.loop-x.out c.owe_against.new.out pairs left
    (clashing_with x ys) more c.loop-x.invariant next c.in_ok-owe_against.ensures

pub returns-in_err-owe_against : goal.returns-in_err-owe_against
returns-in_err-owe_against g c =
    let fits = g.C.Contexts.fits c.args.contexts.now in
    let ctx = g.C.Contexts.known c.args.contexts.now in
    let order = plain_order c.args.order.now in
    let place = c.args.place.now in
    let all = c.args.first.now in
    let ys = map access_of (plain_uses c.args.second.now) in
    let k = c.loop-x.x-index in
    let pairs = clashing (map access_of (plain_uses all)) ys in
    let left = clashing (map access_of (plain_uses (drop k all))) ys in
    let x = access_of (plain_use c.x-item.result) in
    let more = clashing (map access_of (plain_uses (drop (k + 1) all))) ys in
    let next = ap (λ zs. clashing (map access_of (plain_uses zs)) ys)
    (drop_read all k c.x-item.result c.x-item.is c.loop-x-test.true) in
    let e = c.in_err-owe_against.field-0.0 in
    left_owes fits ctx order place c.from_residual.result e pairs c.args.out.now c.owe_against.new.out
    c.from_residual.ensures.1
    (gone_wrong fits ctx order place e c.args.out.now c.loop-x.out pairs left (clashing_with x ys) more
    c.loop-x.invariant next c.in_err-owe_against.ensures)

pub returns : goal.returns
returns g c =
    let fits = g.C.Contexts.fits c.args.contexts.now in
    let ctx = g.C.Contexts.known c.args.contexts.now in
    let order = plain_order c.args.order.now in
    let place = c.args.place.now in
    let all = c.args.first.now in
    let ys = map access_of (plain_uses c.args.second.now) in
    let k = c.loop-x.x-index in
    let pairs = clashing (map access_of (plain_uses all)) ys in
    let left = clashing (map access_of (plain_uses (drop k all))) ys in
    goes_to_end fits ctx order place c.args.out.now c.loop-x.out pairs left c.loop-x.invariant
    (at_drop_all (λ xs. clashing (map access_of (plain_uses xs)) ys) all k c.loop-x-test.false)
