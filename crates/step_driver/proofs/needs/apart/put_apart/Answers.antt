use Rattle.std.proofs.Common.{◌≡◌, ◌++◌, map, None, Ok, Err, sym, subst}
use Rattle.affine_systems.specs.Outcomes.{plain_obligation}
use Rattle.effect_conflicts.specs.Outcomes.{IsListed}
use Rattle.step_rules.specs.Rule.{Need, Apart}
use Rattle.step_rules.specs.Owing.{owed_for}
use Rattle.step_driver.specs.Needs.Owing.{target_in, Puts}
use Rattle.step_driver.specs.Needs.PlainNeed.{plain_conflict}
use Rattle.step_driver.specs.Needs.Sites.{seen}
use Rattle.step_driver.proofs.OfNeeds.OneNeed.{same_context, why, puts_systems, refused_list}
use Rattle.step_driver.proofs.OfNeeds.OneConflict.{refused_conflicts, conflicts_owed, listing_there}
use Rattle.step_driver.proofs.needs.apart.put_apart.Goals as goal

pub returns-in_err-owed : goal.returns-in_err-owed
returns-in_err-owed c n m h =
    let t = target_in (seen c.args.site.now) n in
    let k = plain_conflict c.args.k.now in
    let place = c.place_in-place.result in
    let path = c.args.path.now in
    let same = same_context t.unit t.proc place path c.place_in-place.ensures.same in
    let e = c.in_err-owed.field-0.0 in
    subst (λ (x : Need). Puts c.from_residual.result t x c.args.out.now c.args.out.now) (sym h)
    (refused_conflicts t path k c.args.out.now c.from_residual.result c.args.out.now e c.from_residual.ensures.1
    (listing_there t k place path same.0 same.1.0 (IsListed {A = Unit {0}} (Err e)) (c.in_err-owed.ensures n)))

pub returns : goal.returns
returns c n m h =
    let t = target_in (seen c.args.site.now) n in
    let k = plain_conflict c.args.k.now in
    let place = c.place_in-place.result in
    let path = c.args.path.now in
    let same = same_context t.unit t.proc place path c.place_in-place.ensures.same in
    let os = c.in_ok-owed.owed in
    let owes = conflicts_owed t path k os
    (listing_there t k place path same.0 same.1.0 (IsListed (Ok os)) (c.in_ok-owed.ensures n)) in
    subst (λ (x : Need). (why t x c.args.out.now ≡ None) × (c.push_all.new.self ≡ c.args.out.now ++ owed_for t x)) (sym h)
    (puts_systems t (Apart path k) c.args.out.now (map plain_obligation os.items) owes c.push_all.new.self c.in_ok-push_all.ensures)

pub returns-in_err-push_all : goal.returns-in_err-push_all
returns-in_err-push_all c n m h =
    let t = target_in (seen c.args.site.now) n in
    let k = plain_conflict c.args.k.now in
    let place = c.place_in-place.result in
    let path = c.args.path.now in
    let same = same_context t.unit t.proc place path c.place_in-place.ensures.same in
    let os = c.in_ok-owed.owed in
    let owes = conflicts_owed t path k os
    (listing_there t k place path same.0 same.1.0 (IsListed (Ok os)) (c.in_ok-owed.ensures n)) in
    subst (λ (x : Need). Puts c.from_residual-in_err-push_all.result t x c.args.out.now c.push_all.new.self) (sym h)
    (refused_list t (Apart path k) c.args.out.now (map plain_obligation os.items) owes
    c.from_residual-in_err-push_all.result c.in_err-push_all.field-0.0 c.push_all.new.self
    c.from_residual-in_err-push_all.ensures.1 c.in_err-push_all.ensures)
