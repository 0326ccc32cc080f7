use Rattle.std.proofs.Common.{◌≡◌, ◌&&◌, map, ap, ap₂, ◌∙◌, subst}
use Rattle.std.specs.List.{list_all}
use Rattle.exo_tree.specs.PlainProcedure.{procedure}
use Rattle.exo_tree.specs.PlainUnit.{program}
use Rattle.exo_effects.specs.Orders.{Order, order_of}
use Rattle.effect_conflicts.specs.Outcomes.{IsListed}
use Rattle.effect_conflicts.specs.PlainCopies.{plain_turn, plain_row, turn_fits}
use Rattle.step_driver.specs.Needs.Conflicts.{listing_at}
use Rattle.step_driver.specs.Needs.Owing.{target_in}
use Rattle.step_driver.specs.Needs.PlainNeed.{plain_conflict}
use Rattle.step_driver.proofs.OfNeeds.Loops.{told, same_turns, same_fits, same_low}
use Rattle.step_driver.proofs.needs.apart.owed_at.Goals as goal

pub listed-requires-clause-low : goal.listed-requires-clause-low
listed-requires-clause-low c =
    let k = plain_conflict c.args.k.now in
    let first = told c.deref-3.ensures.value c.in_ok-first.ensures c.deref.ensures.value in
    let second = told c.deref-4.ensures.value c.in_ok-second.ensures c.deref-2.ensures.value in
    ap₂ ◌&&◌ (same_low c.deref-3.result.now k.first.loops first) (same_low c.deref-4.result.now k.second.loops second)
    ∙ c.requires.low

pub returns : goal.returns
returns c n =
    let t = target_in (program c.args.at.now.unit.now, procedure c.args.at.now.proc.now) n in
    let k = plain_conflict c.args.k.now in
    let ts = c.deref-3.result.now in
    let us = c.deref-4.result.now in
    let first = told c.deref-3.ensures.value c.in_ok-first.ensures c.deref.ensures.value in
    let second = told c.deref-4.ensures.value c.in_ok-second.ensures c.deref-2.ensures.value in
    let rows = ap (map plain_row) c.deref-5.ensures.value in
    let fits = ap₂ ◌&&◌ (same_fits ts k.first.loops first) (same_fits us k.second.loops second) in
    let made : Order = record {
      first = map plain_turn ts;
      second = map plain_turn us;
      rows = map plain_row c.deref-5.result.now;
      fits = list_all turn_fits ts && list_all turn_fits us;
    } in
    let same : made ≡ order_of k.first.loops k.second.loops k.order = λ i. record {
      first = same_turns ts k.first.loops first i;
      second = same_turns us k.second.loops second i;
      rows = rows i;
      fits = fits i;
    } in
    subst (λ (o : Order). IsListed c.listed.result (listing_at t k c.args.at.now.path.now o c.args.path.now)) same
    (c.listed.ensures n)
