use Rattle.std.proofs.Common.{List, drop, map, ap, subst, ◌+◌, arith}
use Rattle.std.proofs.lemmas.List.{drop_all}
use Rattle.exo_reader.specs.Source.{Item}
use Rattle.exo_reader.specs.Views.{plain_item}
use Rattle.exo_types.proofs.Lists.{drop_read}
use Rattle.exo_types.proofs.Broken.{exit}
use Rattle.exo_types.proofs.Items.{Below, one_added, item_refused, all_added}
use Rattle.exo_types.proofs.unit.add_items.Goals as goal

pub loop-item-preserved : goal.loop-item-preserved
loop-item-preserved c =
    let l = c.loop-item in
    let places = c.args.places.now in
    let items = c.args.items.now in
    let i = plain_item c.item-item.result in
    let more = map plain_item (drop (l.item-index + 1) items) in
    let read = ap (map plain_item) (drop_read items l.item-index c.item-item.result c.item-item.is c.loop-item-test.true) in
    let b = subst (λ (r : List Item). Below places l.typed l.next (map plain_item items) r) read l.invariant in
    one_added places l.typed c.add_item.new.self l.next _ (map plain_item items) i more b (c.in_ok-next.ensures b.above b.stands)

pub returns-in_err-next : goal.returns-in_err-next
returns-in_err-next c =
    let l = c.loop-item in
    let places = c.args.places.now in
    let items = c.args.items.now in
    let i = plain_item c.item-item.result in
    let more = map plain_item (drop (l.item-index + 1) items) in
    let read = ap (map plain_item) (drop_read items l.item-index c.item-item.result c.item-item.is c.loop-item-test.true) in
    let b = subst (λ (r : List Item). Below places l.typed l.next (map plain_item items) r) read l.invariant in
    exit _ _ _ _ c.from_residual.ensures.1 (item_refused places l.typed l.next (map plain_item items) i more _ b (c.in_err-next.ensures b.above b.stands))

pub returns : goal.returns
returns c =
    let l = c.loop-item in
    let items = c.args.items.now in
    let none = ap (map plain_item) (drop_all l.item-index items (omega (arith, c.loop-item-test.false))) in
    all_added c.args.places.now l.typed l.next (map plain_item items) (map plain_item (drop l.item-index items)) none l.invariant
