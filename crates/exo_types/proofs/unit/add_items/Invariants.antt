-- What has been added, and what is left.
use Rattle.std.proofs.Common.{drop, map}
use Rattle.exo_reader.specs.Views.{plain_item}
use Rattle.exo_types.proofs.Items.{Below}
use Rattle.exo_types.proofs.unit.add_items.Given as goal

abbrev pub invariant-loop-item : goal.invariant-loop-item
invariant-loop-item l = Below l.places l.typed l.next (map plain_item l.items) (map plain_item (drop l.item-index l.items))
