use Rattle.std.proofs.Common.{◌≡◌, true, take, map}
use Rattle.std.specs.List.{list_all}
use Rattle.exo_tree.specs.PlainControl.{coordinate}
use Rattle.match_laws.specs.Moved.{simpler}
use Rattle.match_laws.specs.Widths.{is_short}
use Rattle.tree_uses.specs.Simple.Changing.{changed_coord, coord_fits}
use Rattle.tree_uses.proofs.simple.simply.simpler_coords.Given as goal

abbrev pub invariant-loop-item : goal.invariant-loop-item
invariant-loop-item g l =
    let at = g.R.Reader.reading l.reader in
    let items = map coordinate (take l.item-index l.item-items) in
    (l.made ≡ map (changed_coord (simpler at)) items)
    × (list_all (coord_fits (is_short at)) items ≡ true)
