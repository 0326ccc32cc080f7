use Rattle.std.proofs.Common.{◌≡◌, true, take, map}
use Rattle.std.specs.List.{list_all}
use Rattle.exo_tree.specs.PlainControl.{control}
use Rattle.match_laws.specs.Moved.{simpler}
use Rattle.match_laws.specs.Widths.{is_short}
use Rattle.tree_uses.proofs.simple.simply.simpler_controls.Given as goal

abbrev pub invariant-loop-item : goal.invariant-loop-item
invariant-loop-item g l =
    let at = g.R.Reader.reading l.reader in
    let items = map control (take l.item-index l.item-items) in
    (l.made ≡ map (simpler at) items) × (list_all (is_short at) items ≡ true)
