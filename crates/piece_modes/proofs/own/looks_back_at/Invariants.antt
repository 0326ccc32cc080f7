-- One of those that are left does so just where one of all does.
use Rattle.std.proofs.Common.{◌≡◌, drop}
use Rattle.std.specs.List.{list_any}
use Rattle.exo_tree.specs.Tree.{block}
use Rattle.exo_tree.specs.PlainUnit.{program}
use Rattle.exo_modes.specs.Aliases.{roots_in}
use Rattle.piece_modes.specs.Own.{looks_back}
use Rattle.piece_modes.proofs.own.looks_back_at.Given as goal

abbrev pub invariant-loop-y : goal.invariant-loop-y
invariant-loop-y l =
    let looks = looks_back (program l.unit) (roots_in l.initial.aliases.items) (block l.b) in
    (list_any looks l.buffers ≡ list_any looks (drop l.y-index l.buffers))
    × (l.aliases.items ≡ l.initial.aliases.items)
