-- What is left decides.
use Rattle.std.proofs.Common.{◌≡◌, ◌==◌, drop}
use Rattle.std.specs.List.{list_any}
use Rattle.tree_edits.proofs.made.ids.is_among.Given as goal

abbrev pub invariant-loop-y : goal.invariant-loop-y
invariant-loop-y l = list_any (λ y. l.x == y) (drop l.y-index l.ids) ≡ list_any (λ y. l.x == y) l.ids
