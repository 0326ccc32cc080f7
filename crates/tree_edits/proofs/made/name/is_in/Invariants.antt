-- What is left decides.
use Rattle.std.proofs.Common.{◌≡◌, drop}
use Rattle.tree_edits.specs.Made.Names.{is_in}
use Rattle.tree_edits.proofs.made.name.is_in.Given as goal

abbrev pub invariant-loop-name : goal.invariant-loop-name
invariant-loop-name l = is_in (drop l.name-index l.names) l.x ≡ is_in l.names l.x
