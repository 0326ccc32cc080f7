-- What is left decides.
use Rattle.std.proofs.Common.{◌≡◌, drop}
use Rattle.c_tree.specs.Names.Words.{is_in}
use Rattle.c_tree.proofs.names.names.is_in.Given as goal

abbrev pub invariant-loop-name : goal.invariant-loop-name
invariant-loop-name l = is_in (drop l.name-index l.names) l.x ≡ is_in l.names l.x
