-- So many indices 0 so far.
use Rattle.std.proofs.Common.{◌≡◌, pos, replicate}
use Rattle.exo_tree.specs.Tree.{Lit}
use Rattle.c_lowering.proofs.arguments.zero_indices.Given as goal

abbrev pub invariant-loop-i : goal.invariant-loop-i
invariant-loop-i l = l.zeros ≡ replicate l._i (Lit (pos 0))
