-- What is left decides.
use Rattle.std.proofs.Common.{◌≡◌, ◌+◌, ◌-◌, length, suc}
use Rattle.c_tree.specs.Names.Names.{first_free, is_taken}
use Rattle.c_tree.proofs.names.names.renamed.Given as goal

abbrev pub invariant-loop-k : goal.invariant-loop-k
invariant-loop-k l = first_free (is_taken l.globals l.binders) l.x (l.count - l.k) (suc l.k) ≡ first_free (is_taken l.globals l.binders) l.x (suc (length l.globals + length l.binders)) 1
