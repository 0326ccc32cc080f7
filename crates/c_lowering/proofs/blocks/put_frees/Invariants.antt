-- What is made, and the ends that are left, are what was there and all ends.
use Rattle.std.proofs.Common.{◌≡◌, ◌-◌, length, take, map}
use Rattle.c_tree.specs.CTree.{cblock, followed_by}
use Rattle.c_lowering.specs.Naming.{naming_of}
use Rattle.c_lowering.specs.Heads.{frees}
use Rattle.c_lowering.proofs.blocks.put_frees.Given as goal

abbrev pub invariant-loop-k : goal.invariant-loop-k
invariant-loop-k l = followed_by (cblock l.made) (frees (naming_of l.names) (map (λ x. x.0) (take (length l.buffers - l.k) l.buffers))) ≡ followed_by (cblock l.initial.made) (frees (naming_of l.names) (map (λ x. x.0) l.buffers))
