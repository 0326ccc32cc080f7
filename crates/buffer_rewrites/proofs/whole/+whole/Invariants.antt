use Rattle.std.proofs.Common.{◌≡◌, drop}
use Rattle.exo_tree.specs.Tree.{block}
use Rattle.buffer_laws.specs.Expanded.{passes_whole}
use Rattle.buffer_rewrites.proofs.whole.+whole.Given as goal

abbrev pub invariant-passes_whole-loop-k : goal.invariant-passes_whole-loop-k
invariant-passes_whole-loop-k l =
    passes_whole l.x.0 (block (drop l.from l.b)) ≡ passes_whole l.x.0 (block (drop l.k l.b))
