use Rattle.std.proofs.Common.{◌≡◌, drop}
use Rattle.exo_tree.specs.Tree.{block}
use Rattle.schedule_run.specs.Changed.{all_same_names}
use Rattle.schedule_run.proofs.changed.+names.Given as goal

abbrev pub invariant-all_same_names-loop-k : goal.invariant-all_same_names-loop-k
invariant-all_same_names-loop-k l =
    all_same_names (block l.one) (block l.other)
    ≡ all_same_names (block (drop l.k l.one)) (block (drop l.k l.other))
