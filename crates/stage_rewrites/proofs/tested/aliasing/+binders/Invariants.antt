use Rattle.std.proofs.Common.{◌≡◌, drop}
use Rattle.exo_tree.specs.Tree.{block}
use Rattle.meaning_laws.specs.Scoped.{has_binder}
use Rattle.stage_rewrites.proofs.tested.aliasing.+binders.Given as goal

abbrev pub invariant-has_binder-loop-k : goal.invariant-has_binder-loop-k
invariant-has_binder-loop-k l =
    has_binder (block l.b) l.x.0 ≡ has_binder (block (drop l.k l.b)) l.x.0
