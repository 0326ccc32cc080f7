-- None of the statements before binds it.
use Rattle.std.proofs.Common.{◌≡◌, drop}
use Rattle.exo_tree.specs.Tree.{block}
use Rattle.place_laws.specs.Scope.Scopes.{top_binders}
use Rattle.step_targets.proofs.left.LeftNames.has.Given as goal

abbrev pub invariant-loop-k : goal.invariant-loop-k
invariant-loop-k l =
    top_binders (block l.self.block.now) l.x.0
    ≡ top_binders (block (drop l.k l.self.block.now)) l.x.0
