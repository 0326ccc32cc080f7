use Rattle.std.proofs.Common.{[], ◌∷◌, ◌++◌, ◌∙◌}
use Rattle.exo_tree.specs.Tree.{At, block}
use Rattle.exo_tree.specs.PlainControl.{control}
use Rattle.buffer_rewrites.proofs.Expanded.{at_point_put}
use Rattle.buffer_rewrites.proofs.expandable.at_point.Goals as goal

pub returns : goal.returns
returns c =
    at_point_put c.args.x.0 (control c.args.point.now) (block c.args.b.now) (block c.in_ok-made.made)
    c.push.new.self
    (c.in_ok-push.ensures.pushed
    ∙ (λ i. c.new-coords.ensures i ++ At (c.in_ok-duplicate.ensures i) ∷ []))
    c.in_ok-made.ensures
