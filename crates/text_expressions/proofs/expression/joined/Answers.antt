use Rattle.std.proofs.Common.{arith, ap, ◌∙◌}
use Rattle.text_expressions.specs.Expression.{depth, nodes}
use Rattle.text_expressions.specs.Views.{tree_of}
use Rattle.text_expressions.proofs.Made.{made_binary}
use Rattle.text_expressions.proofs.expression.joined.Goals as goal

pub returns : goal.returns
returns c =
    let whole = ap tree_of c.in_ok-tree.ensures.ok ∙ made_binary c.args.operator c.args.left.tree c.args.right.tree in (
      whole,
      record {
        depth = omega (arith, ap depth whole, c.requires.measured.0.depth, c.requires.measured.1.depth, c.max-depth.ensures);
        nodes = omega (arith, ap nodes whole, c.requires.measured.0.nodes, c.requires.measured.1.nodes);
      },
    )
