-- Source trees without where they lie in memory.
use Rattle.std.specs.Prelude.{◌≡◌, map}
use Rattle.text_expressions.specs.Expression.{Tree, number, truth, variable, access, field, stride}
use Rattle.text_expressions.specs.Expression.{relu, select, negative, parens, binary, trees, depth}
use Rattle.text_expressions.specs.Expression.{deepest, nodes}
use Rattle.text_lexer.specs.declared.token.Literal.TheVariants.{Value}
use Rattle.text_expressions.specs.declared.source.SourceExpr.{SourceExpr}
use Rattle.text_expressions.specs.declared.source.SourceExpr.TheOpen.{SourceExpr-F, Int, Truth}
use Rattle.text_expressions.specs.declared.source.SourceExpr.TheOpen.{Name, Access, Field, Stride}
use Rattle.text_expressions.specs.declared.source.SourceExpr.TheOpen.{Relu, Select, Negative}
use Rattle.text_expressions.specs.declared.source.SourceExpr.TheOpen.{Parens, Binary}
use Rattle.text_expressions.specs.declared.source.SourceExpr.TheFolds.{fold-SourceExpr}
use Rattle.text_expressions.specs.declared.expression.Measured.{Measured}
use Rattle.text_expressions.specs.declared.expression.Indices.{Indices}

-- an expression, with those in it in their places
abbrev pub tree_step : SourceExpr-F Tree → Tree
tree_step (Int n) = number (Value n)
tree_step (Truth b) = truth b
tree_step (Name x) = variable x
tree_step (Access x list) = access x (trees list.items)
tree_step (Field x f) = field x f
tree_step (Stride x n) = stride x (Value n)
tree_step (Relu inner) = relu inner.value
tree_step (Select a b c d) = select a.value b.value c.value d.value
tree_step (Negative inner) = negative inner.value
tree_step (Parens inner) = parens inner.value
tree_step (Binary operator left right) = binary operator left.value right.value

abbrev pub tree_of : SourceExpr → Tree
tree_of = fold-SourceExpr Tree tree_step

-- the depth and the number of nodes are right
pub record IsMeasured (m : Measured) : Type 0 where
  pub depth : m.depth ≡ depth (tree_of m.tree.value)
  pub nodes : m.nodes ≡ nodes (tree_of m.tree.value)

-- the depth of the deepest index is right
pub record AreMeasured (l : Indices) : Type 0 where
  pub depth : l.depth ≡ deepest (trees (map tree_of l.items.items))

-- an expression without parts
pub record IsLeaf (t : Tree) : Type 0 where
  pub depth : depth t ≡ 1
  pub nodes : nodes t ≡ 1
