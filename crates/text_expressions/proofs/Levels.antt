-- How tightly operators bind.
use Rattle.std.proofs.Common.{◌≤◌, arith}
use Rattle.text_expressions.specs.Expression.{level_of}
use Rattle.text_expressions.specs.declared.source.Infix.{Infix}
use Rattle.text_expressions.specs.declared.source.Infix.TheVariants.{Or, And, Lt, Le, Gt, Ge, Eq, Add, Sub, Mul, Div, Mod}

-- no operator binds as tightly as what no operator splits
pub level_at_most_four : (o : Infix) → level_of o ≤ 4
level_at_most_four Or = omega arith
level_at_most_four And = omega arith
level_at_most_four Lt = omega arith
level_at_most_four Le = omega arith
level_at_most_four Gt = omega arith
level_at_most_four Ge = omega arith
level_at_most_four Eq = omega arith
level_at_most_four Add = omega arith
level_at_most_four Sub = omega arith
level_at_most_four Mul = omega arith
level_at_most_four Div = omega arith
level_at_most_four Mod = omega arith
