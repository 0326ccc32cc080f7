-- Expressions whose operands alone are simplified.
use Rattle.exo_tree.specs.Tree.{Control, Lit, Var, Field, StrideOf, Neg, Add, Sub, Mul, Div, Mod}
use Rattle.affine_forms.specs.Forms.{Reading}
use Rattle.match_laws.specs.Simplify.Simplified.{simplified}

abbrev pub with_simple_operands : Reading → Control → Control
with_simple_operands at (Lit n) = Lit n
with_simple_operands at (Var x) = Var x
with_simple_operands at (Field f) = Field f
with_simple_operands at (StrideOf x k) = StrideOf x k
with_simple_operands at (Neg a) = Neg (simplified at a)
with_simple_operands at (Add a b) = Add (simplified at a) (simplified at b)
with_simple_operands at (Sub a b) = Sub (simplified at a) (simplified at b)
with_simple_operands at (Mul a b) = Mul (simplified at a) (simplified at b)
with_simple_operands at (Div a c) = Div (simplified at a) c
with_simple_operands at (Mod a c) = Mod (simplified at a) c
