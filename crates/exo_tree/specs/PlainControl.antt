-- The plain forms of control expressions, conditions and coordinates.
use Rattle.exo_tree.specs.Tree as tree
use Rattle.exo_tree.specs.declared.control.Ctrl.{Ctrl, Lit, Var, Field, Stride, Neg', Add', Sub', Mul', Div', Mod'}
use Rattle.exo_tree.specs.declared.control.Cond as cond
use Rattle.exo_tree.specs.declared.control.Cond.{Cond}
use Rattle.exo_tree.specs.declared.control.Coord.{Coord}
use Rattle.exo_tree.specs.declared.control.Coord.TheVariants.{At, Span}

abbrev pub control : Ctrl → tree.Control
control (Lit n) = tree.Lit n
control (Var v) = tree.Var v.0
control (Field f) = tree.Field f.0
control (Stride x k) = tree.StrideOf x.0 k
control (Neg' p a) = tree.Neg (control a)
control (Add' p a q b) = tree.Add (control a) (control b)
control (Sub' p a q b) = tree.Sub (control a) (control b)
control (Mul' p a q b) = tree.Mul (control a) (control b)
control (Div' p a n) = tree.Div (control a) n
control (Mod' p a n) = tree.Mod (control a) n

abbrev pub condition : Cond → tree.Condition
condition cond.True = tree.True
condition cond.False = tree.False
condition (cond.Var v) = tree.Flag v.0
condition (cond.Field f) = tree.FieldFlag f.0
condition (cond.Lt a b) = tree.Lt (control a) (control b)
condition (cond.Le a b) = tree.Le (control a) (control b)
condition (cond.Gt a b) = tree.Gt (control a) (control b)
condition (cond.Ge a b) = tree.Ge (control a) (control b)
condition (cond.Eq a b) = tree.Eq (control a) (control b)
condition (cond.And' p a q b) = tree.And (condition a) (condition b)
condition (cond.Or' p a q b) = tree.Or (condition a) (condition b)

abbrev pub coordinate : Coord → tree.Coord
coordinate (At e) = tree.At (control e)
coordinate (Span a b) = tree.Span (control a) (control b)
