-- The plain form of a data expression.
use Rattle.exo_tree.specs.Tree as tree
use Rattle.exo_tree.specs.declared.data.DataExpr.{DataExpr, Lit, Read, Neg', Add', Sub', Mul', Relu', Select'}

abbrev pub datum : DataExpr → tree.Datum
datum (Lit n) = tree.Const n
datum (Read x is) = tree.Read x.0 is
datum (Neg' p a) = tree.Negated (datum a)
datum (Add' p a q b) = tree.Plus (datum a) (datum b)
datum (Sub' p a q b) = tree.Minus (datum a) (datum b)
datum (Mul' p a q b) = tree.Times (datum a) (datum b)
datum (Relu' p a) = tree.Relu (datum a)
datum (Select' p a q b r c s d) = tree.Select (datum a) (datum b) (datum c) (datum d)
