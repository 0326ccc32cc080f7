-- What an expression makes of the C of its parts. Of a form that has no such parts nothing is
-- asked.
use Rattle.exo_tree.specs.Tree.{Control, Sub, Mul, Div, Mod, Condition, Lt, Le, Gt, Ge, And}
use Rattle.exo_tree.specs.Tree.{Datum, Relu, Minus, Times}
use Rattle.c_tree.specs.CTree.{Number64, Opposite, Sum, Difference, Product, Quotient, Remainder}
use Rattle.c_tree.specs.CTree.{Test, Less, LessEqual, More, MoreEqual, Equal, Both, Either}
use Rattle.c_tree.specs.CTree.{Number32, Opposite32, Relu32, Sum32, Difference32, Product32}

abbrev pub of_one : Control → Number64 → Number64
of_one (Div a n) part = Quotient part n
of_one (Mod a n) part = Remainder part n
of_one e part = Opposite part

abbrev pub of_two : Control → Number64 → Number64 → Number64
of_two (Sub a b) left right = Difference left right
of_two (Mul a b) left right = Product left right
of_two e left right = Sum left right

abbrev pub compared : Condition → Number64 → Number64 → Test
compared (Lt a b) left right = Less left right
compared (Le a b) left right = LessEqual left right
compared (Gt a b) left right = More left right
compared (Ge a b) left right = MoreEqual left right
compared c left right = Equal left right

abbrev pub connected : Condition → Test → Test → Test
connected (And c d) left right = Both left right
connected c left right = Either left right

abbrev pub data_of_one : Datum → Number32 → Number32
data_of_one (Relu a) part = Relu32 part
data_of_one e part = Opposite32 part

abbrev pub data_of_two : Datum → Number32 → Number32 → Number32
data_of_two (Minus a b) left right = Difference32 left right
data_of_two (Times a b) left right = Product32 left right
data_of_two e left right = Sum32 left right
