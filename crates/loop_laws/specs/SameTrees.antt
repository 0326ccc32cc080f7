-- Trees that are the same but for the names of binders.
use Rattle.std.specs.Prelude.{◌==◌, Bool, true, false, ◌&&◌, List, [], ◌∷◌}
use Rattle.std.specs.Ordering.{int_eq}
use Rattle.exo_tree.specs.Cells.{same_cell}
use Rattle.exo_tree.specs.Tree.{Control, Lit, Var, Field, StrideOf, Neg, Add, Sub}
use Rattle.exo_tree.specs.Tree.{Mul, Div, Mod, Condition, True, False, Flag, FieldFlag, Lt, Le, Gt}
use Rattle.exo_tree.specs.Tree.{Ge, Eq, And, Or, Datum, Const, Read, Negated, Relu, Plus, Minus}
use Rattle.exo_tree.specs.Tree.{Times, Select}
use Rattle.exo_tree.specs.Tree.{Coord, At, Span, Argument, ControlArg, ConditionArg, Whole, Window}
use Rattle.exo_tree.specs.Tree.{Statement, Assign, Reduce, Config, Pass, If, For, Alloc, View, Call}
use Rattle.exo_tree.specs.Tree.{Block, end, next}

abbrev pub same_control : Control → Control → Bool
same_control (Lit m) (Lit n) = int_eq m n
same_control (Var x) (Var y) = x == y
same_control (Field f) (Field g) = f == g
same_control (StrideOf x j) (StrideOf y k) = (x == y) && (j == k)
same_control (Neg a) (Neg b) = same_control a b
same_control (Add a b) (Add c d) = same_control a c && same_control b d
same_control (Sub a b) (Sub c d) = same_control a c && same_control b d
same_control (Mul a b) (Mul c d) = same_control a c && same_control b d
same_control (Div a m) (Div b n) = same_control a b && int_eq m n
same_control (Mod a m) (Mod b n) = same_control a b && int_eq m n
same_control a b = false

abbrev pub same_controls : List Control → List Control → Bool
same_controls [] [] = true
same_controls (a ∷ as') (b ∷ bs) = same_control a b && same_controls as' bs
same_controls as' bs = false

abbrev pub same_condition : Condition → Condition → Bool
same_condition True True = true
same_condition False False = true
same_condition (Flag x) (Flag y) = x == y
same_condition (FieldFlag f) (FieldFlag g) = f == g
same_condition (Lt a b) (Lt c d) = same_control a c && same_control b d
same_condition (Le a b) (Le c d) = same_control a c && same_control b d
same_condition (Gt a b) (Gt c d) = same_control a c && same_control b d
same_condition (Ge a b) (Ge c d) = same_control a c && same_control b d
same_condition (Eq a b) (Eq c d) = same_control a c && same_control b d
same_condition (And a b) (And c d) = same_condition a c && same_condition b d
same_condition (Or a b) (Or c d) = same_condition a c && same_condition b d
same_condition a b = false

abbrev pub same_datum : Datum → Datum → Bool
same_datum (Const m) (Const n) = int_eq m n
same_datum (Read x is) (Read y js) = (x == y) && same_controls is js
same_datum (Negated a) (Negated b) = same_datum a b
same_datum (Relu a) (Relu b) = same_datum a b
same_datum (Plus a b) (Plus c d) = same_datum a c && same_datum b d
same_datum (Minus a b) (Minus c d) = same_datum a c && same_datum b d
same_datum (Times a b) (Times c d) = same_datum a c && same_datum b d
same_datum (Select a b c d) (Select e f g h) =
    (same_datum a e && same_datum b f) && (same_datum c g && same_datum d h)
same_datum a b = false

abbrev pub same_coord : Coord → Coord → Bool
same_coord (At a) (At b) = same_control a b
same_coord (Span a b) (Span c d) = same_control a c && same_control b d
same_coord a b = false

abbrev pub same_coords : List Coord → List Coord → Bool
same_coords [] [] = true
same_coords (a ∷ as') (b ∷ bs) = same_coord a b && same_coords as' bs
same_coords as' bs = false

abbrev pub same_argument : Argument → Argument → Bool
same_argument (ControlArg a) (ControlArg b) = same_control a b
same_argument (ConditionArg c) (ConditionArg d) = same_condition c d
same_argument (Whole x) (Whole y) = x == y
same_argument (Window x cs) (Window y ds) = (x == y) && same_coords cs ds
same_argument a b = false

abbrev pub same_arguments : List Argument → List Argument → Bool
same_arguments [] [] = true
same_arguments (a ∷ as') (b ∷ bs) = same_argument a b && same_arguments as' bs
same_arguments as' bs = false

-- of binders the numbers are compared, and no names
abbrev mutual
  pub same_statement : Statement → Statement → Bool
  same_statement (Assign x is e) (Assign y js d) =
      (x == y) && (same_controls is js && same_datum e d)
  same_statement (Reduce x is e) (Reduce y js d) =
      (x == y) && (same_controls is js && same_datum e d)
  same_statement (Config f a) (Config g b) = (f == g) && same_argument a b
  same_statement Pass Pass = true
  same_statement (If c a b) (If d e f) =
      same_condition c d && (same_block a e && same_block b f)
  same_statement (For i lo hi b) (For j m n c) =
      (i.id == j.id) && ((same_control lo m && same_control hi n) && same_block b c)
  same_statement (Alloc x cell dims k) (Alloc y other extents l) =
      (x.id == y.id) && ((same_cell cell other && same_controls dims extents) && (k == l))
  same_statement (View w x cs) (View v y ds) = (w.id == v.id) && ((x == y) && same_coords cs ds)
  same_statement (Call k as') (Call l bs) = (k == l) && same_arguments as' bs
  same_statement a b = false

  pub same_block : Block → Block → Bool
  same_block end end = true
  same_block (next a b) (next c d) = same_statement a c && same_block b d
  same_block a b = false
