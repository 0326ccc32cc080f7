-- The text of expressions over control values.
use Rattle.std.specs.Prelude.{ℕ, List, ◌++◌, map, codes, decimal}
use Rattle.std.specs.Fmt.{signed_decimal}
use Rattle.exo_tree.specs.Tree.{Control, Lit, Var, Field, StrideOf, Neg, Add, Sub, Mul, Div, Mod}
use Rattle.exo_tree.specs.Tree.{Condition, True, False, Flag, FieldFlag, Lt, Le, Gt, Ge, Eq, And}
use Rattle.exo_tree.specs.Tree.{Or, Coord, At, Span}
use Rattle.text_show.specs.declared.precedence.TheConstants.{DISJUNCTION, CONJUNCTION, COMPARISON}
use Rattle.text_show.specs.declared.precedence.TheConstants.{SUM, PRODUCT, UNARY}
use Rattle.text_show.specs.Layout.{Text, bracketed, operand, between}
use Rattle.text_show.specs.Words.{Words}

-- how tightly the outermost operator binds
abbrev pub precedence_of : Control → ℕ
precedence_of (Add a b) = SUM
precedence_of (Sub a b) = SUM
precedence_of (Mul a b) = PRODUCT
precedence_of (Div a n) = PRODUCT
precedence_of (Mod a n) = PRODUCT
precedence_of _ = UNARY

abbrev pub in_place : ℕ → Control → Text → Text
in_place place e t = operand place (precedence_of e) t

module _ (w : Words) where
  -- sums and products go on from the left, so a right operand of the same precedence has
  -- parentheses
  abbrev pub control_text : Control → Text
  control_text (Lit n) = signed_decimal n
  control_text (Var x) = w.name x
  control_text (Field f) = w.field f
  control_text (StrideOf x k) = codes "stride(" ++ w.name x ++ codes ", " ++ decimal k ++ codes ")"
  control_text (Neg a) = codes "-" ++ in_place UNARY a (control_text a)
  control_text (Add a b) =
      between (in_place SUM a (control_text a)) (codes "+") (in_place PRODUCT b (control_text b))
  control_text (Sub a b) =
      between (in_place SUM a (control_text a)) (codes "-") (in_place PRODUCT b (control_text b))
  control_text (Mul a b) =
      between (in_place PRODUCT a (control_text a)) (codes "*") (in_place UNARY b (control_text b))
  control_text (Div a n) =
      between (in_place PRODUCT a (control_text a)) (codes "/") (signed_decimal n)
  control_text (Mod a n) =
      between (in_place PRODUCT a (control_text a)) (codes "%") (signed_decimal n)

  abbrev pub coord_text : Coord → Text
  coord_text (At a) = control_text a
  coord_text (Span a b) = control_text a ++ codes ":" ++ control_text b

  -- a cell or a buffer's dimensions, and a window, behind their name
  abbrev pub indices_text : List Control → Text
  indices_text is = bracketed (map control_text is)

  abbrev pub access_text : ℕ → List Control → Text
  access_text x is = w.name x ++ indices_text is

  abbrev pub window_text : ℕ → List Coord → Text
  window_text x coords = w.name x ++ bracketed (map coord_text coords)

abbrev pub condition_precedence : Condition → ℕ
condition_precedence (Or a b) = DISJUNCTION
condition_precedence (And a b) = CONJUNCTION
condition_precedence (Lt a b) = COMPARISON
condition_precedence (Le a b) = COMPARISON
condition_precedence (Gt a b) = COMPARISON
condition_precedence (Ge a b) = COMPARISON
condition_precedence (Eq a b) = COMPARISON
condition_precedence _ = UNARY

abbrev pub condition_in_place : ℕ → Condition → Text → Text
condition_in_place place c t = operand place (condition_precedence c) t

module _ (w : Words) where
  -- the sides of a comparison are sums, which bind tighter
  abbrev pub condition_text : Condition → Text
  condition_text True = codes "True"
  condition_text False = codes "False"
  condition_text (Flag x) = w.name x
  condition_text (FieldFlag f) = w.field f
  condition_text (Lt a b) = between (control_text w a) (codes "<") (control_text w b)
  condition_text (Le a b) = between (control_text w a) (codes "<=") (control_text w b)
  condition_text (Gt a b) = between (control_text w a) (codes ">") (control_text w b)
  condition_text (Ge a b) = between (control_text w a) (codes ">=") (control_text w b)
  condition_text (Eq a b) = between (control_text w a) (codes "==") (control_text w b)
  condition_text (And a b) =
      between (condition_in_place CONJUNCTION a (condition_text a))
      (codes "and")
      (condition_in_place COMPARISON b (condition_text b))
  condition_text (Or a b) =
      between (condition_in_place DISJUNCTION a (condition_text a))
      (codes "or")
      (condition_in_place CONJUNCTION b (condition_text b))
