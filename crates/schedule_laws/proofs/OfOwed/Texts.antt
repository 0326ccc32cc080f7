-- Expressions are written alike whatever the procedures are called.
use Rattle.std.proofs.Common.{◌≡◌, ◌++◌, ℕ, map, refl}
use Rattle.std.specs.Prelude.{codes}
use Rattle.std.specs.Fmt.{signed_decimal}
use Rattle.exo_tree.specs.Tree.{Control, Lit, Var, Field, StrideOf, Neg, Add, Sub, Mul, Div, Mod, Condition}
use Rattle.exo_tree.specs.Tree.{True, False, Flag, FieldFlag, Lt, Le, Gt, Ge, Eq, And, Or, Coord, At, Span}
use Rattle.exo_tree.specs.Tree.{Argument, ControlArg, ConditionArg, Whole, Window}
use Rattle.text_show.specs.declared.precedence.TheConstants.{DISJUNCTION, CONJUNCTION, COMPARISON, SUM, PRODUCT, UNARY}
use Rattle.text_show.specs.Layout.{Text, bracketed, between}
use Rattle.text_show.specs.Words.{Words}
use Rattle.text_show.specs.ControlText.{in_place, control_text, coord_text, condition_in_place, condition_text}
use Rattle.text_show.specs.StatementText.{argument_text}

module _ (w : Words) (callee : ℕ → Text) where
  abbrev pub other : Words
  other = record w { callee = callee }

  control_same : (e : Control) → control_text other e ≡ control_text w e
  control_same (Lit n) = refl
  control_same (Var x) = refl
  control_same (Field f) = refl
  control_same (StrideOf x k) = refl
  control_same (Neg a) = λ i. codes "-" ++ in_place UNARY a (control_same a i)
  control_same (Add a b) =
      λ i. between (in_place SUM a (control_same a i)) (codes "+") (in_place PRODUCT b (control_same b i))
  control_same (Sub a b) =
      λ i. between (in_place SUM a (control_same a i)) (codes "-") (in_place PRODUCT b (control_same b i))
  control_same (Mul a b) =
      λ i. between (in_place PRODUCT a (control_same a i)) (codes "*") (in_place UNARY b (control_same b i))
  control_same (Div a n) = λ i. between (in_place PRODUCT a (control_same a i)) (codes "/") (signed_decimal n)
  control_same (Mod a n) = λ i. between (in_place PRODUCT a (control_same a i)) (codes "%") (signed_decimal n)

  pub condition_same : (c : Condition) → condition_text other c ≡ condition_text w c
  condition_same True = refl
  condition_same False = refl
  condition_same (Flag x) = refl
  condition_same (FieldFlag f) = refl
  condition_same (Lt a b) = λ i. between (control_same a i) (codes "<") (control_same b i)
  condition_same (Le a b) = λ i. between (control_same a i) (codes "<=") (control_same b i)
  condition_same (Gt a b) = λ i. between (control_same a i) (codes ">") (control_same b i)
  condition_same (Ge a b) = λ i. between (control_same a i) (codes ">=") (control_same b i)
  condition_same (Eq a b) = λ i. between (control_same a i) (codes "==") (control_same b i)
  condition_same (And a b) =
      λ i. between (condition_in_place CONJUNCTION a (condition_same a i)) (codes "and")
      (condition_in_place COMPARISON b (condition_same b i))
  condition_same (Or a b) =
      λ i. between (condition_in_place DISJUNCTION a (condition_same a i)) (codes "or")
      (condition_in_place CONJUNCTION b (condition_same b i))

  coord_same : (c : Coord) → coord_text other c ≡ coord_text w c
  coord_same (At a) = control_same a
  coord_same (Span a b) = λ i. control_same a i ++ codes ":" ++ control_same b i

  pub argument_same : (a : Argument) → argument_text other a ≡ argument_text w a
  argument_same (ControlArg e) = control_same e
  argument_same (ConditionArg c) = condition_same c
  argument_same (Whole x) = refl
  argument_same (Window x coords) = λ i. w.name x ++ bracketed (map (λ c. coord_same c i) coords)
