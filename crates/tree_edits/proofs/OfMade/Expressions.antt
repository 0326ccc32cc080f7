-- An expression has no binder, so it is the same under other names of binders.
use Rattle.std.proofs.Common.{◌≡◌, List, [], ◌∷◌, map, refl, ap, ap₂}
use Rattle.exo_tree.specs.Tree.{Binder, Control, Lit, Var, Field, StrideOf, Neg, Add, Sub, Mul, Div, Mod}
use Rattle.exo_tree.specs.Tree.{Condition, True, False, Flag, FieldFlag, Lt, Le, Gt, Ge, Eq, And, Or}
use Rattle.exo_tree.specs.Tree.{Datum, Const, Read, Negated, Relu, Plus, Minus, Times, Select}
use Rattle.exo_tree.specs.Tree.{Coord, At, Span, Argument, ControlArg, ConditionArg, Whole, Window}
use Rattle.exo_tree.specs.Mapped.{mapped_control, mapped_condition, mapped_datum, mapped_coord}
use Rattle.exo_tree.specs.Mapped.{mapped_argument}
use Rattle.tree_edits.specs.Made.Names.{with_names}

module _ (given : List Binder) where
  pub control : (a : Control) → mapped_control (with_names given) a ≡ a
  control (Lit n) = refl
  control (Var x) = refl
  control (Field f) = refl
  control (StrideOf x k) = refl
  control (Neg a) = ap Neg (control a)
  control (Add a b) = ap₂ Add (control a) (control b)
  control (Sub a b) = ap₂ Sub (control a) (control b)
  control (Mul a b) = ap₂ Mul (control a) (control b)
  control (Div a c) = ap (λ z. Div z c) (control a)
  control (Mod a c) = ap (λ z. Mod z c) (control a)

  pub controls : (is : List Control) → map (mapped_control (with_names given)) is ≡ is
  controls [] = refl
  controls (a ∷ is) = ap₂ ◌∷◌ (control a) (controls is)

  pub condition : (c : Condition) → mapped_condition (with_names given) c ≡ c
  condition True = refl
  condition False = refl
  condition (Flag x) = refl
  condition (FieldFlag f) = refl
  condition (Lt a b) = ap₂ Lt (control a) (control b)
  condition (Le a b) = ap₂ Le (control a) (control b)
  condition (Gt a b) = ap₂ Gt (control a) (control b)
  condition (Ge a b) = ap₂ Ge (control a) (control b)
  condition (Eq a b) = ap₂ Eq (control a) (control b)
  condition (And c d) = ap₂ And (condition c) (condition d)
  condition (Or c d) = ap₂ Or (condition c) (condition d)

  pub datum : (d : Datum) → mapped_datum (with_names given) d ≡ d
  datum (Const n) = refl
  datum (Read x is) = ap (Read x) (controls is)
  datum (Negated a) = ap Negated (datum a)
  datum (Relu a) = ap Relu (datum a)
  datum (Plus a b) = ap₂ Plus (datum a) (datum b)
  datum (Minus a b) = ap₂ Minus (datum a) (datum b)
  datum (Times a b) = ap₂ Times (datum a) (datum b)
  datum (Select a b c d) =
      let p = datum a in
      let q = datum b in
      let r = datum c in
      let s = datum d in
      λ j. Select (p j) (q j) (r j) (s j)

  coord : (c : Coord) → mapped_coord (with_names given) c ≡ c
  coord (At a) = ap At (control a)
  coord (Span a b) = ap₂ Span (control a) (control b)

  pub coords : (cs : List Coord) → map (mapped_coord (with_names given)) cs ≡ cs
  coords [] = refl
  coords (c ∷ cs) = ap₂ ◌∷◌ (coord c) (coords cs)

  pub argument : (a : Argument) → mapped_argument (with_names given) a ≡ a
  argument (ControlArg a) = ap ControlArg (control a)
  argument (ConditionArg c) = ap ConditionArg (condition c)
  argument (Whole x) = refl
  argument (Window x cs) = ap (Window x) (coords cs)

  pub arguments : (args : List Argument) → map (mapped_argument (with_names given)) args ≡ args
  arguments [] = refl
  arguments (a ∷ args) = ap₂ ◌∷◌ (argument a) (arguments args)
