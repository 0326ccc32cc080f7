-- Where everything can be written down, so can each tree.
use Rattle.std.proofs.Common.{◌≡◌, ℕ, Bool, true, ◌&&◌, List, [], ◌∷◌, refl, ap₂}
use Rattle.exo_tree.specs.Tree.{Control, Condition, True, False, Flag, FieldFlag, Lt, Le, Gt, Ge, Eq}
use Rattle.exo_tree.specs.Tree.{And, Or, Datum, Const, Read, Negated, Relu, Plus, Minus, Times, Select}
use Rattle.exo_tree.specs.Tree.{Coord, Argument, ControlArg, ConditionArg, Whole, Window}
use Rattle.exo_tree.specs.Tree.{Statement, Assign, Reduce, Config, Pass, If, For, Alloc, View, Call}
use Rattle.exo_tree.specs.Tree.{Block, end, next}
use Rattle.tree_uses.specs.Uses.{Uses, controls_fit, condition_fits, datum_fits, argument_fits, arguments_fit}
use Rattle.tree_uses.specs.Uses.{statement_fits, used_fits}

both : {p q : Bool} → p ≡ true → q ≡ true → (p && q) ≡ true
both h k = ap₂ ◌&&◌ h k

module _ (uses : Uses) (control : (e : Control) → uses.control_fits e ≡ true)
    (indices : (x : ℕ) (is : List Control) → uses.indices_fit x is ≡ true)
    (coords : (x : ℕ) (cs : List Coord) → uses.coords_fit x cs ≡ true) where
  controls : (es : List Control) → controls_fit uses es ≡ true
  controls [] = refl
  controls (e ∷ es) = both (control e) (controls es)

  condition : (c : Condition) → condition_fits uses c ≡ true
  condition True = refl
  condition False = refl
  condition (Flag x) = refl
  condition (FieldFlag f) = refl
  condition (Lt a b) = both (control a) (control b)
  condition (Le a b) = both (control a) (control b)
  condition (Gt a b) = both (control a) (control b)
  condition (Ge a b) = both (control a) (control b)
  condition (Eq a b) = both (control a) (control b)
  condition (And c d) = both (condition c) (condition d)
  condition (Or c d) = both (condition c) (condition d)

  datum : (e : Datum) → datum_fits uses e ≡ true
  datum (Const n) = refl
  datum (Read x is) = indices x is
  datum (Negated a) = datum a
  datum (Relu a) = datum a
  datum (Plus a b) = both (datum a) (datum b)
  datum (Minus a b) = both (datum a) (datum b)
  datum (Times a b) = both (datum a) (datum b)
  datum (Select a b c d) = both (both (datum a) (datum b)) (both (datum c) (datum d))

  argument : (a : Argument) → argument_fits uses a ≡ true
  argument (ControlArg a) = control a
  argument (ConditionArg c) = condition c
  argument (Whole x) = refl
  argument (Window x cs) = coords x cs

  arguments : (args : List Argument) → arguments_fit uses args ≡ true
  arguments [] = refl
  arguments (a ∷ args) = both (argument a) (arguments args)

  mutual
    pub statement_all_fits : (a : Statement) → statement_fits uses a ≡ true
    statement_all_fits (Assign x is e) = both (indices x is) (datum e)
    statement_all_fits (Reduce x is e) = both (indices x is) (datum e)
    statement_all_fits (Config f a) = argument a
    statement_all_fits Pass = refl
    statement_all_fits (If c a b) = both (condition c) (both (all_fits a) (all_fits b))
    statement_all_fits (For i lo hi b) = both (both (control lo) (control hi)) (all_fits b)
    statement_all_fits (Alloc x cell dims memory) = controls dims
    statement_all_fits (View w x cs) = coords x cs
    statement_all_fits (Call k args) = arguments args

    pub all_fits : (b : Block) → used_fits uses b ≡ true
    all_fits end = refl
    all_fits (next a b) = both (statement_all_fits a) (all_fits b)
