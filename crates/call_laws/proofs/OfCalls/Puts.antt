-- New ids first and arguments behind are one pass.
use Rattle.std.proofs.Common.{◌≡◌, ℕ, true, true≢false, List, [], ◌∷◌, refl, sym, ap, ap₂}
use Rattle.exo_tree.specs.Tree.{Control, Lit, Var, Field, StrideOf, Neg, Add, Sub, Mul, Div, Mod}
use Rattle.exo_tree.specs.Tree.{Condition, True, False, Flag, FieldFlag, Lt, Le, Gt, Ge, Eq, And, Or}
use Rattle.exo_tree.specs.Tree.{Datum, Const, Read, Negated, Relu, Plus, Minus, Times, Select}
use Rattle.exo_tree.specs.Tree.{Coord, At, Span, Argument, ControlArg, ConditionArg, Whole, Window}
use Rattle.exo_tree.specs.Tree.{Statement, Assign, Reduce, Config, Pass, If, For, Alloc, View, Call}
use Rattle.exo_tree.specs.Tree.{Block, end, next}
use Rattle.exo_tree.specs.Renaming.{re_binder, re_control, re_controls, re_condition, re_datum, re_coords}
use Rattle.exo_tree.specs.Renaming.{re_argument, re_arguments, re_statement, re_block}
use Rattle.inplace_laws.specs.Windows.{shifted, joined_coords, nth_span, root_in}
use Rattle.inplace_laws.specs.Inline.{is_view}
use Rattle.match_laws.specs.Inline.AtOnce.{Put, root_for, coords_for, put_control, put_controls, put_condition}
use Rattle.match_laws.specs.Inline.AtOnce.{put_index, put_datum, put_coords, put_window, put_argument, put_arguments}
use Rattle.match_laws.specs.Inline.AtOnce.{put_statement, put_block}
use Rattle.call_laws.specs.Calls.Puts.{after, put_under_statement, put_under, GivesViews}
use Rattle.call_laws.specs.Calls.Puts.{PutsRenumbered}

-- a view has a root of its own
view_root : (a : Argument) (x y : ℕ) → is_view a ≡ true → root_in a x ≡ root_in a y
view_root (ControlArg e) x y h = absurd (true≢false (sym h))
view_root (ConditionArg c) x y h = absurd (true≢false (sym h))
view_root (Whole z) x y h = refl
view_root (Window z cs) x y h = refl

module _ (to : ℕ → ℕ) (put : Put) (views : GivesViews put) where
  abbrev then_put : Put
  then_put = after to put

  root : (x : ℕ) → root_for put (to x) ≡ root_for then_put x
  root x = view_root (put.name (to x)) (to x) x (views (to x))

  control : (e : Control) → put_control put (re_control to e) ≡ put_control then_put e
  control (Lit n) = refl
  control (Var x) = refl
  control (Field f) = refl
  control (StrideOf x k) = ap (λ z. StrideOf z (nth_span (coords_for then_put x) k)) (root x)
  control (Neg a) = ap Neg (control a)
  control (Add a b) = ap₂ Add (control a) (control b)
  control (Sub a b) = ap₂ Sub (control a) (control b)
  control (Mul a b) = ap₂ Mul (control a) (control b)
  control (Div a c) = ap (λ z. Div z c) (control a)
  control (Mod a c) = ap (λ z. Mod z c) (control a)

  controls : (es : List Control) → put_controls put (re_controls to es) ≡ put_controls then_put es
  controls [] = refl
  controls (e ∷ es) = ap₂ ◌∷◌ (control e) (controls es)

  condition : (c : Condition) → put_condition put (re_condition to c) ≡ put_condition then_put c
  condition True = refl
  condition False = refl
  condition (Flag x) = refl
  condition (FieldFlag f) = refl
  condition (Lt a b) = ap₂ Lt (control a) (control b)
  condition (Le a b) = ap₂ Le (control a) (control b)
  condition (Gt a b) = ap₂ Gt (control a) (control b)
  condition (Ge a b) = ap₂ Ge (control a) (control b)
  condition (Eq a b) = ap₂ Eq (control a) (control b)
  condition (And c d) = ap₂ And (condition c) (condition d)
  condition (Or c d) = ap₂ Or (condition c) (condition d)

  index : (x : ℕ) (is : List Control)
      → put_index put (to x) (re_controls to is) ≡ put_index then_put x is
  index x is = ap (shifted (coords_for then_put x)) (controls is)

  datum : (d : Datum) → put_datum put (re_datum to d) ≡ put_datum then_put d
  datum (Const n) = refl
  datum (Read x is) = ap₂ Read (root x) (index x is)
  datum (Negated a) = ap Negated (datum a)
  datum (Relu a) = ap Relu (datum a)
  datum (Plus a b) = ap₂ Plus (datum a) (datum b)
  datum (Minus a b) = ap₂ Minus (datum a) (datum b)
  datum (Times a b) = ap₂ Times (datum a) (datum b)
  datum (Select a b c d) =
      let p = datum a in
      let q = datum b in
      let r = datum c in
      let s = datum d in
      λ j. Select (p j) (q j) (r j) (s j)

  coords : (cs : List Coord) → put_coords put (re_coords to cs) ≡ put_coords then_put cs
  coords [] = refl
  coords (At a ∷ cs) = ap₂ (λ z rest. At z ∷ rest) (control a) (coords cs)
  coords (Span a b ∷ cs) =
      let p = control a in
      let q = control b in
      let rest = coords cs in
      λ j. Span (p j) (q j) ∷ rest j

  window : (x : ℕ) (cs : List Coord)
      → put_window put (to x) (re_coords to cs) ≡ put_window then_put x cs
  window x cs = ap (joined_coords (coords_for then_put x)) (coords cs)

  argument : (a : Argument) → put_argument put (re_argument to a) ≡ put_argument then_put a
  argument (ControlArg a) = ap ControlArg (control a)
  argument (ConditionArg c) = ap ConditionArg (condition c)
  argument (Whole x) = refl
  argument (Window x cs) = ap₂ Window (root x) (window x cs)

  arguments : (args : List Argument)
      → put_arguments put (re_arguments to args) ≡ put_arguments then_put args
  arguments [] = refl
  arguments (a ∷ args) = ap₂ ◌∷◌ (argument a) (arguments args)

  mutual
    statement : (a : Statement)
        → put_statement put (re_statement to a) ≡ put_under_statement to then_put a
    statement (Assign x is e) =
        let p = root x in
        let q = index x is in
        let r = datum e in
        λ j. Assign (p j) (q j) (r j)
    statement (Reduce x is e) =
        let p = root x in
        let q = index x is in
        let r = datum e in
        λ j. Reduce (p j) (q j) (r j)
    statement (Config f a) = ap (Config f) (argument a)
    statement Pass = refl
    statement (If c a b) =
        let p = condition c in
        let q = block a in
        let r = block b in
        λ j. If (p j) (q j) (r j)
    statement (For i lo hi b) =
        let p = control lo in
        let q = control hi in
        let r = block b in
        λ j. For (re_binder to i) (p j) (q j) (r j)
    statement (Alloc x cell dims memory) =
        ap (λ ds. Alloc (re_binder to x) cell ds memory) (controls dims)
    statement (View w x cs) = ap₂ (View (re_binder to w)) (root x) (window x cs)
    statement (Call k args) = ap (Call k) (arguments args)

    block : (b : Block) → put_block put (re_block to b) ≡ put_under to then_put b
    block end = refl
    block (next a b) = ap₂ next (statement a) (block b)

pub puts_renumbered : PutsRenumbered
puts_renumbered to put b views = block to put views b
