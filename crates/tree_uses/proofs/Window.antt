-- A window put in the place of one name.
use Rattle.std.proofs.Common.{◌≡◌, ℕ, ◌==◌, cond, Bool, true, false, true≢false, List, [], ◌∷◌}
use Rattle.std.proofs.Common.{refl, sym, ap, ap₂, ◌∙◌}
use Rattle.exo_tree.specs.Tree.{Control, Lit, Var, Field, StrideOf, Neg, Add, Sub, Mul, Div, Mod}
use Rattle.exo_tree.specs.Tree.{Condition, True, False, Flag, FieldFlag, Lt, Le, Gt, Ge, Eq, And, Or}
use Rattle.exo_tree.specs.Tree.{Datum, Const, Read, Negated, Relu, Plus, Minus, Times, Select}
use Rattle.exo_tree.specs.Tree.{Coord, At, Span, Argument, ControlArg, ConditionArg, Whole, Window}
use Rattle.exo_tree.specs.Tree.{Statement, Assign, Reduce, Config, Pass, If, For, Alloc, View, Call}
use Rattle.exo_tree.specs.Tree.{Block, end, next}
use Rattle.inplace_laws.specs.Inline.{is_view}
use Rattle.inplace_laws.specs.Windows.{shifted, joined_coords, nth_span, root_in, coords_of}
use Rattle.inplace_laws.specs.Windows as win
use Rattle.match_laws.specs.Inline.AtOnce.{root_for, coords_for, put_control, put_controls, put_condition}
use Rattle.match_laws.specs.Inline.AtOnce.{put_index, put_datum, put_coords, put_window, put_argument}
use Rattle.match_laws.specs.Inline.AtOnce.{Put, put_arguments, put_statement, put_block}
use Rattle.tree_uses.specs.Putting.{one_window, PuttingWindow}
use Rattle.tree_uses.proofs.IsPut.{putting_puts}

-- a view has a root of its own
view_root : (a : Argument) (x y : ℕ) → is_view a ≡ true → root_in a x ≡ root_in a y
view_root (ControlArg e) x y h = absurd (true≢false (sym h))
view_root (ConditionArg c) x y h = absurd (true≢false (sym h))
view_root (Whole z) x y h = refl
view_root (Window z cs) x y h = refl

module _ (w : ℕ) (t : Argument) (view : is_view t ≡ true) where
  abbrev put : Put
  put = one_window w t

  root : (y : ℕ) → root_for put y ≡ win.to_name w t y
  root y = go (y == w)
    where
      go : (s : Bool) → root_in (cond s t (Whole y)) y ≡ cond s (root_in t w) y
      go true = view_root t y w view
      go false = refl

  coords_there : (y : ℕ) → coords_for put y ≡ win.coords_at w t y
  coords_there y = go (y == w)
    where
      go : (s : Bool) → coords_of (cond s t (Whole y)) ≡ cond s (coords_of t) []
      go true = refl
      go false = refl

  control : (e : Control) → put_control put e ≡ win.in_control w t e
  control (Lit n) = refl
  control (Var x) = refl
  control (Field f) = refl
  control (StrideOf x k) = ap₂ StrideOf (root x) (ap (λ cs. nth_span cs k) (coords_there x))
  control (Neg a) = ap Neg (control a)
  control (Add a b) = ap₂ Add (control a) (control b)
  control (Sub a b) = ap₂ Sub (control a) (control b)
  control (Mul a b) = ap₂ Mul (control a) (control b)
  control (Div a c) = ap (λ z. Div z c) (control a)
  control (Mod a c) = ap (λ z. Mod z c) (control a)

  controls : (es : List Control) → put_controls put es ≡ win.in_controls w t es
  controls [] = refl
  controls (e ∷ es) = ap₂ ◌∷◌ (control e) (controls es)

  condition : (c : Condition) → put_condition put c ≡ win.in_condition w t c
  condition True = refl
  condition False = refl
  condition (Flag x) = refl
  condition (FieldFlag f) = refl
  condition (Lt a b) = ap₂ Lt (control a) (control b)
  condition (Le a b) = ap₂ Le (control a) (control b)
  condition (Gt a b) = ap₂ Gt (control a) (control b)
  condition (Ge a b) = ap₂ Ge (control a) (control b)
  condition (Eq a b) = ap₂ Eq (control a) (control b)
  condition (And c d) = ap₂ And (condition c) (condition d)
  condition (Or c d) = ap₂ Or (condition c) (condition d)

  index : (x : ℕ) (is : List Control)
      → put_index put x is ≡ shifted (win.coords_at w t x) (win.in_controls w t is)
  index x is = ap₂ shifted (coords_there x) (controls is)

  datum : (d : Datum) → put_datum put d ≡ win.in_datum w t d
  datum (Const n) = refl
  datum (Read x is) = ap₂ Read (root x) (index x is)
  datum (Negated a) = ap Negated (datum a)
  datum (Relu a) = ap Relu (datum a)
  datum (Plus a b) = ap₂ Plus (datum a) (datum b)
  datum (Minus a b) = ap₂ Minus (datum a) (datum b)
  datum (Times a b) = ap₂ Times (datum a) (datum b)
  datum (Select a b c d) =
      let p = datum a in
      let q = datum b in
      let r = datum c in
      let s = datum d in
      λ j. Select (p j) (q j) (r j) (s j)

  coords : (cs : List Coord) → put_coords put cs ≡ win.in_coords w t cs
  coords [] = refl
  coords (At a ∷ cs) = ap₂ (λ z rest. At z ∷ rest) (control a) (coords cs)
  coords (Span a b ∷ cs) =
      let p = control a in
      let q = control b in
      let rest = coords cs in
      λ j. Span (p j) (q j) ∷ rest j

  window : (x : ℕ) (cs : List Coord)
      → put_window put x cs ≡ joined_coords (win.coords_at w t x) (win.in_coords w t cs)
  window x cs = ap₂ joined_coords (coords_there x) (coords cs)

  argument : (a : Argument) → put_argument put a ≡ win.in_argument w t a
  argument (ControlArg a) = ap ControlArg (control a)
  argument (ConditionArg c) = ap ConditionArg (condition c)
  argument (Whole x) = refl
  argument (Window x cs) = ap₂ Window (root x) (window x cs)

  arguments : (args : List Argument) → put_arguments put args ≡ win.in_arguments w t args
  arguments [] = refl
  arguments (a ∷ args) = ap₂ ◌∷◌ (argument a) (arguments args)

  mutual
    statement : (a : Statement) → put_statement put a ≡ win.in_statement w t a
    statement (Assign x is e) =
        let p = root x in
        let q = index x is in
        let r = datum e in
        λ j. Assign (p j) (q j) (r j)
    statement (Reduce x is e) =
        let p = root x in
        let q = index x is in
        let r = datum e in
        λ j. Reduce (p j) (q j) (r j)
    statement (Config f a) = ap (Config f) (argument a)
    statement Pass = refl
    statement (If c a b) =
        let p = condition c in
        let q = block a in
        let r = block b in
        λ j. If (p j) (q j) (r j)
    statement (For i lo hi b) =
        let p = control lo in
        let q = control hi in
        let r = block b in
        λ j. For i (p j) (q j) (r j)
    statement (Alloc x cell dims memory) = ap (λ ds. Alloc x cell ds memory) (controls dims)
    statement (View v x cs) = ap₂ (View v) (root x) (window x cs)
    statement (Call k args) = ap (Call k) (arguments args)

    block : (b : Block) → put_block put b ≡ win.in_block w t b
    block end = refl
    block (next a b) = ap₂ next (statement a) (block b)

pub putting_window : PuttingWindow
putting_window w t b view = putting_puts (one_window w t) b ∙ block w t view b
