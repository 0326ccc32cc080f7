-- Arguments put one after the other are put all at once.
use Rattle.std.proofs.Common.{◌≡◌, ℕ, ◌==◌, Bool, true, false, cond, ◌||◌, if◌then◌else◌}
use Rattle.std.proofs.Common.{List}
use Rattle.std.proofs.Common.{[], ◌∷◌, refl, sym, ap, ap₂, ◌∙◌, true≢false, eqb-true, eq-eqb}
use Rattle.exo_tree.specs.Tree.{Control, Lit, Var, Field, StrideOf, Neg, Add, Sub, Mul, Div, Mod}
use Rattle.exo_tree.specs.Tree.{Condition, True, False, Flag, FieldFlag, Lt, Le, Gt, Ge, Eq, And}
use Rattle.exo_tree.specs.Tree.{Or}
use Rattle.exo_tree.specs.Tree.{Datum, Const, Read, Negated, Relu, Plus, Minus, Times, Select}
use Rattle.exo_tree.specs.Tree.{Coord}
use Rattle.exo_tree.specs.Tree.{At, Span, Argument, ControlArg, ConditionArg, Whole, Window}
use Rattle.exo_tree.specs.Tree.{ParamKind, ControlParam, TensorParam, WindowParam, Param, Statement}
use Rattle.exo_tree.specs.Tree.{Assign, Reduce, Config, Pass, If, For, Alloc, View, Call, Block}
use Rattle.exo_tree.specs.Tree.{end}
use Rattle.exo_tree.specs.Tree.{next}
use Rattle.exo_meaning.specs.Inputs.{is_buffer_of}
use Rattle.exo_meaning.specs.Unseen.{in_control, in_condition, in_coords, in_argument, in_arguments}
use Rattle.exo_meaning.proofs.Frame.{or_parts}
use Rattle.meaning_laws.specs.Substitute as num
use Rattle.meaning_laws.specs.Flags as flags
use Rattle.inplace_laws.specs.Windows as win
use Rattle.affine_forms.proofs.Values.{and_parts}
use Rattle.inplace_laws.specs.Windows.{shifted, joined_coords, nth_span, root_in, coords_of}
use Rattle.inplace_laws.specs.Inline.{inlined, with_argument, is_view}
use Rattle.match_laws.specs.Inline.AtOnce.{Put, itself, root_for, coords_for, put_control, put_controls}
use Rattle.match_laws.specs.Inline.AtOnce.{put_condition, put_index, put_datum, put_coords, put_window}
use Rattle.match_laws.specs.Inline.AtOnce.{put_argument, put_arguments, put_statement, put_block}
use Rattle.match_laws.specs.Inline.AtOnce.{with_put, puts, suits, all_suit, AtOnce}

-- ---- coordinates that are put

module _ (put : Put) where
  shifted_put : (cs : List Coord) (is : List Control)
      → put_controls put (shifted cs is) ≡ shifted (put_coords put cs) (put_controls put is)
  shifted_put [] is = refl
  shifted_put (At a ∷ cs) is = ap (λ rest. put_control put a ∷ rest) (shifted_put cs is)
  shifted_put (Span a b ∷ cs) [] = refl
  shifted_put (Span a b ∷ cs) (i ∷ is) =
      ap (λ rest. Add (put_control put a) (put_control put i) ∷ rest) (shifted_put cs is)

  joined_put : (cs ds : List Coord)
      → put_coords put (joined_coords cs ds) ≡ joined_coords (put_coords put cs) (put_coords put ds)
  joined_put [] ds = refl
  joined_put (At a ∷ cs) ds = ap (λ rest. At (put_control put a) ∷ rest) (joined_put cs ds)
  joined_put (Span a b ∷ cs) [] = refl
  joined_put (Span a b ∷ cs) (At c ∷ ds) =
      ap (λ rest. At (Add (put_control put a) (put_control put c)) ∷ rest) (joined_put cs ds)
  joined_put (Span a b ∷ cs) (Span c d ∷ ds) =
      ap (λ rest. Span (Add (put_control put a) (put_control put c))
      (Add (put_control put a) (put_control put d)) ∷ rest) (joined_put cs ds)

-- ---- a number in the place of a variable

module _ (put : Put) (x : ℕ) (e : Control) (free : put_control put e ≡ e) where
  abbrev with_number : Put
  with_number = record put { variable = λ y. if y == x then e else put.variable y }

  number_control : (a : Control)
      → put_control put (num.in_control x e a) ≡ put_control with_number a
  number_control (Lit n) = refl
  number_control (Var y) = go (y == x)
    where
      go : (t : Bool)
          → put_control put (if t then e else Var y) ≡ (if t then e else put.variable y)
      go true = free
      go false = refl
  number_control (Field f) = refl
  number_control (StrideOf y k) = refl
  number_control (Neg a) = ap Neg (number_control a)
  number_control (Add a b) = ap₂ Add (number_control a) (number_control b)
  number_control (Sub a b) = ap₂ Sub (number_control a) (number_control b)
  number_control (Mul a b) = ap₂ Mul (number_control a) (number_control b)
  number_control (Div a c) = ap (λ n. Div n c) (number_control a)
  number_control (Mod a c) = ap (λ n. Mod n c) (number_control a)

  number_controls : (is : List Control)
      → put_controls put (num.in_controls x e is) ≡ put_controls with_number is
  number_controls [] = refl
  number_controls (a ∷ is) = ap₂ ◌∷◌ (number_control a) (number_controls is)

  number_condition : (c : Condition)
      → put_condition put (num.in_condition x e c) ≡ put_condition with_number c
  number_condition True = refl
  number_condition False = refl
  number_condition (Flag y) = refl
  number_condition (FieldFlag f) = refl
  number_condition (Lt a b) = ap₂ Lt (number_control a) (number_control b)
  number_condition (Le a b) = ap₂ Le (number_control a) (number_control b)
  number_condition (Gt a b) = ap₂ Gt (number_control a) (number_control b)
  number_condition (Ge a b) = ap₂ Ge (number_control a) (number_control b)
  number_condition (Eq a b) = ap₂ Eq (number_control a) (number_control b)
  number_condition (And c d) = ap₂ And (number_condition c) (number_condition d)
  number_condition (Or c d) = ap₂ Or (number_condition c) (number_condition d)

  number_coords : (cs : List Coord)
      → put_coords put (num.in_coords x e cs) ≡ put_coords with_number cs
  number_coords [] = refl
  number_coords (At a ∷ cs) = ap₂ (λ n rest. At n ∷ rest) (number_control a) (number_coords cs)
  number_coords (Span a b ∷ cs) =
      ap₂ ◌∷◌ (ap₂ Span (number_control a) (number_control b)) (number_coords cs)

  number_root : (y : ℕ) → root_for put y ≡ root_for with_number y
  number_root y = refl

  number_index : (y : ℕ) (is : List Control)
      → put_index put y (num.in_controls x e is) ≡ put_index with_number y is
  number_index y is = ap (shifted (coords_for put y)) (number_controls is)

  number_window : (y : ℕ) (cs : List Coord)
      → put_window put y (num.in_coords x e cs) ≡ put_window with_number y cs
  number_window y cs = ap (joined_coords (coords_for put y)) (number_coords cs)

  number_datum : (d : Datum)
      → put_datum put (num.in_datum x e d) ≡ put_datum with_number d
  number_datum (Const n) = refl
  number_datum (Read y is) = ap₂ Read (number_root y) (number_index y is)
  number_datum (Negated a) = ap Negated (number_datum a)
  number_datum (Relu a) = ap Relu (number_datum a)
  number_datum (Plus a b) = ap₂ Plus (number_datum a) (number_datum b)
  number_datum (Minus a b) = ap₂ Minus (number_datum a) (number_datum b)
  number_datum (Times a b) = ap₂ Times (number_datum a) (number_datum b)
  number_datum (Select a b c d) =
      ap₂ (λ m n. Select m n (put_datum put (num.in_datum x e c))
      (put_datum put (num.in_datum x e d)))
      (number_datum a) (number_datum b)
      ∙ ap₂ (Select (put_datum with_number a) (put_datum with_number b)) (number_datum c)
      (number_datum d)

  number_argument : (a : Argument)
      → put_argument put (num.in_argument x e a) ≡ put_argument with_number a
  number_argument (ControlArg a) = ap ControlArg (number_control a)
  number_argument (ConditionArg c) = ap ConditionArg (number_condition c)
  number_argument (Whole y) = refl
  number_argument (Window y cs) = ap₂ Window (number_root y) (number_window y cs)

  number_arguments : (args : List Argument)
      → put_arguments put (num.in_arguments x e args) ≡ put_arguments with_number args
  number_arguments [] = refl
  number_arguments (a ∷ args) = ap₂ ◌∷◌ (number_argument a) (number_arguments args)

  mutual
    number_statement : (d : Statement)
        → put_statement put (num.in_statement x e d) ≡ put_statement with_number d
    number_statement (Assign y is d) =
        ap₂ (λ i js. Assign i js (put_datum put (num.in_datum x e d))) (number_root y)
        (number_index y is)
        ∙ ap (Assign (root_for with_number y) (put_index with_number y is)) (number_datum d)
    number_statement (Reduce y is d) =
        ap₂ (λ i js. Reduce i js (put_datum put (num.in_datum x e d))) (number_root y)
        (number_index y is)
        ∙ ap (Reduce (root_for with_number y) (put_index with_number y is)) (number_datum d)
    number_statement (Config f a) = ap (Config f) (number_argument a)
    number_statement Pass = refl
    number_statement (If c a b) =
        ap₂ (λ q d. If q d (put_block put (num.in_block x e b))) (number_condition c)
        (number_block a)
        ∙ ap (If (put_condition with_number c) (put_block with_number a)) (number_block b)
    number_statement (For i lo hi b) =
        ap₂ (λ l h. For i l h (put_block put (num.in_block x e b))) (number_control lo)
        (number_control hi)
        ∙ ap (For i (put_control with_number lo) (put_control with_number hi)) (number_block b)
    number_statement (Alloc y cell dims memory) =
        ap (λ ds. Alloc y cell ds memory) (number_controls dims)
    number_statement (View w y cs) = ap₂ (View w) (number_root y) (number_window y cs)
    number_statement (Call k args) = ap (Call k) (number_arguments args)

    number_block : (b : Block)
        → put_block put (num.in_block x e b) ≡ put_block with_number b
    number_block end = refl
    number_block (next d b) = ap₂ next (number_statement d) (number_block b)

-- ---- a condition in the place of a bool

module _ (put : Put) (x : ℕ) (r : Condition) (free : put_condition put r ≡ r) where
  abbrev with_flag : Put
  with_flag = record put { flag = λ y. if y == x then r else put.flag y }

  flag_control : (a : Control)
      → put_control put a ≡ put_control with_flag a
  flag_control (Lit n) = refl
  flag_control (Var y) = refl
  flag_control (Field f) = refl
  flag_control (StrideOf y k) = refl
  flag_control (Neg a) = ap Neg (flag_control a)
  flag_control (Add a b) = ap₂ Add (flag_control a) (flag_control b)
  flag_control (Sub a b) = ap₂ Sub (flag_control a) (flag_control b)
  flag_control (Mul a b) = ap₂ Mul (flag_control a) (flag_control b)
  flag_control (Div a c) = ap (λ n. Div n c) (flag_control a)
  flag_control (Mod a c) = ap (λ n. Mod n c) (flag_control a)

  flag_controls : (is : List Control)
      → put_controls put is ≡ put_controls with_flag is
  flag_controls [] = refl
  flag_controls (a ∷ is) = ap₂ ◌∷◌ (flag_control a) (flag_controls is)

  flag_condition : (c : Condition)
      → put_condition put (flags.in_condition x r c) ≡ put_condition with_flag c
  flag_condition True = refl
  flag_condition False = refl
  flag_condition (Flag y) = go (y == x)
    where
      go : (t : Bool)
          → put_condition put (if t then r else Flag y) ≡ (if t then r else put.flag y)
      go true = free
      go false = refl
  flag_condition (FieldFlag f) = refl
  flag_condition (Lt a b) = ap₂ Lt (flag_control a) (flag_control b)
  flag_condition (Le a b) = ap₂ Le (flag_control a) (flag_control b)
  flag_condition (Gt a b) = ap₂ Gt (flag_control a) (flag_control b)
  flag_condition (Ge a b) = ap₂ Ge (flag_control a) (flag_control b)
  flag_condition (Eq a b) = ap₂ Eq (flag_control a) (flag_control b)
  flag_condition (And c d) = ap₂ And (flag_condition c) (flag_condition d)
  flag_condition (Or c d) = ap₂ Or (flag_condition c) (flag_condition d)

  flag_coords : (cs : List Coord)
      → put_coords put cs ≡ put_coords with_flag cs
  flag_coords [] = refl
  flag_coords (At a ∷ cs) = ap₂ (λ n rest. At n ∷ rest) (flag_control a) (flag_coords cs)
  flag_coords (Span a b ∷ cs) =
      ap₂ ◌∷◌ (ap₂ Span (flag_control a) (flag_control b)) (flag_coords cs)

  flag_root : (y : ℕ) → root_for put y ≡ root_for with_flag y
  flag_root y = refl

  flag_index : (y : ℕ) (is : List Control)
      → put_index put y is ≡ put_index with_flag y is
  flag_index y is = ap (shifted (coords_for put y)) (flag_controls is)

  flag_window : (y : ℕ) (cs : List Coord)
      → put_window put y cs ≡ put_window with_flag y cs
  flag_window y cs = ap (joined_coords (coords_for put y)) (flag_coords cs)

  flag_datum : (d : Datum)
      → put_datum put d ≡ put_datum with_flag d
  flag_datum (Const n) = refl
  flag_datum (Read y is) = ap₂ Read (flag_root y) (flag_index y is)
  flag_datum (Negated a) = ap Negated (flag_datum a)
  flag_datum (Relu a) = ap Relu (flag_datum a)
  flag_datum (Plus a b) = ap₂ Plus (flag_datum a) (flag_datum b)
  flag_datum (Minus a b) = ap₂ Minus (flag_datum a) (flag_datum b)
  flag_datum (Times a b) = ap₂ Times (flag_datum a) (flag_datum b)
  flag_datum (Select a b c d) =
      ap₂ (λ m n. Select m n (put_datum put c) (put_datum put d))
      (flag_datum a) (flag_datum b)
      ∙ ap₂ (Select (put_datum with_flag a) (put_datum with_flag b)) (flag_datum c) (flag_datum d)

  flag_argument : (a : Argument)
      → put_argument put (flags.in_argument x r a) ≡ put_argument with_flag a
  flag_argument (ControlArg a) = ap ControlArg (flag_control a)
  flag_argument (ConditionArg c) = ap ConditionArg (flag_condition c)
  flag_argument (Whole y) = refl
  flag_argument (Window y cs) = ap₂ Window (flag_root y) (flag_window y cs)

  flag_arguments : (args : List Argument)
      → put_arguments put (flags.in_arguments x r args) ≡ put_arguments with_flag args
  flag_arguments [] = refl
  flag_arguments (a ∷ args) = ap₂ ◌∷◌ (flag_argument a) (flag_arguments args)

  mutual
    flag_statement : (d : Statement)
        → put_statement put (flags.in_statement x r d) ≡ put_statement with_flag d
    flag_statement (Assign y is d) =
        ap₂ (λ i js. Assign i js (put_datum put d)) (flag_root y) (flag_index y is)
        ∙ ap (Assign (root_for with_flag y) (put_index with_flag y is)) (flag_datum d)
    flag_statement (Reduce y is d) =
        ap₂ (λ i js. Reduce i js (put_datum put d)) (flag_root y) (flag_index y is)
        ∙ ap (Reduce (root_for with_flag y) (put_index with_flag y is)) (flag_datum d)
    flag_statement (Config f a) = ap (Config f) (flag_argument a)
    flag_statement Pass = refl
    flag_statement (If c a b) =
        ap₂ (λ q d. If q d (put_block put (flags.in_block x r b))) (flag_condition c) (flag_block a)
        ∙ ap (If (put_condition with_flag c) (put_block with_flag a)) (flag_block b)
    flag_statement (For i lo hi b) =
        ap₂ (λ l h. For i l h (put_block put (flags.in_block x r b))) (flag_control lo)
        (flag_control hi)
        ∙ ap (For i (put_control with_flag lo) (put_control with_flag hi)) (flag_block b)
    flag_statement (Alloc y cell dims memory) =
        ap (λ ds. Alloc y cell ds memory) (flag_controls dims)
    flag_statement (View w y cs) = ap₂ (View w) (flag_root y) (flag_window y cs)
    flag_statement (Call k args) = ap (Call k) (flag_arguments args)

    flag_block : (b : Block)
        → put_block put (flags.in_block x r b) ≡ put_block with_flag b
    flag_block end = refl
    flag_block (next d b) = ap₂ next (flag_statement d) (flag_block b)

-- ---- a window in the place of a name

module _ (put : Put) (x : ℕ) (t : Argument) (free : put_argument put t ≡ t)
    (root_free : (y : ℕ) → root_for put (root_in t x) ≡ root_in t y)
    (no_coords : coords_for put (root_in t x) ≡ [])
    (coords_free : put_coords put (coords_of t) ≡ coords_of t) where
  abbrev with_name : Put
  with_name = record put { name = λ y. if y == x then t else put.name y }

  place_control : (a : Control)
      → put_control put (win.in_control x t a) ≡ put_control with_name a
  place_control (Lit n) = refl
  place_control (Var y) = refl
  place_control (Field f) = refl
  place_control (StrideOf y k) = go (y == x)
    where
      go : (s : Bool)
          → put_control put (StrideOf (cond s (root_in t x) y)
          (nth_span (cond s (coords_of t) []) k))
          ≡ StrideOf (root_in (cond s t (put.name y)) y)
          (nth_span (coords_of (cond s t (put.name y))) k)
      go true =
          ap₂ StrideOf (root_free y)
          (ap (λ cs. nth_span cs (nth_span (coords_of t) k)) no_coords)
      go false = refl
  place_control (Neg a) = ap Neg (place_control a)
  place_control (Add a b) = ap₂ Add (place_control a) (place_control b)
  place_control (Sub a b) = ap₂ Sub (place_control a) (place_control b)
  place_control (Mul a b) = ap₂ Mul (place_control a) (place_control b)
  place_control (Div a c) = ap (λ n. Div n c) (place_control a)
  place_control (Mod a c) = ap (λ n. Mod n c) (place_control a)

  place_controls : (is : List Control)
      → put_controls put (win.in_controls x t is) ≡ put_controls with_name is
  place_controls [] = refl
  place_controls (a ∷ is) = ap₂ ◌∷◌ (place_control a) (place_controls is)

  place_condition : (c : Condition)
      → put_condition put (win.in_condition x t c) ≡ put_condition with_name c
  place_condition True = refl
  place_condition False = refl
  place_condition (Flag y) = refl
  place_condition (FieldFlag f) = refl
  place_condition (Lt a b) = ap₂ Lt (place_control a) (place_control b)
  place_condition (Le a b) = ap₂ Le (place_control a) (place_control b)
  place_condition (Gt a b) = ap₂ Gt (place_control a) (place_control b)
  place_condition (Ge a b) = ap₂ Ge (place_control a) (place_control b)
  place_condition (Eq a b) = ap₂ Eq (place_control a) (place_control b)
  place_condition (And c d) = ap₂ And (place_condition c) (place_condition d)
  place_condition (Or c d) = ap₂ Or (place_condition c) (place_condition d)

  place_coords : (cs : List Coord)
      → put_coords put (win.in_coords x t cs) ≡ put_coords with_name cs
  place_coords [] = refl
  place_coords (At a ∷ cs) = ap₂ (λ n rest. At n ∷ rest) (place_control a) (place_coords cs)
  place_coords (Span a b ∷ cs) =
      ap₂ ◌∷◌ (ap₂ Span (place_control a) (place_control b)) (place_coords cs)

  place_root : (y : ℕ) → root_for put (win.to_name x t y) ≡ root_for with_name y
  place_root y = go (y == x)
    where
      go : (s : Bool) → root_for put (cond s (root_in t x) y) ≡ root_in (cond s t (put.name y)) y
      go true = root_free y
      go false = refl

  place_index : (y : ℕ) (is : List Control)
      → put_index put (win.to_name x t y) (shifted (win.coords_at x t y) (win.in_controls x t is))
      ≡ put_index with_name y is
  place_index y is = go (y == x)
    where
      go : (s : Bool)
          → shifted (coords_for put (cond s (root_in t x) y))
          (put_controls put (shifted (cond s (coords_of t) []) (win.in_controls x t is)))
          ≡ shifted (coords_of (cond s t (put.name y))) (put_controls with_name is)
      go true =
          ap (λ cs. shifted cs (put_controls put (shifted (coords_of t) (win.in_controls x t is))))
          no_coords
          ∙ shifted_put put (coords_of t) (win.in_controls x t is)
          ∙ ap₂ shifted coords_free (place_controls is)
      go false = ap (shifted (coords_for put y)) (place_controls is)

  place_window : (y : ℕ) (cs : List Coord)
      → put_window put (win.to_name x t y) (joined_coords (win.coords_at x t y)
      (win.in_coords x t cs)) ≡ put_window with_name y cs
  place_window y cs = go (y == x)
    where
      go : (s : Bool)
          → joined_coords (coords_for put (cond s (root_in t x) y))
          (put_coords put (joined_coords (cond s (coords_of t) []) (win.in_coords x t cs)))
          ≡ joined_coords (coords_of (cond s t (put.name y))) (put_coords with_name cs)
      go true =
          ap (λ ds. joined_coords ds (put_coords put (joined_coords (coords_of t)
          (win.in_coords x t cs)))) no_coords
          ∙ joined_put put (coords_of t) (win.in_coords x t cs)
          ∙ ap₂ joined_coords coords_free (place_coords cs)
      go false = ap (joined_coords (coords_for put y)) (place_coords cs)

  place_datum : (d : Datum)
      → put_datum put (win.in_datum x t d) ≡ put_datum with_name d
  place_datum (Const n) = refl
  place_datum (Read y is) = ap₂ Read (place_root y) (place_index y is)
  place_datum (Negated a) = ap Negated (place_datum a)
  place_datum (Relu a) = ap Relu (place_datum a)
  place_datum (Plus a b) = ap₂ Plus (place_datum a) (place_datum b)
  place_datum (Minus a b) = ap₂ Minus (place_datum a) (place_datum b)
  place_datum (Times a b) = ap₂ Times (place_datum a) (place_datum b)
  place_datum (Select a b c d) =
      ap₂ (λ m n. Select m n (put_datum put (win.in_datum x t c))
      (put_datum put (win.in_datum x t d)))
      (place_datum a) (place_datum b)
      ∙ ap₂ (Select (put_datum with_name a) (put_datum with_name b)) (place_datum c) (place_datum d)

  place_argument : (a : Argument)
      → put_argument put (win.in_argument x t a) ≡ put_argument with_name a
  place_argument (ControlArg a) = ap ControlArg (place_control a)
  place_argument (ConditionArg c) = ap ConditionArg (place_condition c)
  place_argument (Whole y) = go (y == x)
    where
      go : (s : Bool) → put_argument put (cond s t (Whole y)) ≡ cond s t (put.name y)
      go true = free
      go false = refl
  place_argument (Window y cs) = ap₂ Window (place_root y) (place_window y cs)

  place_arguments : (args : List Argument)
      → put_arguments put (win.in_arguments x t args) ≡ put_arguments with_name args
  place_arguments [] = refl
  place_arguments (a ∷ args) = ap₂ ◌∷◌ (place_argument a) (place_arguments args)

  mutual
    place_statement : (d : Statement)
        → put_statement put (win.in_statement x t d) ≡ put_statement with_name d
    place_statement (Assign y is d) =
        ap₂ (λ i js. Assign i js (put_datum put (win.in_datum x t d))) (place_root y)
        (place_index y is)
        ∙ ap (Assign (root_for with_name y) (put_index with_name y is)) (place_datum d)
    place_statement (Reduce y is d) =
        ap₂ (λ i js. Reduce i js (put_datum put (win.in_datum x t d))) (place_root y)
        (place_index y is)
        ∙ ap (Reduce (root_for with_name y) (put_index with_name y is)) (place_datum d)
    place_statement (Config f a) = ap (Config f) (place_argument a)
    place_statement Pass = refl
    place_statement (If c a b) =
        ap₂ (λ q d. If q d (put_block put (win.in_block x t b))) (place_condition c) (place_block a)
        ∙ ap (If (put_condition with_name c) (put_block with_name a)) (place_block b)
    place_statement (For i lo hi b) =
        ap₂ (λ l h. For i l h (put_block put (win.in_block x t b))) (place_control lo)
        (place_control hi)
        ∙ ap (For i (put_control with_name lo) (put_control with_name hi)) (place_block b)
    place_statement (Alloc y cell dims memory) =
        ap (λ ds. Alloc y cell ds memory) (place_controls dims)
    place_statement (View w y cs) = ap₂ (View w) (place_root y) (place_window y cs)
    place_statement (Call k args) = ap (Call k) (place_arguments args)

    place_block : (b : Block)
        → put_block put (win.in_block x t b) ≡ put_block with_name b
    place_block end = refl
    place_block (next d b) = ap₂ next (place_statement d) (place_block b)

-- ---- nothing is put

same_control : (a : Control)
    → put_control itself a ≡ a
same_control (Lit n) = refl
same_control (Var y) = refl
same_control (Field f) = refl
same_control (StrideOf y k) = refl
same_control (Neg a) = ap Neg (same_control a)
same_control (Add a b) = ap₂ Add (same_control a) (same_control b)
same_control (Sub a b) = ap₂ Sub (same_control a) (same_control b)
same_control (Mul a b) = ap₂ Mul (same_control a) (same_control b)
same_control (Div a c) = ap (λ n. Div n c) (same_control a)
same_control (Mod a c) = ap (λ n. Mod n c) (same_control a)

same_controls : (is : List Control)
    → put_controls itself is ≡ is
same_controls [] = refl
same_controls (a ∷ is) = ap₂ ◌∷◌ (same_control a) (same_controls is)

same_condition : (c : Condition)
    → put_condition itself c ≡ c
same_condition True = refl
same_condition False = refl
same_condition (Flag y) = refl
same_condition (FieldFlag f) = refl
same_condition (Lt a b) = ap₂ Lt (same_control a) (same_control b)
same_condition (Le a b) = ap₂ Le (same_control a) (same_control b)
same_condition (Gt a b) = ap₂ Gt (same_control a) (same_control b)
same_condition (Ge a b) = ap₂ Ge (same_control a) (same_control b)
same_condition (Eq a b) = ap₂ Eq (same_control a) (same_control b)
same_condition (And c d) = ap₂ And (same_condition c) (same_condition d)
same_condition (Or c d) = ap₂ Or (same_condition c) (same_condition d)

same_coords : (cs : List Coord)
    → put_coords itself cs ≡ cs
same_coords [] = refl
same_coords (At a ∷ cs) = ap₂ (λ n rest. At n ∷ rest) (same_control a) (same_coords cs)
same_coords (Span a b ∷ cs) =
    ap₂ ◌∷◌ (ap₂ Span (same_control a) (same_control b)) (same_coords cs)

same_root : (y : ℕ) → root_for itself y ≡ y
same_root y = refl

same_index : (y : ℕ) (is : List Control) → put_index itself y is ≡ is
same_index y is = same_controls is

same_window : (y : ℕ) (cs : List Coord) → put_window itself y cs ≡ cs
same_window y cs = same_coords cs

same_datum : (d : Datum)
    → put_datum itself d ≡ d
same_datum (Const n) = refl
same_datum (Read y is) = ap₂ Read (same_root y) (same_index y is)
same_datum (Negated a) = ap Negated (same_datum a)
same_datum (Relu a) = ap Relu (same_datum a)
same_datum (Plus a b) = ap₂ Plus (same_datum a) (same_datum b)
same_datum (Minus a b) = ap₂ Minus (same_datum a) (same_datum b)
same_datum (Times a b) = ap₂ Times (same_datum a) (same_datum b)
same_datum (Select a b c d) =
    ap₂ (λ m n. Select m n (put_datum itself c) (put_datum itself d))
    (same_datum a) (same_datum b)
    ∙ ap₂ (Select a b) (same_datum c) (same_datum d)

same_argument : (a : Argument)
    → put_argument itself a ≡ a
same_argument (ControlArg a) = ap ControlArg (same_control a)
same_argument (ConditionArg c) = ap ConditionArg (same_condition c)
same_argument (Whole y) = refl
same_argument (Window y cs) = ap₂ Window (same_root y) (same_window y cs)

same_arguments : (args : List Argument)
    → put_arguments itself args ≡ args
same_arguments [] = refl
same_arguments (a ∷ args) = ap₂ ◌∷◌ (same_argument a) (same_arguments args)

mutual
  same_statement : (d : Statement)
      → put_statement itself d ≡ d
  same_statement (Assign y is d) =
      ap₂ (λ i js. Assign i js (put_datum itself d)) (same_root y) (same_index y is)
      ∙ ap (Assign y is) (same_datum d)
  same_statement (Reduce y is d) =
      ap₂ (λ i js. Reduce i js (put_datum itself d)) (same_root y) (same_index y is)
      ∙ ap (Reduce y is) (same_datum d)
  same_statement (Config f a) = ap (Config f) (same_argument a)
  same_statement Pass = refl
  same_statement (If c a b) =
      ap₂ (λ q d. If q d (put_block itself b)) (same_condition c) (same_block a)
      ∙ ap (If c a) (same_block b)
  same_statement (For i lo hi b) =
      ap₂ (λ l h. For i l h (put_block itself b)) (same_control lo) (same_control hi)
      ∙ ap (For i lo hi) (same_block b)
  same_statement (Alloc y cell dims memory) =
      ap (λ ds. Alloc y cell ds memory) (same_controls dims)
  same_statement (View w y cs) = ap₂ (View w) (same_root y) (same_window y cs)
  same_statement (Call k args) = ap (Call k) (same_arguments args)

  same_block : (b : Block)
      → put_block itself b ≡ b
  same_block end = refl
  same_block (next d b) = ap₂ next (same_statement d) (same_block b)

-- ---- what mentions nothing hidden stays

pub record Keeps (hidden : ℕ → Bool) (put : Put) : Type 0 where
  pub variable : (y : ℕ) → hidden y ≡ false → put.variable y ≡ Var y
  pub flag : (y : ℕ) → hidden y ≡ false → put.flag y ≡ Flag y
  pub name : (y : ℕ) → hidden y ≡ false → put.name y ≡ Whole y

module _ (hidden : ℕ → Bool) (put : Put) (keeps : Keeps hidden put) where
  control_kept : (e : Control) → in_control hidden e ≡ false → put_control put e ≡ e
  control_kept (Lit n) h = refl
  control_kept (Var y) h = keeps.variable y h
  control_kept (Field f) h = refl
  control_kept (StrideOf y k) h =
      ap (λ n. StrideOf (root_in n y) (nth_span (coords_of n) k)) (keeps.name y h)
  control_kept (Neg a) h = ap Neg (control_kept a h)
  control_kept (Add a b) h =
      let p = or_parts (in_control hidden a) (in_control hidden b) h in
      ap₂ Add (control_kept a p.0) (control_kept b p.1)
  control_kept (Sub a b) h =
      let p = or_parts (in_control hidden a) (in_control hidden b) h in
      ap₂ Sub (control_kept a p.0) (control_kept b p.1)
  control_kept (Mul a b) h =
      let p = or_parts (in_control hidden a) (in_control hidden b) h in
      ap₂ Mul (control_kept a p.0) (control_kept b p.1)
  control_kept (Div a c) h = ap (λ n. Div n c) (control_kept a h)
  control_kept (Mod a c) h = ap (λ n. Mod n c) (control_kept a h)

  sides_kept : (f : Control → Control → Condition) (a b : Control)
      → (in_control hidden a || in_control hidden b) ≡ false
      → f (put_control put a) (put_control put b) ≡ f a b
  sides_kept f a b h =
      let p = or_parts (in_control hidden a) (in_control hidden b) h in
      ap₂ f (control_kept a p.0) (control_kept b p.1)

  condition_kept : (c : Condition) → in_condition hidden c ≡ false → put_condition put c ≡ c
  condition_kept True h = refl
  condition_kept False h = refl
  condition_kept (Flag y) h = keeps.flag y h
  condition_kept (FieldFlag f) h = refl
  condition_kept (Lt a b) h = sides_kept Lt a b h
  condition_kept (Le a b) h = sides_kept Le a b h
  condition_kept (Gt a b) h = sides_kept Gt a b h
  condition_kept (Ge a b) h = sides_kept Ge a b h
  condition_kept (Eq a b) h = sides_kept Eq a b h
  condition_kept (And c d) h =
      let p = or_parts (in_condition hidden c) (in_condition hidden d) h in
      ap₂ And (condition_kept c p.0) (condition_kept d p.1)
  condition_kept (Or c d) h =
      let p = or_parts (in_condition hidden c) (in_condition hidden d) h in
      ap₂ Or (condition_kept c p.0) (condition_kept d p.1)

  coords_kept : (cs : List Coord) → in_coords hidden cs ≡ false → put_coords put cs ≡ cs
  coords_kept [] h = refl
  coords_kept (At a ∷ cs) h =
      let p = or_parts (in_control hidden a) (in_coords hidden cs) h in
      ap₂ (λ n rest. At n ∷ rest) (control_kept a p.0) (coords_kept cs p.1)
  coords_kept (Span a b ∷ cs) h =
      let p = or_parts (in_control hidden a) (in_control hidden b || in_coords hidden cs) h in
      let q = or_parts (in_control hidden b) (in_coords hidden cs) p.1 in
      ap₂ ◌∷◌ (ap₂ Span (control_kept a p.0) (control_kept b q.0)) (coords_kept cs q.1)

  -- a window or a name in the place of another name
  put_at : (x : ℕ) (t : Argument) (b : Block) → is_view t ≡ true → in_argument hidden t ≡ false
      → put_block put (win.in_block x t b)
      ≡ put_block (record put { name = λ y. if y == x then t else put.name y }) b
  put_at x (ControlArg e) b v h = absurd (true≢false (sym v))
  put_at x (ConditionArg c) b v h = absurd (true≢false (sym v))
  put_at x (Whole z) b v h =
      place_block put x (Whole z) (keeps.name z h) (λ y. ap (λ n. root_in n z) (keeps.name z h))
      (ap coords_of (keeps.name z h)) refl b
  put_at x (Window z cs) b v h =
      let p = or_parts (hidden z) (in_coords hidden cs) h in
      place_block put x (Window z cs)
      (ap₂ (λ n ds. Window (root_in n z) (joined_coords (coords_of n) ds)) (keeps.name z p.0)
      (coords_kept cs p.1)) (λ y. ap (λ n. root_in n z) (keeps.name z p.0))
      (ap coords_of (keeps.name z p.0)) (coords_kept cs p.1) b

-- ---- the parameters

-- a hidden id is no other one
else_is : {A : Type 0} (hidden : ℕ → Bool) (x y : ℕ) (a b : A) → hidden x ≡ true
    → hidden y ≡ false → (if y == x then a else b) ≡ b
else_is hidden x y a b h k = go (y == x) refl
  where
    go : (t : Bool) → (y == x) ≡ t → (if t then a else b) ≡ b
    go true e = absurd (true≢false (sym h ∙ ap hidden (sym (eqb-true y x e)) ∙ k))
    go false e = refl

with_put_keeps : (hidden : ℕ → Bool) (x : ℕ) (kind : ParamKind) (a : Argument) (put : Put)
    → hidden x ≡ true → Keeps hidden put → Keeps hidden (with_put x kind a put)
with_put_keeps hidden x (ControlParam kind) (ControlArg e) put h keeps = record {
  variable = λ y k. else_is hidden x y e (put.variable y) h k ∙ keeps.variable y k;
  flag = keeps.flag;
  name = keeps.name;
}
with_put_keeps hidden x (ControlParam kind) (ConditionArg c) put h keeps = record {
  variable = keeps.variable;
  flag = λ y k. else_is hidden x y c (put.flag y) h k ∙ keeps.flag y k;
  name = keeps.name;
}
with_put_keeps hidden x (ControlParam kind) (Whole z) put h keeps = keeps
with_put_keeps hidden x (ControlParam kind) (Window z cs) put h keeps = keeps
with_put_keeps hidden x (TensorParam cell dims memory) a put h keeps = record {
  variable = keeps.variable;
  flag = keeps.flag;
  name = λ y k. else_is hidden x y a (put.name y) h k ∙ keeps.name y k;
}
with_put_keeps hidden x (WindowParam cell dims memory) a put h keeps = record {
  variable = keeps.variable;
  flag = keeps.flag;
  name = λ y k. else_is hidden x y a (put.name y) h k ∙ keeps.name y k;
}

abbrev pub Covers : (ℕ → Bool) → List Param → Type 0
Covers hidden ps = (x : ℕ) → is_buffer_of x ps ≡ true → hidden x ≡ true

first_covered : (hidden : ℕ → Bool) (p : Param) (ps : List Param) → Covers hidden (p ∷ ps)
    → hidden p.binder.id ≡ true
first_covered hidden p ps h =
    h p.binder.id (ap (λ t. t || is_buffer_of p.binder.id ps)
    (eq-eqb p.binder.id p.binder.id refl))

rest_covered : (hidden : ℕ → Bool) (p : Param) (ps : List Param) → Covers hidden (p ∷ ps)
    → Covers hidden ps
rest_covered hidden p ps h x k = h x (go (x == p.binder.id) k)
  where
    go : (t : Bool) → is_buffer_of x ps ≡ true → (t || is_buffer_of x ps) ≡ true
    go true i = refl
    go false i = i

pub puts_keep : (hidden : ℕ → Bool) (ps : List Param) (args : List Argument) → Covers hidden ps
    → Keeps hidden (puts ps args)
puts_keep hidden [] args h =
    record { variable = λ y k. refl; flag = λ y k. refl; name = λ y k. refl }
puts_keep hidden (p ∷ ps) [] h =
    record { variable = λ y k. refl; flag = λ y k. refl; name = λ y k. refl }
puts_keep hidden (p ∷ ps) (a ∷ args) h =
    with_put_keeps hidden p.binder.id p.kind a (puts ps args) (first_covered hidden p ps h)
    (puts_keep hidden ps args (rest_covered hidden p ps h))

one_put : (hidden : ℕ → Bool) (put : Put) (x : ℕ) (kind : ParamKind) (a : Argument) (b : Block)
    → Keeps hidden put → suits kind a ≡ true → in_argument hidden a ≡ false
    → put_block put (with_argument x kind a b) ≡ put_block (with_put x kind a put) b
one_put hidden put x (ControlParam kind) (ControlArg e) b keeps s h =
    number_block put x e (control_kept hidden put keeps e h) b
one_put hidden put x (ControlParam kind) (ConditionArg c) b keeps s h =
    flag_block put x c (condition_kept hidden put keeps c h) b
one_put hidden put x (ControlParam kind) (Whole z) b keeps s h = refl
one_put hidden put x (ControlParam kind) (Window z cs) b keeps s h = refl
one_put hidden put x (TensorParam cell dims memory) a b keeps s h =
    put_at hidden put keeps x a b s h
one_put hidden put x (WindowParam cell dims memory) a b keeps s h =
    put_at hidden put keeps x a b s h

-- the rest is put first
all_put : (hidden : ℕ → Bool) (ps : List Param) (args : List Argument) (b : Block)
    → Covers hidden ps → all_suit ps args ≡ true → in_arguments hidden args ≡ false
    → inlined ps args b ≡ put_block (puts ps args) b
all_put hidden [] args b h s k = sym (same_block b)
all_put hidden (p ∷ ps) [] b h s k = sym (same_block b)
all_put hidden (p ∷ ps) (a ∷ args) b h s k =
    let fit = and_parts (suits p.kind a) (all_suit ps args) s in
    let free = or_parts (in_argument hidden a) (in_arguments hidden args) k in
    let covered = rest_covered hidden p ps h in
    all_put hidden ps args (with_argument p.binder.id p.kind a b) covered fit.1 free.1
    ∙ one_put hidden (puts ps args) p.binder.id p.kind a b (puts_keep hidden ps args covered)
    fit.0 free.0

pub at_once : AtOnce
at_once ps args b s h = all_put (λ x. is_buffer_of x ps) ps args b (λ x k. k) s h
