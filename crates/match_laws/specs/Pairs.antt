-- What stands against what, where a callee's body and a block are walked together in preorder.
use Rattle.std.specs.Prelude.{ℕ, suc, ◌==◌, Bool, true, false, ◌&&◌, List, [], ◌∷◌}
use Rattle.std.specs.Prelude.{◌++◌, if◌then◌else◌, Option, Some, None}
use Rattle.std.specs.Ordering.{int_eq}
use Rattle.exo_tree.specs.Cells.{same_cell}
use Rattle.exo_tree.specs.Tree.{Control, Condition, Datum, Const, Read, Negated, Relu}
use Rattle.exo_tree.specs.Tree.{Plus, Minus, Times, Select, Coord, At, Span, Argument, ControlArg}
use Rattle.exo_tree.specs.Tree.{ConditionArg, Whole, Window, Statement, Assign, Reduce, Config}
use Rattle.exo_tree.specs.Tree.{Pass}
use Rattle.exo_tree.specs.Tree.{If, For, Alloc, View, Call, Block, end, next}
use Rattle.exo_tree.specs.Places.{Branch, Main, Else, Path}
use Rattle.match_laws.specs.Names.{Buffer, Names, extents_of, whole_of}

-- of the callee's body against the block, each at the path of its statement in the body
pub data Pair : Type 0 where
  -- two expressions; true where the whole of a bound or written value stands
  Numbers : Path → Bool → Control → Control → Pair
  Truths : Path → Bool → Condition → Condition → Pair
  -- binders that correspond
  Binders : ℕ → ℕ → Pair
  -- a name of the callee's own body against a name
  Own : Path → ℕ → ℕ → Pair
  -- an access of a parameter against an access
  Access : Path → ℕ → List Coord → ℕ → List Coord → Pair
  -- the walk ends
  Unlike : Path → Pair

-- both stand for cells of one type
abbrev pub same_cells : Option Buffer → Option Buffer → Bool
same_cells None o = false
same_cells (Some a) None = false
same_cells (Some a) (Some b) = same_cell a.cell b.cell

abbrev pub points : List Control → List Coord
points [] = []
points (e ∷ es) = At e ∷ points es

-- params: the callee's parameters; bound: the block's own names; ours, theirs: the names of the
-- callee and of the block's procedure
module _ (params bound : ℕ → Bool) (ours theirs : Names) where
  abbrev pub controls_paired : Path → List Control → List Control → List Pair
  controls_paired p [] [] = []
  controls_paired p [] (g ∷ gs) = Unlike p ∷ []
  controls_paired p (e ∷ es) [] = Unlike p ∷ []
  controls_paired p (e ∷ es) (g ∷ gs) = Numbers p false e g ∷ controls_paired p es gs

  abbrev pub coords_paired : Path → List Coord → List Coord → List Pair
  coords_paired p [] [] = []
  coords_paired p [] (d ∷ ds) = Unlike p ∷ []
  coords_paired p (c ∷ cs) [] = Unlike p ∷ []
  coords_paired p (At e ∷ cs) (At g ∷ ds) = Numbers p false e g ∷ coords_paired p cs ds
  coords_paired p (At e ∷ cs) (Span g h ∷ ds) = Unlike p ∷ []
  coords_paired p (Span e f ∷ cs) (At g ∷ ds) = Unlike p ∷ []
  coords_paired p (Span e f ∷ cs) (Span g h ∷ ds) =
      Numbers p false e g ∷ Numbers p false f h ∷ coords_paired p cs ds

  -- a parameter stands for no name of the block's own
  abbrev pub param_paired : Path → ℕ → List Coord → ℕ → List Coord → List Pair
  param_paired p x cs y ds = if bound y then Unlike p ∷ [] else Access p x cs y ds ∷ []

  -- cell types are compared at each access
  abbrev pub access_paired : Path → ℕ → List Coord → ℕ → List Coord → List Pair
  access_paired p x cs y ds =
      if same_cells (ours x) (theirs y)
      then (if params x then param_paired p x cs y ds else Own p x y ∷ coords_paired p cs ds)
      else Unlike p ∷ []

  -- the whole of a parameter is a window of all its dimensions; of another name it is that name
  abbrev pub wholes_paired : Path → ℕ → ℕ → List Pair
  wholes_paired p x y =
      if same_cells (ours x) (theirs y)
      then (if params x
      then param_paired p x (whole_of (extents_of (ours x))) y (whole_of (extents_of (theirs y)))
      else Own p x y ∷ [])
      else Unlike p ∷ []

  -- the whole of a parameter against a window, and the other way round: the coordinates of the
  -- whole; of another name they differ
  abbrev pub whole_paired : Path → ℕ → ℕ → List Coord → List Pair
  whole_paired p x y ds =
      if params x then access_paired p x (whole_of (extents_of (ours x))) y ds else Unlike p ∷ []

  abbrev pub window_paired : Path → ℕ → List Coord → ℕ → List Pair
  window_paired p x cs y =
      if params x then access_paired p x cs y (whole_of (extents_of (theirs y))) else Unlike p ∷ []

  abbrev pub data_paired : Path → Datum → Datum → List Pair
  data_paired p (Const m) (Const n) = if int_eq m n then [] else Unlike p ∷ []
  data_paired p (Read x is) (Read y js) = access_paired p x (points is) y (points js)
  data_paired p (Negated a) (Negated b) = data_paired p a b
  data_paired p (Relu a) (Relu b) = data_paired p a b
  data_paired p (Plus a b) (Plus c d) = data_paired p a c ++ data_paired p b d
  data_paired p (Minus a b) (Minus c d) = data_paired p a c ++ data_paired p b d
  data_paired p (Times a b) (Times c d) = data_paired p a c ++ data_paired p b d
  data_paired p (Select a b c d) (Select e f g h) =
      data_paired p a e ++ data_paired p b f ++ data_paired p c g ++ data_paired p d h
  data_paired p a b = Unlike p ∷ []

  -- whole: of a configuration write
  abbrev pub argument_paired : Path → Bool → Argument → Argument → List Pair
  argument_paired p whole (ControlArg e) (ControlArg g) = Numbers p whole e g ∷ []
  argument_paired p whole (ConditionArg c) (ConditionArg d) = Truths p whole c d ∷ []
  argument_paired p whole (Whole x) (Whole y) = wholes_paired p x y
  argument_paired p whole (Whole x) (Window y ds) = whole_paired p x y ds
  argument_paired p whole (Window x cs) (Whole y) = window_paired p x cs y
  argument_paired p whole (Window x cs) (Window y ds) = access_paired p x cs y ds
  argument_paired p whole a b = Unlike p ∷ []

  abbrev pub arguments_paired : Path → List Argument → List Argument → List Pair
  arguments_paired p [] [] = []
  arguments_paired p [] (b ∷ bs) = Unlike p ∷ []
  arguments_paired p (a ∷ as') [] = Unlike p ∷ []
  arguments_paired p (a ∷ as') (b ∷ bs) =
      argument_paired p false a b ++ arguments_paired p as' bs

  abbrev pub step_to : (Path → Path) → Branch → ℕ → Path → Path
  step_to under branch n rest = under (record { branch = branch; index = n } ∷ rest)

  -- under: what leads to the block; from statement n of a branch on
  abbrev mutual
    pub blocks_paired : (Path → Path) → Branch → ℕ → Block → Block → List Pair
    blocks_paired under branch n end end = []
    blocks_paired under branch n end (next c d) = Unlike (step_to under branch n []) ∷ []
    blocks_paired under branch n (next a b) end = Unlike (step_to under branch n []) ∷ []
    blocks_paired under branch n (next a b) (next c d) =
        statements_paired (step_to under branch n) a c
        ++ blocks_paired under branch (suc n) b d

    pub statements_paired : (Path → Path) → Statement → Statement → List Pair
    statements_paired at (Assign x is e) (Assign y js d) =
        access_paired (at []) x (points is) y (points js) ++ data_paired (at []) e d
    statements_paired at (Reduce x is e) (Reduce y js d) =
        access_paired (at []) x (points is) y (points js) ++ data_paired (at []) e d
    statements_paired at (Config f a) (Config g b) =
        if f == g then argument_paired (at []) true a b else Unlike (at []) ∷ []
    statements_paired at Pass Pass = []
    statements_paired at (If c a b) (If r d e) =
        Truths (at []) false c r ∷ blocks_paired at Main 0 a d ++ blocks_paired at Else 0 b e
    statements_paired at (For i lo hi b) (For j l h d) =
        Numbers (at []) true lo l ∷ Numbers (at []) true hi h ∷ Binders i.id j.id
        ∷ blocks_paired at Main 0 b d
    statements_paired at (Alloc x cell dims memory) (Alloc y type extents store) =
        if same_cell cell type && (memory == store)
        then controls_paired (at []) dims extents ++ Binders x.id y.id ∷ []
        else Unlike (at []) ∷ []
    statements_paired at (View w x cs) (View v y ds) =
        access_paired (at []) x cs y ds ++ Binders w.id v.id ∷ []
    statements_paired at (Call k as') (Call m bs) =
        if k == m then arguments_paired (at []) as' bs else Unlike (at []) ∷ []
    statements_paired at a c = Unlike (at []) ∷ []

  abbrev pub paired : Block → Block → List Pair
  paired b d = blocks_paired (λ path. path) Main 0 b d
