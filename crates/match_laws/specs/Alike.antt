-- Blocks that are one tree but for control expressions that agree.
use Rattle.std.specs.Prelude.{◌≡◌, ℕ, ◌==◌, Bool, true, false, ◌&&◌, List, [], ◌∷◌}
use Rattle.std.specs.Ordering.{int_eq}
use Rattle.exo_tree.specs.Tree.{Binder, Control, Datum, Const, Read, Negated, Relu, Plus, Minus}
use Rattle.exo_tree.specs.Tree.{Times, Select, Coord, At, Span, Argument, ControlArg, ConditionArg}
use Rattle.exo_tree.specs.Tree.{Whole, Window, Statement, Assign, Reduce, Config, Pass, If, For}
use Rattle.exo_tree.specs.Tree.{Alloc, View, Call, Block, end, next}
use Rattle.exo_meaning.specs.State.{State}
use Rattle.exo_meaning.specs.Run.{World, run}
use Rattle.affine_forms.specs.Forms.{Reading}
use Rattle.inplace_laws.specs.Along.{SameAlong}
use Rattle.match_laws.specs.Simplify.SameControls.{OfEach}
use Rattle.match_laws.specs.Simplify.SimplifiedBlocks.{IsRead}
use Rattle.match_laws.specs.Moved.{agree, conditions_agree}
use Rattle.exo_tree.specs.Cells.{same_cell}

abbrev pub same_text : List ℕ → List ℕ → Bool
same_text [] [] = true
same_text (m ∷ ms) (n ∷ ns) = (m == n) && same_text ms ns
same_text ms ns = false

abbrev pub same_binder : Binder → Binder → Bool
same_binder a b = (a.id == b.id) && same_text a.name b.name

module _ (at : Reading) where
  abbrev pub controls_agree : List Control → List Control → Bool
  controls_agree [] [] = true
  controls_agree (a ∷ as') (b ∷ bs) = agree at a b && controls_agree as' bs
  controls_agree as' bs = false

  abbrev pub data_agree : Datum → Datum → Bool
  data_agree (Const m) (Const n) = int_eq m n
  data_agree (Read x is) (Read y js) = (x == y) && controls_agree is js
  data_agree (Negated a) (Negated b) = data_agree a b
  data_agree (Relu a) (Relu b) = data_agree a b
  data_agree (Plus a b) (Plus c d) = data_agree a c && data_agree b d
  data_agree (Minus a b) (Minus c d) = data_agree a c && data_agree b d
  data_agree (Times a b) (Times c d) = data_agree a c && data_agree b d
  data_agree (Select a b c d) (Select e f g h) =
      (data_agree a e && data_agree b f) && (data_agree c g && data_agree d h)
  data_agree a b = false

  abbrev pub coords_agree : List Coord → List Coord → Bool
  coords_agree [] [] = true
  coords_agree (At a ∷ cs) (At b ∷ ds) = agree at a b && coords_agree cs ds
  coords_agree (Span a b ∷ cs) (Span c d ∷ ds) =
      (agree at a c && agree at b d) && coords_agree cs ds
  coords_agree cs ds = false

  abbrev pub arguments_alike : Argument → Argument → Bool
  arguments_alike (ControlArg a) (ControlArg b) = agree at a b
  arguments_alike (ConditionArg c) (ConditionArg d) = conditions_agree at c d
  arguments_alike (Whole x) (Whole y) = x == y
  arguments_alike (Window x cs) (Window y ds) = (x == y) && coords_agree cs ds
  arguments_alike a b = false

  abbrev pub arguments_agree : List Argument → List Argument → Bool
  arguments_agree [] [] = true
  arguments_agree (a ∷ as') (b ∷ bs) = arguments_alike a b && arguments_agree as' bs
  arguments_agree as' bs = false

  abbrev mutual
    pub statements_agree : Statement → Statement → Bool
    statements_agree (Assign x is e) (Assign y js d) =
        (x == y) && (controls_agree is js && data_agree e d)
    statements_agree (Reduce x is e) (Reduce y js d) =
        (x == y) && (controls_agree is js && data_agree e d)
    statements_agree (Config f a) (Config g b) = (f == g) && arguments_alike a b
    statements_agree Pass Pass = true
    statements_agree (If c a b) (If r d e) =
        conditions_agree at c r && (blocks_agree a d && blocks_agree b e)
    statements_agree (For i lo hi b) (For j l h d) =
        same_binder i j && ((agree at lo l && agree at hi h) && blocks_agree b d)
    statements_agree (Alloc x cell dims memory) (Alloc y type extents store) =
        (x.id == y.id) && (same_cell cell type && controls_agree dims extents)
    statements_agree (View w x cs) (View v y ds) =
        (w.id == v.id) && ((x == y) && coords_agree cs ds)
    statements_agree (Call k args) (Call m others) = (k == m) && arguments_agree args others
    statements_agree a c = false

    pub blocks_agree : Block → Block → Bool
    blocks_agree end end = true
    blocks_agree (next a b) (next c d) = statements_agree a c && blocks_agree b d
    blocks_agree b d = false

-- ---- names of binders, which no run depends on

abbrev pub nameless_binder : Binder → Binder
nameless_binder b = record { id = b.id; name = [] }

abbrev mutual
  pub nameless_statement : Statement → Statement
  nameless_statement (Assign x is e) = Assign x is e
  nameless_statement (Reduce x is e) = Reduce x is e
  nameless_statement (Config f a) = Config f a
  nameless_statement Pass = Pass
  nameless_statement (If c a b) = If c (nameless a) (nameless b)
  nameless_statement (For i lo hi b) = For (nameless_binder i) lo hi (nameless b)
  nameless_statement (Alloc x cell dims memory) = Alloc (nameless_binder x) cell dims memory
  nameless_statement (View w x cs) = View (nameless_binder w) x cs
  nameless_statement (Call k args) = Call k args

  pub nameless : Block → Block
  nameless end = end
  nameless (next a b) = next (nameless_statement a) (nameless b)

-- ---- the laws

-- where what is read in them has its numbers wherever a run comes, they do the same
abbrev pub AgreeAlong : Type 0
AgreeAlong =
    (world : World) (at : Reading) (b d : Block) (s : State)
    → blocks_agree at b d ≡ true
    → OfEach world (IsRead at) b s
    → OfEach world (IsRead at) d s
    → SameAlong world b d s

-- so blocks run alike that agree but for the names of their binders
abbrev pub AgreeRuns : Type 0
AgreeRuns =
    (world : World) (at : Reading) (b d : Block) (s : State)
    → blocks_agree at (nameless b) (nameless d) ≡ true
    → OfEach world (IsRead at) (nameless b) s
    → OfEach world (IsRead at) (nameless d) s
    → run world b s ≡ run world d s
