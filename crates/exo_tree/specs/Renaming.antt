-- Other ids for the names of a block or of parameters.
use Rattle.std.specs.Prelude.{ℕ, ◌+◌, List, [], ◌∷◌, ◌++◌, eqb, if◌then◌else◌}
use Rattle.exo_tree.specs.Tree.{Binder, Control, Var, Condition, Datum, Coord, Argument, Statement}
use Rattle.exo_tree.specs.Tree.{Assign, Reduce, Config, Pass, If, For, Alloc, View, Call, Block}
use Rattle.exo_tree.specs.Tree.{end, next, ParamKind, ControlParam, TensorParam, WindowParam}
use Rattle.exo_tree.specs.Tree.{Param}
use Rattle.exo_tree.specs.Mapped.{Leaves, mapped_control, mapped_controls, mapped_condition}
use Rattle.exo_tree.specs.Mapped.{mapped_datum}
use Rattle.exo_tree.specs.Mapped.{mapped_coord, mapped_coords, mapped_argument, mapped_arguments}
use Rattle.exo_tree.specs.Mapped.{mapped_statement, mapped_block}

-- the id of each binder and of each use is changed, and no name
abbrev pub renaming : (ℕ → ℕ) → Leaves
renaming to =
    record { variable = λ x. Var (to x); name = to; binder = λ b. record b { id = to b.id } }

module _ (to : ℕ → ℕ) where
  abbrev pub re_binder : Binder → Binder
  re_binder = (renaming to).binder

  abbrev pub re_control : Control → Control
  re_control = mapped_control (renaming to)

  abbrev pub re_controls : List Control → List Control
  re_controls = mapped_controls (renaming to)

  abbrev pub re_condition : Condition → Condition
  re_condition = mapped_condition (renaming to)

  abbrev pub re_datum : Datum → Datum
  re_datum = mapped_datum (renaming to)

  abbrev pub re_coord : Coord → Coord
  re_coord = mapped_coord (renaming to)

  abbrev pub re_coords : List Coord → List Coord
  re_coords = mapped_coords (renaming to)

  abbrev pub re_argument : Argument → Argument
  re_argument = mapped_argument (renaming to)

  abbrev pub re_arguments : List Argument → List Argument
  re_arguments = mapped_arguments (renaming to)

  abbrev pub re_statement : Statement → Statement
  re_statement = mapped_statement (renaming to)

  abbrev pub re_block : Block → Block
  re_block = mapped_block (renaming to)

  abbrev pub re_kind : ParamKind → ParamKind
  re_kind (ControlParam kind) = ControlParam kind
  re_kind (TensorParam cell dims memory) = TensorParam cell (re_controls dims) memory
  re_kind (WindowParam cell dims memory) = WindowParam cell (re_controls dims) memory

  abbrev pub re_param : Param → Param
  re_param p = record { binder = re_binder p.binder; kind = re_kind p.kind }

-- the ids of a block's binders, in preorder
abbrev mutual
  pub binders : Block → List ℕ
  binders end = []
  binders (next a b) = binders_below a ++ binders b

  pub binders_below : Statement → List ℕ
  binders_below (Assign x is d) = []
  binders_below (Reduce x is d) = []
  binders_below (Config f a) = []
  binders_below Pass = []
  binders_below (If c a b) = binders a ++ binders b
  binders_below (For i lo hi b) = i.id ∷ binders b
  binders_below (Alloc b t dims m) = b.id ∷ []
  binders_below (View b x cs) = b.id ∷ []
  binders_below (Call k args) = []

-- the ids of the list become n, n + 1 and so on, and other ids stay
abbrev pub fresh_id : List ℕ → ℕ → ℕ → ℕ
fresh_id [] n x = x
fresh_id (i ∷ is) n x = if eqb x i then n else fresh_id is (n + 1) x

-- the block with its binders, and the uses of them, numbered from n on in preorder
abbrev pub fresh : ℕ → Block → Block
fresh n b = re_block (fresh_id (binders b) n) b
