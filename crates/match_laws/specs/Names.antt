-- What is known of the names of a procedure.
use Rattle.std.specs.Prelude.{ℕ, pos, Bool, true, false, List, [], ◌∷◌, Option, Some, None}
use Rattle.exo_tree.specs.Tree.{Cell, Control, Lit, Sub, Coord, At, Span, ParamKind, ControlParam}
use Rattle.exo_tree.specs.Tree.{TensorParam, WindowParam, Param, Statement, Assign, Reduce, Config}
use Rattle.exo_tree.specs.Tree.{Pass, If, For, Alloc, View, Call, Block, end, next, Procedure}
use Rattle.exo_meaning.specs.Scene.{updated}

-- a buffer or a view: its cell type and its extents; a tensor parameter or an allocation is a
-- tensor
pub record Buffer : Type 0 where
  pub cell : Cell
  pub extents : List Control
  pub tensor : Bool

-- None is a name that stands for no buffer
abbrev pub Names : Type 0
Names = ℕ → Option Buffer

abbrev pub with_kind : ℕ → ParamKind → Names → Names
with_kind x (ControlParam kind) names = names
with_kind x (TensorParam cell dims memory) names =
    updated names x (Some (record { cell = cell; extents = dims; tensor = true }))
with_kind x (WindowParam cell dims memory) names =
    updated names x (Some (record { cell = cell; extents = dims; tensor = false }))

abbrev pub with_params : List Param → Names → Names
with_params [] names = names
with_params (p ∷ ps) names = with_params ps (with_kind p.binder.id p.kind names)

-- a span has the extent b - a
abbrev pub span_extents : List Coord → List Control
span_extents [] = []
span_extents (At a ∷ cs) = span_extents cs
span_extents (Span a b ∷ cs) = Sub b a ∷ span_extents cs

abbrev pub viewed : List Coord → Option Buffer → Option Buffer
viewed cs None = None
viewed cs (Some b) = Some (record { cell = b.cell; extents = span_extents cs; tensor = false })

-- the binders of a block, at every depth; those of a procedure have different ids
abbrev mutual
  pub with_block : Block → Names → Names
  with_block end names = names
  with_block (next a b) names = with_block b (with_statement a names)

  pub with_statement : Statement → Names → Names
  with_statement (Assign x is e) names = names
  with_statement (Reduce x is e) names = names
  with_statement (Config f a) names = names
  with_statement Pass names = names
  with_statement (If c a b) names = with_block b (with_block a names)
  with_statement (For i lo hi b) names = with_block b names
  with_statement (Alloc x cell dims memory) names =
      updated names x.id (Some (record { cell = cell; extents = dims; tensor = true }))
  with_statement (View w x cs) names = updated names w.id (viewed cs (names x))
  with_statement (Call k args) names = names

abbrev pub names_of : Procedure → Names
names_of p = with_block p.body (with_params p.params (λ x. None))

abbrev pub extents_of : Option Buffer → List Control
extents_of None = []
extents_of (Some b) = b.extents

-- the whole of a buffer as a window
abbrev pub whole_of : List Control → List Coord
whole_of [] = []
whole_of (d ∷ ds) = Span (Lit (pos 0)) d ∷ whole_of ds
