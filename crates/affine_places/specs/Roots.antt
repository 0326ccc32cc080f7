-- Which root each name of a procedure stands for, and over which dimension of the root each
-- coordinate of the name runs.
use Rattle.std.specs.Prelude.{ℕ, Bool, true, false, ◌&&◌, List, [], ◌∷◌, length, slice_get}
use Rattle.std.specs.Prelude.{if◌then◌else◌, Option, Some, None}
use Rattle.std.specs.List.{range_with_len}
use Rattle.exo_tree.specs.Spans.{is_span}
use Rattle.exo_tree.specs.Tree.{Control, Coord, Statement, Assign, Reduce, Config, Pass, If, For}
use Rattle.exo_tree.specs.Tree.{Alloc, View, Call, Block, end, next, Param, ParamKind, ControlParam}
use Rattle.exo_tree.specs.Tree.{TensorParam, WindowParam, Procedure, Program}
use Rattle.exo_meaning.specs.Scene.{updated}
use Rattle.exo_meaning.specs.Units.{is_rank}
use Rattle.affine_forms.specs.Forms.{Allowed}
use Rattle.affine_forms.specs.Strides.{all_affine}

-- how the cells of a root lie: row by row, with these extents; or by strides that are given
pub data Layout : Type 0 where
  Dense : List Control → Layout
  Strided : Layout

-- the root of a name, a parameter or an allocation; how its cells lie; and its dimension for each
-- coordinate of the name
pub record Rooted : Type 0 where
  pub root : ℕ
  pub layout : Layout
  pub dims : List ℕ

-- None is a name that stands for no buffer
abbrev pub Roots : Type 0
Roots = ℕ → Option Rooted

abbrev pub no_roots : Roots
no_roots x = None

-- a root stands for itself
abbrev pub own_root : ℕ → Layout → ℕ → Rooted
own_root x layout rank = record { root = x; layout = layout; dims = range_with_len 0 rank }

abbrev pub with_root : ℕ → Rooted → Roots → Roots
with_root x r roots = updated roots x (Some r)

abbrev pub with_kind : ℕ → ParamKind → Roots → Roots
with_kind x (ControlParam kind) roots = roots
with_kind x (TensorParam cell extents memory) roots =
    with_root x (own_root x (Dense extents) (length extents)) roots
with_kind x (WindowParam cell extents memory) roots =
    with_root x (own_root x Strided (length extents)) roots

abbrev pub with_params : List Param → Roots → Roots
with_params [] roots = roots
with_params (p ∷ ps) roots = with_params ps (with_kind p.binder.id p.kind roots)

-- a span keeps the dimension over which it runs, a point drops it
abbrev pub spanned : List Coord → List ℕ → List ℕ
spanned [] ds = []
spanned (c ∷ cs) [] = []
spanned (c ∷ cs) (d ∷ ds) = if is_span c then d ∷ spanned cs ds else spanned cs ds

-- a view of a name has the name's root
abbrev pub seen_through : List Coord → Rooted → Rooted
seen_through coords r = record { root = r.root; layout = r.layout; dims = spanned coords r.dims }

abbrev pub with_view : ℕ → List Coord → Option Rooted → Roots → Roots
with_view w coords None roots = roots
with_view w coords (Some r) roots = with_root w (seen_through coords r) roots

-- the binders of a block, at every depth; those of a procedure have different ids
abbrev mutual
  pub with_block : Block → Roots → Roots
  with_block end roots = roots
  with_block (next a b) roots = with_block b (with_statement a roots)

  pub with_statement : Statement → Roots → Roots
  with_statement (Assign x is e) roots = roots
  with_statement (Reduce x is e) roots = roots
  with_statement (Config f a) roots = roots
  with_statement Pass roots = roots
  with_statement (If c a b) roots = with_block b (with_block a roots)
  with_statement (For i lo hi b) roots = with_block b roots
  with_statement (Alloc x cell extents memory) roots =
      with_root x.id (own_root x.id (Dense extents) (length extents)) roots
  with_statement (View w x coords) roots = with_view w.id coords (roots x) roots
  with_statement (Call k args) roots = roots

abbrev pub roots_of : Procedure → Roots
roots_of p = with_block p.body (with_params p.params no_roots)

-- ---- extents

-- an extent is over variables alone
abbrev pub variables : Allowed
variables = record { variable = λ x. true; field = λ f. false; stride = λ x k. false }

abbrev pub are_extents : List Control → Bool
are_extents es = is_rank (length es) && all_affine variables es

abbrev pub kind_has_extents : ParamKind → Bool
kind_has_extents (ControlParam kind) = true
kind_has_extents (TensorParam cell extents memory) = are_extents extents
kind_has_extents (WindowParam cell extents memory) = are_extents extents

abbrev pub params_have_extents : List Param → Bool
params_have_extents [] = true
params_have_extents (p ∷ ps) = kind_has_extents p.kind && params_have_extents ps

abbrev mutual
  pub block_has_extents : Block → Bool
  block_has_extents end = true
  block_has_extents (next a b) = statement_has_extents a && block_has_extents b

  pub statement_has_extents : Statement → Bool
  statement_has_extents (Assign x is e) = true
  statement_has_extents (Reduce x is e) = true
  statement_has_extents (Config f a) = true
  statement_has_extents Pass = true
  statement_has_extents (If c a b) = block_has_extents a && block_has_extents b
  statement_has_extents (For i lo hi b) = block_has_extents b
  statement_has_extents (Alloc x cell extents memory) = are_extents extents
  statement_has_extents (View w x coords) = true
  statement_has_extents (Call k args) = true

-- each buffer of the procedure has at most 8 dimensions, and affine extents over variables alone
abbrev pub has_extents : Procedure → Bool
has_extents p = params_have_extents p.params && block_has_extents p.body

-- ---- of a procedure of a unit

abbrev pub unit_roots : Program → ℕ → Roots
unit_roots u p = elim (slice_get u.procedures p) [ None ↦ no_roots | Some q ↦ roots_of q ]

abbrev pub unit_has_extents : Program → ℕ → Bool
unit_has_extents u p = elim (slice_get u.procedures p) [ None ↦ true | Some q ↦ has_extents q ]
