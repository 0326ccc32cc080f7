-- Which part of a buffer each name of a procedure stands for.
use Rattle.std.specs.Prelude.{ℕ, pos, List, [], ◌∷◌, map, Option, Some, None, option_map}
use Rattle.exo_tree.specs.Tree.{Control, Lit, Coord, Span, Statement}
use Rattle.exo_tree.specs.Tree.{Alloc, View, Param, ParamKind, ControlParam}
use Rattle.exo_tree.specs.Tree.{TensorParam, WindowParam}
use Rattle.exo_tree.specs.Context.{Context, Here, After, InLoop, InThen, InElse}
use Rattle.exo_meaning.specs.Scene.{updated}
use Rattle.inplace_laws.specs.Windows.{joined_coords}

-- a root, a parameter or an allocation, with a point or a span for each of its dimensions
pub record Part : Type 0 where
  pub root : ℕ
  pub coords : List Coord

-- None is a name that stands for no buffer, or for one that is left out
abbrev pub Parts : Type 0
Parts = ℕ → Option Part

abbrev pub no_parts : Parts
no_parts x = None

-- all of a dimension
abbrev pub all_of : Control → Coord
all_of d = Span (Lit (pos 0)) d

abbrev pub whole_of : ℕ → List Control → Part
whole_of x dims = record { root = x; coords = map all_of dims }

-- a window of it
abbrev pub window_of : List Coord → Part → Part
window_of coords p = record { root = p.root; coords = joined_coords p.coords coords }

abbrev pub with_kind : ℕ → ParamKind → Parts → Parts
with_kind x (ControlParam kind) parts = parts
with_kind x (TensorParam cell dims memory) parts = updated parts x (Some (whole_of x dims))
with_kind x (WindowParam cell dims memory) parts = updated parts x (Some (whole_of x dims))

abbrev pub with_params : List Param → Parts → Parts
with_params [] parts = parts
with_params (p ∷ ps) parts = with_params ps (with_kind p.binder.id p.kind parts)

-- behind a statement, where its allocation stands for this
abbrev pub behind : (ℕ → List Control → Option Part) → Statement → Parts → Parts
behind made (Alloc x cell dims memory) parts = updated parts x.id (made x.id dims)
behind made (View w x coords) parts = updated parts w.id (option_map (window_of coords) (parts x))
behind made _ parts = parts

-- on the way to a piece a buffer that is made is a root
abbrev pub passed : Statement → Parts → Parts
passed = behind (λ x dims. Some (whole_of x dims))

-- in the piece it is left out
abbrev pub passed_inside : Statement → Parts → Parts
passed_inside = behind (λ x dims. None)

-- where the hole is
abbrev pub parts_at : Context → Parts → Parts
parts_at (Here rest) parts = parts
parts_at (After a c) parts = parts_at c (passed a parts)
parts_at (InLoop i lo hi c rest) parts = parts_at c parts
parts_at (InThen t c other rest) parts = parts_at c parts
parts_at (InElse t other c rest) parts = parts_at c parts
