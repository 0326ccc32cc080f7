-- A block on a buffer of its own for a window: what is made, what is asked, and when it is refused.
use Rattle.std.specs.Prelude.{◌==◌, ◌+◌, ◌&&◌, not, cond, ℕ, zero, suc, pos, Bool, true}
use Rattle.std.specs.Prelude.{false, List, [], ◌∷◌, ◌++◌, length, codes, decimal}
use Rattle.exo_tree.specs.Tree.{Cell, Control, Condition, Lt, Le, Eq, Coord, At}
use Rattle.exo_tree.specs.Tree.{Span, Datum, Const, Read, Negated, Relu, Plus, Minus, Times, Select}
use Rattle.exo_tree.specs.Tree.{Argument, ControlArg, ConditionArg, Whole, Window, Statement}
use Rattle.exo_tree.specs.Tree.{Assign}
use Rattle.exo_tree.specs.Tree.{Reduce, Config, Pass, If, For, Alloc, View, Call, Block, end, next}
use Rattle.exo_tree.specs.Tree.{joined}
use Rattle.exo_tree.specs.Places.{Path, Branch, Main, Else}
use Rattle.exo_meaning.specs.Run.{roots_after}
use Rattle.exo_meaning.specs.Modes.{Mode, Reading, Writing}
use Rattle.exo_meaning.specs.Unseen.{in_block as mentions}
use Rattle.meaning_laws.specs.Scoped.{has_binder}
use Rattle.place_laws.specs.Scope.Scopes.{top_binders}
use Rattle.inplace_laws.specs.Filled.{Loop, nest}
use Rattle.inplace_laws.specs.Windows.{shifted}
use Rattle.buffer_laws.specs.Staging.Stores.{spans, variables}
use Rattle.buffer_laws.specs.Staging.Converted.{converted}
use Rattle.buffer_laws.specs.Buffers.{Buffer, allocation}
use Rattle.buffer_laws.specs.Simplified.{all_simpler, simplified}
use Rattle.match_laws.specs.Names.{whole_of}

-- the window of x at these coordinates, and the new buffer's name
pub record Staging : Type 0 where
  pub root : ℕ
  pub coords : List Coord
  pub name : List ℕ
  pub accum : Bool

-- ---- what is made

-- `i0`, `i1` and so on
abbrev pub loop_name : ℕ → List ℕ
loop_name k = codes "i" ++ decimal k

-- a loop per extent, with ids from this one on
abbrev pub loops_over : ℕ → ℕ → List Control → List Loop
loops_over id k [] = []
loops_over id k (e ∷ es) =
    record { binder = record { id = id; name = loop_name k }; extent = e }
    ∷ loops_over (suc id) (suc k) es

module _ (simple : Control → Control) (w : Staging) (cell : Cell) (memory base : ℕ) where
  abbrev pub sizes : List Control
  sizes = all_simpler simple (spans w.coords)

  abbrev pub staging_buffer : Buffer
  staging_buffer = record {
    binder = record { id = base; name = w.name };
    cell = cell;
    dims = sizes;
    memory = memory;
  }

  abbrev pub loads : List Loop
  loads = loops_over (suc base) zero sizes

  abbrev pub stores : List Loop
  stores = loops_over (suc (base + length sizes)) zero sizes

  -- x at u + i0 and so on, with the window's points in their places
  abbrev pub spots : List Loop → List Control
  spots ls = all_simpler simple (shifted w.coords (variables ls))

  -- the cell of x goes into the buffer, or 0
  abbrev pub loading : Statement
  loading = Assign base (variables loads)
      (cond w.accum (Const (pos 0)) (Read w.root (spots loads)))

  -- the buffer's cell goes back, or is added
  abbrev pub storing : Statement
  storing =
      let value = Read base (variables stores) in
      cond w.accum (Reduce w.root (spots stores) value) (Assign w.root (spots stores) value)

  abbrev pub on_buffer : Block → Block
  on_buffer b = simplified simple (λ y. y == base) (converted base w.root w.coords b)

  -- the second nest stands where the block writes or reduces x
  abbrev pub staged_block : Bool → Block → Block
  staged_block writes b =
      joined (next (allocation staging_buffer) (nest loads loading))
      (joined (on_buffer b) (cond writes (nest stores storing) end))

-- ---- what is asked: per access of x and coordinate, in the order of the text

-- at the statement of that path, counted from the block's first
pub record Asked : Type 0 where
  pub path : Path
  pub condition : Condition

abbrev pub asked_of_indices : List Coord → List Control → List Condition
asked_of_indices [] is = []
asked_of_indices (c ∷ cs) [] = []
asked_of_indices (At u ∷ cs) (e ∷ is) = Eq e u ∷ asked_of_indices cs is
asked_of_indices (Span u v ∷ cs) (e ∷ is) = Le u e ∷ Lt e v ∷ asked_of_indices cs is

abbrev pub asked_of_coords : List Coord → List Coord → List Condition
asked_of_coords [] ds = []
asked_of_coords (c ∷ cs) [] = []
asked_of_coords (At u ∷ cs) (At e ∷ ds) = Eq e u ∷ asked_of_coords cs ds
asked_of_coords (At u ∷ cs) (Span s t ∷ ds) = asked_of_coords cs ds
asked_of_coords (Span u v ∷ cs) (At e ∷ ds) = Le u e ∷ Lt e v ∷ asked_of_coords cs ds
asked_of_coords (Span u v ∷ cs) (Span s t ∷ ds) = Le u s ∷ Le t v ∷ asked_of_coords cs ds

-- no span of an access stands under a point of the window
abbrev pub has_span_at_point : List Coord → List Coord → Bool
has_span_at_point [] ds = false
has_span_at_point (c ∷ cs) [] = false
has_span_at_point (At u ∷ cs) (At e ∷ ds) = has_span_at_point cs ds
has_span_at_point (At u ∷ cs) (Span s t ∷ ds) = true
has_span_at_point (Span u v ∷ cs) (d ∷ ds) = has_span_at_point cs ds

module _ (x : ℕ) (dims : List Control) (coords : List Coord) where
  abbrev pub asked_of_datum : Datum → List Condition
  asked_of_datum (Const n) = []
  asked_of_datum (Read y is) = cond (y == x) (asked_of_indices coords is) []
  asked_of_datum (Negated a) = asked_of_datum a
  asked_of_datum (Relu a) = asked_of_datum a
  asked_of_datum (Plus a b) = asked_of_datum a ++ asked_of_datum b
  asked_of_datum (Minus a b) = asked_of_datum a ++ asked_of_datum b
  asked_of_datum (Times a b) = asked_of_datum a ++ asked_of_datum b
  asked_of_datum (Select a b c d) =
      asked_of_datum a ++ asked_of_datum b ++ asked_of_datum c ++ asked_of_datum d

  abbrev pub asked_of_arguments : List Argument → List Condition
  asked_of_arguments [] = []
  asked_of_arguments (ControlArg e ∷ gs) = asked_of_arguments gs
  asked_of_arguments (ConditionArg c ∷ gs) = asked_of_arguments gs
  asked_of_arguments (Whole y ∷ gs) =
      cond (y == x) (asked_of_coords coords (whole_of dims)) [] ++ asked_of_arguments gs
  asked_of_arguments (Window y ds ∷ gs) =
      cond (y == x) (asked_of_coords coords ds) [] ++ asked_of_arguments gs

  -- of the statement itself
  abbrev pub asked_of_statement : Statement → List Condition
  asked_of_statement (Assign y is d) =
      cond (y == x) (asked_of_indices coords is) [] ++ asked_of_datum d
  asked_of_statement (Reduce y is d) =
      cond (y == x) (asked_of_indices coords is) [] ++ asked_of_datum d
  asked_of_statement (Config f g) = []
  asked_of_statement Pass = []
  asked_of_statement (If c b d) = []
  asked_of_statement (For i lo hi b) = []
  asked_of_statement (Alloc y cell ds memory) = []
  asked_of_statement (View v y ds) = cond (y == x) (asked_of_coords coords ds) []
  asked_of_statement (Call k gs) = asked_of_arguments gs

  abbrev pub all_at : Path → List Condition → List Asked
  all_at path [] = []
  all_at path (c ∷ cs) = record { path = path; condition = c } ∷ all_at path cs

  -- outer: the path of the block's loop or branch, so far
  abbrev mutual
    pub asked_in : Path → Branch → ℕ → Block → List Asked
    asked_in outer branch k end = []
    asked_in outer branch k (next a b) =
        asked_at (outer ++ record { branch = branch; index = k } ∷ []) a
        ++ asked_in outer branch (suc k) b

    pub asked_at : Path → Statement → List Asked
    asked_at path (If c b d) = asked_in path Main zero b ++ asked_in path Else zero d
    asked_at path (For i lo hi b) = asked_in path Main zero b
    asked_at path (Assign y is d) = all_at path (asked_of_statement (Assign y is d))
    asked_at path (Reduce y is d) = all_at path (asked_of_statement (Reduce y is d))
    asked_at path (Config f g) = []
    asked_at path Pass = []
    asked_at path (Alloc y cell ds memory) = []
    asked_at path (View v y ds) = all_at path (asked_of_statement (View v y ds))
    asked_at path (Call k gs) = all_at path (asked_of_statement (Call k gs))

-- ---- shape: no view of x that the block leaves is used after it

abbrev pub roots_behind : Block → (ℕ → ℕ) → ℕ → ℕ
roots_behind end root = root
roots_behind (next a b) root = roots_behind b (roots_after a root)

abbrev pub is_view_used : (ℕ → ℕ) → ℕ → Block → Block → Bool
is_view_used root x b rest =
    mentions (λ y. top_binders b y && (roots_behind b root y == root x)) rest

-- ---- refusals, in order

-- a name from outside the block, other than x, that has its root
abbrev pub is_alias : (ℕ → ℕ) → ℕ → Block → ℕ → Bool
is_alias root x b y = (root y == root x) && (not (y == x) && not (has_binder b y))

abbrev pub is_aliased : (ℕ → ℕ) → ℕ → Block → Bool
is_aliased root x b = mentions (is_alias root x b) b

-- a kept sum: the block neither reads nor writes x
abbrev pub is_only_reduced : (Mode → ℕ → Bool) → ℕ → Bool
is_only_reduced touches y = not (touches Reading y) && not (touches Writing y)
