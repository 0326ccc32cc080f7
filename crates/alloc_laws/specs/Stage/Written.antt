-- How the expressions of a staged block are written, and whether they can be.
use Rattle.std.specs.Prelude.{ℕ, ◌==◌, Bool, true, not, ◌&&◌, ◌||◌, cond, List, [], ◌∷◌}
use Rattle.std.specs.List.{list_all}
use Rattle.exo_tree.specs.Tree.{Control, Datum, Const, Read, Negated, Relu, Plus, Minus, Times}
use Rattle.exo_tree.specs.Tree.{Select, Coord, At, Span, Argument, ControlArg, ConditionArg, Whole}
use Rattle.exo_tree.specs.Tree.{Window, Statement, Assign, Reduce, Config, Pass, If, For, Alloc}
use Rattle.exo_tree.specs.Tree.{View, Call, Block, end, next}
use Rattle.affine_forms.specs.Forms.{is_affine, is_writable}
use Rattle.buffer_laws.specs.MadeIndices.{as_themselves, made_simpler}
use Rattle.buffer_laws.specs.Staging.Converted.{indices_on, coords_on, name_on}
use Rattle.step_rules.specs.Rule.{Writing, AsMade, Simplified}
use Rattle.affine_places.specs.Roots.{variables}

-- ---- single expressions

abbrev pub written_as : Writing → Control → Control
written_as AsMade e = e
written_as Simplified e = made_simpler e

-- the normal form can be written down, where it is asked for
abbrev pub is_written : Writing → Control → Bool
is_written AsMade e = true
is_written Simplified e = not (is_affine variables e) || is_writable as_themselves e

abbrev pub are_written : Writing → List Control → Bool
are_written how es = list_all (is_written how) es

abbrev pub coords_written : Writing → List Coord → Bool
coords_written how [] = true
coords_written how (At e ∷ cs) = is_written how e && coords_written how cs
coords_written how (Span e f ∷ cs) =
    (is_written how e && is_written how f) && coords_written how cs

-- ---- all accesses of a block

-- the indices of each name, and its coordinates, keep what is asked of them
module _ (indices : ℕ → List Control → Bool) (coords : ℕ → List Coord → Bool) where
  abbrev pub datum_keeps : Datum → Bool
  datum_keeps (Const n) = true
  datum_keeps (Read y is) = indices y is
  datum_keeps (Negated a) = datum_keeps a
  datum_keeps (Relu a) = datum_keeps a
  datum_keeps (Plus a b) = datum_keeps a && datum_keeps b
  datum_keeps (Minus a b) = datum_keeps a && datum_keeps b
  datum_keeps (Times a b) = datum_keeps a && datum_keeps b
  datum_keeps (Select a b c d) =
      (datum_keeps a && datum_keeps b) && (datum_keeps c && datum_keeps d)

  abbrev pub argument_keeps : Argument → Bool
  argument_keeps (ControlArg e) = true
  argument_keeps (ConditionArg c) = true
  argument_keeps (Whole y) = true
  argument_keeps (Window y ds) = coords y ds

  abbrev mutual
    pub block_keeps : Block → Bool
    block_keeps end = true
    block_keeps (next a b) = statement_keeps a && block_keeps b

    pub statement_keeps : Statement → Bool
    statement_keeps (Assign y is e) = indices y is && datum_keeps e
    statement_keeps (Reduce y is e) = indices y is && datum_keeps e
    statement_keeps (Config f g) = argument_keeps g
    statement_keeps Pass = true
    statement_keeps (If c a b) = block_keeps a && block_keeps b
    statement_keeps (For i lo hi b) = block_keeps b
    statement_keeps (Alloc y cell dims memory) = true
    statement_keeps (View w y ds) = coords y ds
    statement_keeps (Call k gs) = list_all argument_keeps gs

-- ---- those of the window of x, on buffer a

module _ (how : Writing) (a x : ℕ) (window : List Coord) where
  -- a name of x or of a becomes one of a
  abbrev pub is_on : ℕ → Bool
  is_on y = name_on a x window y == a

  abbrev pub indices_fit : ℕ → List Control → Bool
  indices_fit y is =
      not (is_on y) || are_written how (cond (y == x) (indices_on window is) is)

  abbrev pub coords_fit : ℕ → List Coord → Bool
  coords_fit y ds =
      not (is_on y) || coords_written how (cond (y == x) (coords_on window ds) ds)

  abbrev pub accesses_written : Block → Bool
  accesses_written b = block_keeps indices_fit coords_fit b
