-- Other ids for the names of a procedure.
use Rattle.std.specs.Prelude.{◌≡◌, ℕ, List, option_map}
use Rattle.exo_tree.specs.Tree.{Binder, Control, Condition, Datum, Coord, Argument, Statement, Block}
use Rattle.exo_tree.specs.Tree.{ParamKind, Param}
use Rattle.exo_tree.specs.Renaming as tree
use Rattle.exo_meaning.specs.Scene.{Seen, Scene}
use Rattle.exo_meaning.specs.State.{State, Place}
use Rattle.exo_meaning.specs.Run.{World, run}

-- a map of ids with its inverse
pub record Renaming : Type 0 where
  pub to : ℕ → ℕ
  pub from : ℕ → ℕ
  pub to_from : (x : ℕ) → to (from x) ≡ x
  pub from_to : (x : ℕ) → from (to x) ≡ x

module _ (r : Renaming) where
  abbrev pub re_binder : Binder → Binder
  re_binder = tree.re_binder r.to

  abbrev pub re_control : Control → Control
  re_control = tree.re_control r.to

  abbrev pub re_controls : List Control → List Control
  re_controls = tree.re_controls r.to

  abbrev pub re_condition : Condition → Condition
  re_condition = tree.re_condition r.to

  abbrev pub re_datum : Datum → Datum
  re_datum = tree.re_datum r.to

  abbrev pub re_coord : Coord → Coord
  re_coord = tree.re_coord r.to

  abbrev pub re_coords : List Coord → List Coord
  re_coords = tree.re_coords r.to

  abbrev pub re_argument : Argument → Argument
  re_argument = tree.re_argument r.to

  abbrev pub re_arguments : List Argument → List Argument
  re_arguments = tree.re_arguments r.to

  abbrev pub re_statement : Statement → Statement
  re_statement = tree.re_statement r.to

  abbrev pub re_block : Block → Block
  re_block = tree.re_block r.to

  abbrev pub re_kind : ParamKind → ParamKind
  re_kind = tree.re_kind r.to

  abbrev pub re_param : Param → Param
  re_param = tree.re_param r.to

  abbrev pub re_seen : Seen → Seen
  re_seen seen = record { buffer = r.to seen.buffer; sides = seen.sides }

  abbrev pub re_scene : Scene → Scene
  re_scene scene = record {
    control = λ x. scene.control (r.from x);
    buffers = λ x. scene.buffers (r.from x);
    views = λ x. option_map re_seen (scene.views (r.from x));
    fields = scene.fields;
  }

  abbrev pub re_state : State → State
  re_state s = record { scene = re_scene s.scene; cells = λ b. s.cells (r.from b) }

  abbrev pub re_place : Place → Place
  re_place p = record { buffer = r.to p.buffer; at = p.at }

-- a run under other ids is the run, under other ids
abbrev pub RunsRename : Type 0
RunsRename =
    (r : Renaming) (world : World) (b : Block) (s : State)
    → run world (re_block r b) (re_state r s) ≡ option_map (re_state r) (run world b s)
