-- The rewrite inline_window, on plain trees: a view is removed, and its uses are composed onto its
-- buffer.
use Rattle.std.specs.Prelude.{◌≡◌, ℕ, ◌==◌, true, false, List, [], ◌+◌, length, Option, Some, None}
use Rattle.exo_tree.specs.Tree.{Binder, Kind, Coord, Argument, Window, Statement, View, Block, end}
use Rattle.exo_tree.specs.Tree.{next, statements, Procedure}
use Rattle.exo_tree.specs.Context.{Context, fill, rest_of}
use Rattle.exo_tree.specs.Places.{Path, Piece, Opened, opened}
use Rattle.exo_meaning.specs.Run.{unit_world}
use Rattle.exo_meaning.specs.Inputs.{Refines}
use Rattle.exo_meaning.specs.Unseen.{in_block as mentions}
use Rattle.meaning_laws.specs.Copies.{IsFree}
use Rattle.meaning_laws.specs.Scoped.{has_binder}
use Rattle.inplace_laws.specs.Windows.{in_block as with_window, are_plain, coords_have}
use Rattle.inplace_laws.specs.InlineWindow.{is_name}

pub record Viewed : Type 0 where
  pub binder : Binder
  pub buffer : ℕ
  pub coords : List Coord

abbrev pub viewed_by : Statement → Option Viewed
viewed_by (View w x coords) = Some (record { binder = w; buffer = x; coords = coords })
viewed_by a = None

-- a view, and what follows it
abbrev pub viewed_in : Block → Option Viewed
viewed_in end = None
viewed_in (next a b) = viewed_by a

abbrev pub behind_first : Block → Block
behind_first end = end
behind_first (next a b) = b

-- the view and all that follows it in its block; None: no view stands there
abbrev pub window_piece : Procedure → Path → Option Piece
window_piece p at =
    elim (opened 1 at p.body) [
      | None ↦ None
      | Some o ↦ elim (viewed_in o.piece) [
        | None ↦ None
        | Some v ↦ Some (record { path = at; count = 1 + length (statements (rest_of o.around)) })
      ]
    ]

abbrev pub as_window : Viewed → Argument
as_window v = Window v.buffer v.coords

abbrev pub window_draft : Block → Option Block
window_draft piece =
    elim (viewed_in piece) [
      | None ↦ None
      | Some v ↦ Some (with_window v.binder.id (as_window v) (behind_first piece))
    ]

-- ---- the law

-- the rest of the block binds no name of the view, and is in its scope alone
pub record MayRemoveView (p : Procedure) (c : Context) (v : Viewed) (b : Block) : Type 0 where
  pub last : rest_of c ≡ end
  pub free : IsFree p c v.binder.id
  pub other : (v.buffer == v.binder.id) ≡ false
  pub plain : are_plain v.coords ≡ true
  pub own : has_binder b v.binder.id ≡ false
  pub root : has_binder b v.buffer ≡ false
  pub variables : (y : ℕ) → coords_have v.coords y ≡ true → has_binder b y ≡ false
  pub gone : mentions (is_name v.binder.id) (with_window v.binder.id (as_window v) b) ≡ false

abbrev pub InlineWindowRule : Type 0
InlineWindowRule =
    (kinds : ℕ → Kind) (ps : List Procedure) (p : Procedure) (at : Path) (n : ℕ) (o : Opened)
    (made : Block)
    → opened n at p.body ≡ Some o
    → window_draft o.piece ≡ Some made
    → ((v : Viewed) → viewed_in o.piece ≡ Some v
    → MayRemoveView p o.around v (behind_first o.piece))
    → Refines (unit_world kinds ps) p (record p { body = fill o.around made }) []
