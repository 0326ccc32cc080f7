-- Places beside a piece, and the fields that are live there.
use Rattle.std.specs.Prelude.{◌&&◌, ℕ, nat_lt, Bool, List, [], ◌∷◌, length, Option, Some, None}
use Rattle.std.specs.Prelude.{is_some}
use Rattle.std.specs.List.{list_any}
use Rattle.exo_tree.specs.Tree.{Statement, Procedure}
use Rattle.exo_tree.specs.Context.{rest_of}
use Rattle.exo_tree.specs.Places.{Path, Opened, first_of, statement_at}
use Rattle.meaning_laws.specs.Live.{live}
use Rattle.meaning_laws.specs.UnitFields.{unit_live}
use Rattle.config_laws.specs.FieldRule as config
use Rattle.config_laws.specs.FieldRule.{further, is_live, any_live, refused_if}
use Rattle.config_laws.specs.DeleteConfig.{where_it_was}
use Rattle.cursor_forward.specs.Causes.{Cause}
use Rattle.cursor_forward.specs.Cursors.{Side}
use Rattle.step_driver.specs.declared.target.Target.{Target}
use Rattle.step_driver.specs.declared.target.Piece.{Piece}
use Rattle.step_driver.specs.PlainTarget.{target, plain_piece}
use Rattle.step_driver.specs.Spots.{Exit, spot_at}
use Rattle.call_laws.specs.Fields.FieldRules.{of_side, known_cause, known_fields}

abbrev pub opening : Target → Piece → Opened
opening on piece = (spot_at (target on) (plain_piece piece)).opened

abbrev pub first_at : Target → Piece → Option Statement
first_at on piece = first_of (opening on piece).piece

-- a statement stands behind the piece in its block
abbrev pub is_followed : Target → Piece → Bool
is_followed on piece =
    is_some (statement_at (further piece.count piece.path) (target on).proc.body)

-- a field that is written, or none
abbrev pub listed : Option ℕ → List ℕ
listed None = []
listed (Some f) = f ∷ []

-- in the words of steps
abbrev pub placed : Path × config.Side → Path × Side
placed p = (p.0, of_side p.1)

-- where the piece was, when it is gone
abbrev pub place_left : Target → Piece → Path × Side
place_left on piece = placed (where_it_was piece.path (rest_of (opening on piece).around))

-- ---- live fields

abbrev pub live_before : List Procedure → ℕ → Opened → Bool
live_before ps f o = live (unit_live ps) f o.piece (is_live ps f o)

module _ (on : Target) where
  -- a field that the unit has not is live nowhere
  abbrev pub is_live_behind : Piece → ℕ → Bool
  is_live_behind piece f =
      nat_lt f (length (target on).unit.fields)
      && is_live (target on).unit.procedures f (opening on piece)

  abbrev pub is_live_before : Piece → ℕ → Bool
  is_live_before piece f =
      nat_lt f (length (target on).unit.fields)
      && live_before (target on).unit.procedures f (opening on piece)

  abbrev pub one_is_live : Piece → List ℕ → Bool
  one_is_live piece fs = list_any (is_live_behind piece) fs

  -- why it is refused where one of these fields is live
  abbrev pub live_cause : List ℕ → Bool → Option Cause
  live_cause fs is = known_cause (target on) fs (refused_if is config.ConfigLive)

  abbrev pub cause_behind : Piece → ℕ → Option Cause
  cause_behind piece f =
      live_cause (f ∷ []) (is_live (target on).unit.procedures f (opening on piece))

  abbrev pub cause_before : Piece → ℕ → Option Cause
  cause_before piece f =
      live_cause (f ∷ []) (live_before (target on).unit.procedures f (opening on piece))

  abbrev pub cause_of_any : Piece → List ℕ → Option Cause
  cause_of_any piece fs =
      live_cause fs (any_live (target on).unit.procedures (opening on piece) fs)

  -- ---- fields that may differ

  -- one field from a place on
  abbrev pub exit_with : ℕ → Path → Side → Exit
  exit_with f place side =
      record { fields = known_fields (target on) (f ∷ []); place = place; side = side }
