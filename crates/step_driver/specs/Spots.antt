-- The spot of a piece, and what a rule tells of it.
use Rattle.std.specs.Prelude.{ℕ, List, Option, Some, None}
use Rattle.exo_tree.specs.Tree.{end}
use Rattle.exo_tree.specs.Context.{Here}
use Rattle.exo_tree.specs.Places.{Path, Opened, opened}
use Rattle.cursor_forward.specs.Cursors.{Side}
use Rattle.step_rules.specs.Rule.{Target, Piece, Spot, Rule}
use Rattle.step_rules.specs.Answer.{spot}

-- where nothing is opened, an empty block
abbrev pub or_nothing : Option Opened → Opened
or_nothing None = record { around = Here end; piece = end }
or_nothing (Some o) = o

abbrev pub spot_at : Target → Piece → Spot
spot_at t p = spot t p (or_nothing (opened p.count p.path t.proc.body))

-- the fields that may differ, from a place of the result on
pub record Exit : Type 0 where
  pub fields : List ℕ
  pub place : Path
  pub side : Side

abbrev pub exit_of : Rule → Spot → Exit
exit_of r s = record { fields = r.fields s; place = (r.point s).0; side = (r.point s).1 }
