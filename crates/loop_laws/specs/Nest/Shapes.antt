-- What the rules of nests look for, and where they look.
use Rattle.std.specs.Prelude.{ℕ, List, [], ◌∷◌, length, Option, Some, None}
use Rattle.exo_tree.specs.Tree.{Block, statements, Program}
use Rattle.exo_tree.specs.Places.{Main, Step, Path}
use Rattle.meaning_laws.specs.Fields.{writes_field}
use Rattle.meaning_laws.specs.UnitFields.{unit_writes}
use Rattle.config_state.specs.FieldSets.{fields_where}
use Rattle.place_laws.specs.Scope.PlacesCompose.{onward}
use Rattle.cursor_forward.specs.Causes.{Cause, ConfigWrite}
use Rattle.exo_effects.specs.Orders.{Header}
use Rattle.effect_laws.specs.Fits.{header}
use Rattle.place_laws.specs.Order.TurnsOfTwo.{Loop}
use Rattle.step_rules.specs.Rule.{Spot}

-- ---- fields

-- the fields that a block may write, calls included, in unit order
abbrev pub fields_written : Program → Block → List ℕ
fields_written u b =
    fields_where (length u.fields) (λ f. writes_field (unit_writes u.procedures) f b)

-- where there are any
abbrev pub refused_for : List ℕ → Option Cause
refused_for [] = None
refused_for (f ∷ fs) = Some ConfigWrite

-- a piece that may write a field is refused
abbrev pub unless_it_writes : Spot → Option Cause
unless_it_writes s = refused_for (fields_written s.target.unit s.opened.piece)

-- ---- loops

abbrev pub header_of : Loop → Header
header_of l = header l.binder l.lo l.hi

abbrev pub size : Block → ℕ
size b = length (statements b)

-- ---- places

-- the statement of that number
abbrev pub step : ℕ → Step
step k = record { branch = Main; index = k }

-- the statement of that number in the loop of that number of a piece
abbrev pub in_loop : Path → ℕ → ℕ → Path
in_loop at k n = onward at (step k) (step n ∷ [])
