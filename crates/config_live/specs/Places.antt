-- The fields that are live at a place of a procedure.
use Rattle.std.specs.Prelude.{◌≡◌, ◌&&◌, ◌||◌, ◌+◌, ℕ, Bool, true, false, nat_lt}
use Rattle.std.specs.Prelude.{List, [], ◌∷◌, length, drop, Option, Some, None, slice_get}
use Rattle.exo_tree.specs.Tree.{Statement, For, Block, block, Procedure, Program}
use Rattle.exo_tree.specs.Places.{Path, Opened, opened}
use Rattle.meaning_laws.specs.Live.{live, live_behind}
use Rattle.config_laws.specs.FieldRule as rule
use Rattle.config_laws.specs.FieldRule.{gap, is_live}
use Rattle.config_laws.specs.Surely.{surely_writes, surely_behind}
use Rattle.config_live.specs.declared.place.Side.{Side}
use Rattle.config_live.specs.declared.place.Side.TheVariants.{Before, After}
use Rattle.config_live.specs.declared.table.LiveTable.{LiveTable}
use Rattle.config_live.specs.declared.way.Way.{Way}
use Rattle.config_live.specs.Tables.{calls_in, writes_surely}
use Rattle.config_live.specs.Ways.{Goes}

abbrev pub side_taken : Side → rule.Side
side_taken Before = rule.Before
side_taken After = rule.Behind

-- so many statements of a block stand before the place beside one
abbrev pub index_beside : rule.Side → ℕ → ℕ
index_beside rule.Before k = k
index_beside rule.Behind k = k + 1

-- beside the statement at a path
abbrev pub place_in : Block → Path → rule.Side → Option Opened
place_in body path side = opened 0 (gap path side) body

-- where no field is live at the end of the body; at a place that is not there none is live
abbrev pub live_from : List Procedure → Block → Path → rule.Side → ℕ → Bool
live_from ps body path side f = elim (place_in body path side) [
  | None ↦ false
  | Some o ↦ is_live ps f o
]

-- a field that the unit has not is live nowhere
abbrev pub live_in_body : Program → Block → Path → rule.Side → ℕ → Bool
live_in_body unit body path side f =
    nat_lt f (length unit.fields) && live_from unit.procedures body path side f

-- in a procedure of a unit
abbrev pub live_in : Program → ℕ → Path → rule.Side → ℕ → Bool
live_in unit p path side f = elim (slice_get unit.procedures p) [
  | None ↦ false
  | Some q ↦ live_in_body unit q.body path side f
]

-- behind a statement of a block
abbrev pub rest_at : ℕ → List Statement → Block
rest_at index ss = block (drop (index + 1) ss)

-- a statement may run again, and the field is live before it does
abbrev pub live_in_next_turn : (ℕ → ℕ → Bool → Bool) → ℕ → Statement → Bool
live_in_next_turn calls f (For i lo hi b) = live calls f b false
live_in_next_turn calls f a = false

-- behind a branch of a statement, before the rest of its block
abbrev pub left_by : (ℕ → ℕ → Bool → Bool) → ℕ → Statement → Block → Bool
left_by calls f a rest = live calls f rest false || live_in_next_turn calls f a

-- from a statement of a block, over its next turn and then over those that follow it
abbrev pub Leaves : LiveTable → List Statement → ℕ → Way → Way → List ℕ → List ℕ → Type 0
Leaves table ss index old new had has =
    (a : Statement) → drop index ss ≡ a ∷ drop (index + 1) ss
    → Goes (λ f. left_by (calls_in table) f a (rest_at index ss))
    (λ f. surely_writes (writes_surely table) f (rest_at index ss)) old new had has

-- from a place to the end, where the place is there
abbrev pub Reaches :
    LiveTable → Option Opened → Bool → Way → Way → List ℕ → List ℕ → Type 0
Reaches table None found old new had has = found ≡ false
Reaches table (Some o) found old new had has =
    (found ≡ true)
    × Goes (λ f. live_behind (calls_in table) f o.piece o.around false)
    (λ f. surely_behind (writes_surely table) f o.around) old new had has

-- the same, where nothing was listed before
abbrev pub Arrives : LiveTable → Option Opened → Bool → Way → Way → Type 0
Arrives table o found old new = (has : List ℕ) × Reaches table o found old new [] has
