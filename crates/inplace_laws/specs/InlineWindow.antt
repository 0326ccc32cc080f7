-- The operator inline_window.
use Rattle.meaning_laws.specs.Scoped.{has_binder}
use Rattle.std.specs.Prelude.{◌≡◌, ◌==◌, ℕ, Bool, true, false, List, []}
use Rattle.exo_tree.specs.Tree.{Binder, Kind, Coord, Window, View, Block, end, next, Procedure}
use Rattle.exo_meaning.specs.Run.{unit_world}
use Rattle.exo_meaning.specs.Inputs.{Refines}
use Rattle.exo_meaning.specs.Unseen.{in_block as mentions}
use Rattle.exo_tree.specs.Context.{Context, fill, rest_of}
use Rattle.meaning_laws.specs.Copies.{IsFree}
use Rattle.inplace_laws.specs.Windows.{in_block, are_plain, coords_have}

abbrev pub is_name : ℕ → ℕ → Bool
is_name w y = y == w

-- the view, and all that follows it in its block
abbrev pub InlineWindowRefines : Type 0
InlineWindowRefines =
    (kinds : ℕ → Kind) (ps : List Procedure) (p : Procedure) (c : Context) (w : Binder) (x : ℕ)
    (coords : List Coord) (b : Block)
    → p.body ≡ fill c (next (View w x coords) b)
    → rest_of c ≡ end
    → IsFree p c w.id
    → (x == w.id) ≡ false
    → are_plain coords ≡ true
    → has_binder b w.id ≡ false
    → has_binder b x ≡ false
    → ((y : ℕ) → coords_have coords y ≡ true → has_binder b y ≡ false)
    → mentions (is_name w.id) (in_block w.id (Window x coords) b) ≡ false
    → Refines (unit_world kinds ps) p
    (record p { body = fill c (in_block w.id (Window x coords) b) })
    []
