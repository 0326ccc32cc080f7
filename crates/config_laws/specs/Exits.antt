-- A field that is live at the end is live before a block where it is read there before it is
-- written, or where it is not surely written.
use Rattle.std.specs.Prelude.{◌≡◌, ◌&&◌, ◌||◌, not, ℕ, Bool, false, List}
use Rattle.exo_tree.specs.Tree.{Block, Procedure}
use Rattle.exo_tree.specs.Context.{Context}
use Rattle.meaning_laws.specs.Live.{live, live_behind}
use Rattle.meaning_laws.specs.UnitFields.{unit_live}
use Rattle.config_laws.specs.Surely.{surely_writes, surely_behind, unit_surely}

-- live before, by what is read before it is written, by what is surely written, and by the end
abbrev pub by_exit : (read surely out : Bool) → Bool
by_exit read surely out = read || (out && not surely)

abbrev pub GoesByExit : (ℕ → ℕ → Bool → Bool) → (ℕ → ℕ → Bool) → Type 0
GoesByExit calls surely =
    (k f : ℕ) (out : Bool) → calls k f out ≡ by_exit (calls k f false) (surely k f) out

abbrev pub BlocksGoByExit : Type 0
BlocksGoByExit =
    (calls : ℕ → ℕ → Bool → Bool) (surely : ℕ → ℕ → Bool)
    → GoesByExit calls surely
    → (f : ℕ) (b : Block) (out : Bool)
    → live calls f b out ≡ by_exit (live calls f b false) (surely_writes surely f b) out

abbrev pub HolesGoByExit : Type 0
HolesGoByExit =
    (calls : ℕ → ℕ → Bool → Bool) (surely : ℕ → ℕ → Bool)
    → GoesByExit calls surely
    → (f : ℕ) (old : Block) (c : Context) (out : Bool)
    → live_behind calls f old c out
    ≡ by_exit (live_behind calls f old c false) (surely_behind surely f c) out

abbrev pub UnitsGoByExit : Type 0
UnitsGoByExit = (ps : List Procedure) → GoesByExit (unit_live ps) (unit_surely ps)
