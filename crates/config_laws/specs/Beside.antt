-- The fields that are live beside statements, by the gaps there.
use Rattle.std.specs.Prelude.{◌≡◌, ℕ, Bool, List, Some}
use Rattle.exo_tree.specs.Tree.{Block, Procedure}
use Rattle.exo_tree.specs.Places.{Path, Opened, opened}
use Rattle.meaning_laws.specs.Live.{live}
use Rattle.meaning_laws.specs.UnitFields.{unit_live}
use Rattle.config_laws.specs.FieldRule.{further, is_live}

-- the gap is there, and the field is live in it or not
pub record IsLiveAt (ps : List Procedure) (f : ℕ) (body : Block) (gap : Path) (is : Bool) : Type 0
  where
    pub opening : Opened
    pub there : opened 0 gap body ≡ Some opening
    pub live : is_live ps f opening ≡ is

-- live behind statements, as rules ask it of what is opened, is live in the gap behind them; and so
-- before them
abbrev pub LiveBeside : Type 0
LiveBeside =
    (ps : List Procedure) (f count : ℕ) (path : Path) (body : Block) (o : Opened)
    → opened count path body ≡ Some o
    → IsLiveAt ps f body (further count path) (is_live ps f o)
    × IsLiveAt ps f body path (live (unit_live ps) f o.piece (is_live ps f o))
