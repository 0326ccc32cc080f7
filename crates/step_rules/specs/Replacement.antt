-- What may stand for a piece may be put in its place.
use Rattle.std.specs.Prelude.{◌≡◌, ℕ, List}
use Rattle.exo_tree.specs.Tree.{Block}
use Rattle.exo_tree.specs.Context.{fill}
use Rattle.exo_meaning.specs.Inputs.{Refines}
use Rattle.place_laws.specs.Scope.Bare.{bare}
use Rattle.tree_edits.specs.Made.Passes.{or_pass}
use Rattle.step_rules.specs.Rule.{Spot}
use Rattle.step_rules.specs.Lawful.{IsSpot, around, world_of, with_body, Replaces}

-- a procedure is refined by what comes of it where a block stands that may stand for its piece,
-- with other names for copies and a `pass` where the block would be empty
abbrev pub ReplacedRefines : Type 0
ReplacedRefines =
    (s : Spot) (draft body : Block) (but : List ℕ)
    → IsSpot s
    → bare body ≡ bare (fill (around s) (or_pass (around s) draft))
    → Replaces s draft but
    → Refines (world_of s) s.target.proc (with_body s body) but
