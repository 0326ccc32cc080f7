-- Where a run comes, if another block stands there that runs alike.
use Rattle.std.specs.Prelude.{◌≡◌}
use Rattle.exo_tree.specs.Context.{Context}
use Rattle.exo_tree.specs.Places.{Opened}
use Rattle.exo_tree.specs.Tree.{Block, Procedure}
use Rattle.exo_meaning.specs.State.{State}
use Rattle.exo_meaning.specs.Run.{World, run}
use Rattle.exo_meaning.specs.Inputs.{IsAdmissible}
use Rattle.meaning_laws.specs.Context.{ComesTo}
use Rattle.match_laws.specs.Inline.ReplaceRule.{with_block}

-- wherever a run comes with the old block in the hole, both blocks run alike; then runs come to
-- the hole with the new block in it exactly where they do with the old one
abbrev pub ComesAlike : Type 0
ComesAlike =
    (world : World) (c : Context) (old new : Block) (s : State)
    → ((u : State) → ComesTo world old c s u → run world old u ≡ run world new u)
    → (u : State)
    → (ComesTo world new c s u → ComesTo world old c s u)
    × (ComesTo world old c s u → ComesTo world new c s u)

-- so what holds wherever a run of the procedure comes holds wherever one with the new block does
abbrev pub ComesAsBefore : Type 0
ComesAsBefore =
    (world : World) (p : Procedure) (o : Opened) (new : Block)
    → ((s u : State)
    → IsAdmissible world p s
    → ComesTo world o.piece o.around s u
    → run world o.piece u ≡ run world new u)
    → (s u : State)
    → IsAdmissible world (with_block p o new) s
    → ComesTo world new o.around s u
    → IsAdmissible world p s × ComesTo world o.piece o.around s u
