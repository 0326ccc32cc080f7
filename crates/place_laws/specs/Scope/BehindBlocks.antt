-- A hole behind a block: a run comes there where it runs the block.
use Rattle.std.specs.Prelude.{◌≡◌, ◌↔◌, ℕ, [], ◌∷◌, Some}
use Rattle.exo_tree.specs.Tree.{Block, joined}
use Rattle.exo_tree.specs.Context.{Context, Here, fill, rest_of}
use Rattle.exo_tree.specs.Places.{Step, parted, opened_in}
use Rattle.exo_meaning.specs.State.{State}
use Rattle.exo_meaning.specs.Run.{World, run}
use Rattle.meaning_laws.specs.Context.{ComesTo}
use Rattle.place_laws.specs.Scope.Holes.{behind}

-- a run of a comes to an end, and from there comes to the hole of c
pub record RunsOn (world : World) (a old : Block) (c : Context) (s u : State) : Type 0 where
  pub middle : State
  pub runs : run world a s ≡ Some middle
  pub comes : ComesTo world old c middle u

pub record IsBehind (a old : Block) (c : Context) : Type 0 where
  pub body : fill (behind a c) old ≡ joined a (fill c old)
  pub rest : rest_of (behind a c) ≡ rest_of c
  pub comes :
      (world : World) (s u : State)
      → RunsOn world a old c s u ↔ ComesTo world old (behind a c) s u

abbrev pub HolesBehindBlocks : Type 0
HolesBehindBlocks = (a old : Block) (c : Context) → IsBehind a old c

-- what is opened behind the first statements of a block
abbrev pub OpenedBehind : Type 0
OpenedBehind =
    (m : ℕ) (t : Step) (b : Block) (p q : Block × Block)
    → parted t.index b ≡ Some p
    → parted m p.1 ≡ Some q
    → opened_in m (t ∷ []) b ≡ Some (record { around = behind p.0 (Here q.1); piece = q.0 })
