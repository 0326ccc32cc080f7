-- The turns of a loop whose body is two blocks, and the loops of the one and of the other.
use Rattle.std.specs.Prelude.{◌≡◌, ℕ, ℤ, List, [], ◌∷◌, Option}
use Rattle.exo_tree.specs.Tree.{Binder, Control, Statement, For, Block, end, next}
use Rattle.exo_tree.specs.Tree.{Procedure, ConfigField}
use Rattle.exo_meaning.specs.Scene.{Scene, number}
use Rattle.exo_meaning.specs.State.{State}
use Rattle.exo_meaning.specs.Run.{World, run, turn, turns, turns_of, kinds_of, unit_world}
use Rattle.exo_meaning.specs.Footprint.{IsTidy}
use Rattle.exo_meaning.specs.Orders.{Exchange, by_rows, by_columns}
use Rattle.exo_meaning.specs.Nests.{IsAt}
use Rattle.exo_meaning.specs.Units.{Scope}
use Rattle.meaning_laws.specs.Pairs.{LeavesFields, AreClear}
use Rattle.meaning_laws.specs.Touched.{unit_modes, turn_touched, MayTouch}
use Rattle.meaning_laws.specs.NestsWithin.{IsBefore}

-- ---- turns of two bodies

pub data Which : Type 0 where
  First Second : Which

abbrev pub picked : {A : Type 0} → Which → A → A → A
picked First a b = a
picked Second a b = b

-- which body, and its turn
abbrev pub Half : Type 0
Half = Which × ℤ

abbrev pub both : List Which
both = First ∷ Second ∷ []

-- each turn of the first body, and then that of the second
abbrev pub in_turn : List ℤ → List Half
in_turn = by_columns both

-- all turns of the first body, then all of the second
abbrev pub apart : List ℤ → List Half
apart = by_rows both

-- a turn of the second body commutes with each later turn of the first
abbrev pub HalvesExchange :
    (State → Type 0) → (ℤ → ℤ → Type 0) → (Half → State → Option State) → Type 0
HalvesExchange Good Before go =
    (m n : ℤ) → Before m n → Exchange Good go (Second, m) (First, n)

-- ---- two loops

pub record Loop : Type 0 where
  pub binder : Binder
  pub lo : Control
  pub hi : Control
  pub body : Block

abbrev pub whole : Loop → Statement
whole k = For k.binder k.lo k.hi k.body

-- one loop after the other
abbrev pub in_a_row : Loop → Loop → Block
in_a_row k l = next (whole k) (next (whole l) end)

abbrev pub turn_of : World → Loop → ℤ → State → Option State
turn_of world k = turn k.binder.id (run world k.body)

abbrev pub halves : World → Loop → Loop → Half → State → Option State
halves world k l x = picked x.0 (turn_of world k) (turn_of world l) x.1

abbrev pub AgreesAt : Scene → Loop → Loop → Type 0
AgreesAt scene k l = (number scene l.lo ≡ number scene k.lo) × (number scene l.hi ≡ number scene
    k.hi)

-- two loops with the same bounds that write no field
pub record MayGoInTurn (world : World) (k l : Loop) (s : State) : Type 0 where
  pub agree : AgreesAt s.scene k l
  pub first : LeavesFields world k.body
  pub second : LeavesFields world l.body

-- they do what their bodies do in turn
abbrev pub GoInTurn : World → Loop → Loop → State → Type 0
GoInTurn world k l s =
    turns (halves world k l) (in_turn (turns_of s.scene k.lo k.hi)) s ≡ run world (in_a_row k l) s

-- where exchanged turns commute, faults included
abbrev pub TurnsOfTwo : Type 0
TurnsOfTwo =
    (world : World) (k l : Loop) (s : State)
    → IsTidy s
    → MayGoInTurn world k l s
    → HalvesExchange (IsAt s) (IsBefore s.scene k.lo k.hi) (halves world k l)
    → GoInTurn world k l s

-- ---- in a well-formed unit

-- a unit, and the names in scope at a place
pub record Spot : Type 0 where
  pub fields : List ConfigField
  pub memories : ℕ
  pub procedures : List Procedure
  pub scope : Scope
  pub root : ℕ → ℕ

abbrev pub world_at : Spot → World
world_at at = unit_world (kinds_of at.fields) at.procedures

-- a block that is well formed there, and a sound state whose names are of their sorts
abbrev pub MayStart : Spot → Block → State → Type 0
MayStart at b s = MayTouch at.fields at.memories at.procedures at.scope at.root b s

-- what a turn of the second loop touches does not clash with what a later turn of the first does,
-- wherever the names and fields are those of s
abbrev pub HalvesAreClear : Spot → Loop → Loop → State → Type 0
HalvesAreClear at k l s =
    let touched = turn_touched (world_at at) (unit_modes (kinds_of at.fields) at.procedures) in
    (t : State) (m n : ℤ)
    → t.scene ≡ s.scene
    → IsBefore s.scene k.lo k.hi m n
    → AreClear t.scene (touched l.binder l.body m t) (touched k.binder k.body n t)

-- two loops do what their bodies do in turn, calls included
abbrev pub TurnsFromFootprints : Type 0
TurnsFromFootprints =
    (at : Spot) (k l : Loop) (s : State)
    → MayStart at (in_a_row k l) s
    → MayGoInTurn (world_at at) k l s
    → HalvesAreClear at k l s
    → GoInTurn (world_at at) k l s
