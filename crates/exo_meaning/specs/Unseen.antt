-- Names that a block does not mention.
use Rattle.std.specs.Prelude.{◌≡◌, ℕ, Bool, false, List, Some}
use Rattle.exo_tree.specs.Tree.{Control, Condition, Datum, Coord, Argument, Statement, Block}
use Rattle.exo_tree.specs.LookedFor as found
use Rattle.exo_tree.specs.LookedFor.{LookedFor}
use Rattle.exo_meaning.specs.Scene.{Seen}
use Rattle.exo_meaning.specs.State.{State}
use Rattle.exo_meaning.specs.Refines.{Respects}
use Rattle.exo_meaning.specs.Run.{World, run}

-- an id that is used or bound, in whatever way
abbrev pub named : (ℕ → Bool) → LookedFor
named hidden =
    record { name = hidden; strides = hidden; passed = hidden; view = λ w x. false }

-- whether a tree uses or binds a hidden id
module _ (hidden : ℕ → Bool) where
  abbrev pub in_control : Control → Bool
  in_control = found.in_control (named hidden)

  abbrev pub in_controls : List Control → Bool
  in_controls = found.in_controls (named hidden)

  abbrev pub in_condition : Condition → Bool
  in_condition = found.in_condition (named hidden)

  abbrev pub in_datum : Datum → Bool
  in_datum = found.in_datum (named hidden)

  abbrev pub in_coords : List Coord → Bool
  in_coords = found.in_coords (named hidden)

  abbrev pub in_argument : Argument → Bool
  in_argument = found.in_argument (named hidden)

  abbrev pub in_arguments : List Argument → Bool
  in_arguments = found.in_arguments (named hidden)

  abbrev pub in_statement : Statement → Bool
  in_statement = found.in_statement (named hidden)

  abbrev pub in_block : Block → Bool
  in_block = found.in_block (named hidden)

  -- the two states differ at hidden ids alone, and no other name sees a hidden buffer
  pub record SameBut (s t : State) : Type 0 where
    pub control : (x : ℕ) → hidden x ≡ false → s.scene.control x ≡ t.scene.control x
    pub buffers : (x : ℕ) → hidden x ≡ false → s.scene.buffers x ≡ t.scene.buffers x
    pub views : (x : ℕ) → hidden x ≡ false → s.scene.views x ≡ t.scene.views x
    pub fields : s.scene.fields ≡ t.scene.fields
    pub cells : (x : ℕ) → hidden x ≡ false → s.cells x ≡ t.cells x
    pub seen :
        (x : ℕ) (seen : Seen)
        → hidden x ≡ false
        → s.scene.views x ≡ Some seen
        → hidden seen.buffer ≡ false

-- a run does not see ids that the block does not mention, and leaves them alone
abbrev pub RunsIgnoreUnmentioned : Type 0
RunsIgnoreUnmentioned =
    (hidden : ℕ → Bool) (world : World) (b : Block)
    → in_block hidden b ≡ false
    → Respects (SameBut hidden) (run world b)
