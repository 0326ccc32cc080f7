-- The ways in which a procedure touches buffers: directly, through views, or through calls.
use Rattle.std.specs.Prelude.{ℕ, ◌==◌, ◌||◌, Bool, false, List, [], ◌∷◌, ◌++◌, Option, Some, None}
use Rattle.std.specs.Prelude.{slice_get}
use Rattle.exo_tree.specs.Tree.{Kind, Datum, Const, Read, Negated, Relu, Plus, Minus, Times, Select}
use Rattle.exo_tree.specs.Tree.{Argument, Statement, Assign, Reduce, Config, Pass, If, For, Alloc}
use Rattle.exo_tree.specs.Tree.{View, Call, Block, end, next, Procedure}
use Rattle.exo_meaning.specs.Calls.{Callee}
use Rattle.exo_meaning.specs.Run.{World, roots_after, call_writes, world_of, callee_in}

-- a parameter is read, written or reduced where a body does so directly, through a view, or through
-- a call
pub data Mode : Type 0 where
  Reading Writing Reducing : Mode

abbrev pub Modes : Type 0
Modes = Mode → ℕ → Bool

abbrev pub picked : Mode → Bool → Bool → Bool → Bool
picked Reading r w d = r
picked Writing r w d = w
picked Reducing r w d = d

abbrev pub reads_from : (ℕ → ℕ) → Datum → ℕ → Bool
reads_from root (Const n) y = false
reads_from root (Read x is) y = y == root x
reads_from root (Negated a) y = reads_from root a y
reads_from root (Relu a) y = reads_from root a y
reads_from root (Plus a b) y = reads_from root a y || reads_from root b y
reads_from root (Minus a b) y = reads_from root a y || reads_from root b y
reads_from root (Times a b) y = reads_from root a y || reads_from root b y
reads_from root (Select a b c d) y =
    reads_from root a y || (reads_from root b y || (reads_from root c y || reads_from root d y))

-- some argument is a part of y whose parameter has the mode
abbrev pub call_has : Option Callee → (ℕ → Bool) → (ℕ → ℕ) → ℕ → List Argument → Bool
call_has None mode root y args = false
call_has (Some callee) mode root y args = call_writes mode root y callee.procedure.params args

-- modes: those of each procedure that can be called
module _ (callees : ℕ → Option Callee) (modes : ℕ → Modes) (m : Mode) where
  -- buffer y is touched so, by the buffer of each name; a buffer that is made counts as written
  abbrev mutual
    pub has_mode : (ℕ → ℕ) → Block → ℕ → Bool
    has_mode root end y = false
    has_mode root (next a b) y = step_has_mode root a y || has_mode (roots_after a root) b y

    pub step_has_mode : (ℕ → ℕ) → Statement → ℕ → Bool
    step_has_mode root (Assign x is e) y = picked m (reads_from root e y) (y == root x) false
    step_has_mode root (Reduce x is e) y = picked m (reads_from root e y) false (y == root x)
    step_has_mode root (Config f a) y = false
    step_has_mode root Pass y = false
    step_has_mode root (If c a b) y = has_mode root a y || has_mode root b y
    step_has_mode root (For i lo hi b) y = has_mode root b y
    step_has_mode root (Alloc x cell dims memory) y = picked m false (y == x.id) false
    step_has_mode root (View w x coords) y = false
    step_has_mode root (Call k args) y = call_has (callees k) (modes k m) root y args

-- ---- the modes of a unit's procedures

abbrev pub no_modes : Modes
no_modes m x = false

abbrev pub modes_at : List Modes → ℕ → Modes
modes_at ms k = elim (slice_get ms k) [ None ↦ no_modes | Some f ↦ f ]

-- what the body of a procedure touches
abbrev pub modes_in : World → (ℕ → Modes) → Procedure → Modes
modes_in world modes p m x = has_mode world.callees modes m (λ y. y) p.body x

-- the modes of those above, and of the procedures after them, each of which calls those before it
abbrev pub all_modes : (ℕ → Kind) → List Callee → List Modes → List Procedure → List Modes
all_modes kinds above ms [] = ms
all_modes kinds above ms (p ∷ ps) =
    let world = world_of kinds above in
    all_modes kinds (above ++ callee_in world p ∷ []) (ms ++ modes_in world (modes_at ms) p ∷ []) ps

abbrev pub unit_modes : (ℕ → Kind) → List Procedure → ℕ → Modes
unit_modes kinds ps = modes_at (all_modes kinds [] [] ps)
