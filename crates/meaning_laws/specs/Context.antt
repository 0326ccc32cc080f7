-- Blocks with a hole, and what a run does up to there.
use Rattle.std.specs.Prelude.{◌≡◌, ℕ, ℤ, Bool, true, false, List, [], ◌∷◌, Option, Some, None}
use Rattle.std.specs.Prelude.{IsSome}
use Rattle.exo_tree.specs.Context.{Context, Here, After, InLoop, InThen, InElse, fill, rest_of}
use Rattle.exo_tree.specs.Tree.{Block}
use Rattle.exo_meaning.specs.Value.{IsRefinedBy}
use Rattle.exo_meaning.specs.Scene.{Seen, holds}
use Rattle.exo_meaning.specs.State.{State, on_scene, with_control}
use Rattle.exo_meaning.specs.Run.{World, run, step, turn, turns_of}
use Rattle.exo_meaning.specs.Unseen.{in_block}
use Rattle.exo_meaning.specs.Refines.{StateRefined}
use Rattle.exo_tree.specs.Tree.{Kind, Procedure}
use Rattle.exo_meaning.specs.Run.{unit_world}
use Rattle.exo_meaning.specs.Inputs.{IsAdmissible, Refines, run_procedure}

-- the turns come to turn n, in this state
pub data ComesToTurn {T : Type 0}
    (go : T → State → Option State) : List T → State → T → State → Type 0 where
  now : {n : T} {ns : List T} {s : State} → ComesToTurn go (n ∷ ns) s n s
  later :
      {m n : T} {ns : List T} {s t u : State}
      → go m s ≡ Some t
      → ComesToTurn go ns t n u
      → ComesToTurn go (m ∷ ns) s n u

-- a run from s of the block with old in the hole comes to the hole in state t
abbrev pub ComesTo : World → Block → Context → State → State → Type 0
ComesTo world old (Here rest) s t = t ≡ s
ComesTo world old (After a c) s t =
    (u : State) × (step world a s ≡ Some u) × ComesTo world old c u t
ComesTo world old (InLoop i lo hi c rest) s t =
    (n : ℤ)
    × (u : State)
    × ComesToTurn (turn i.id (run world (fill c old))) (turns_of s.scene lo hi) s n u
    × ComesTo world old c (on_scene (with_control i.id n) u) t
ComesTo world old (InThen test c other rest) s t =
    (holds s.scene test ≡ true) × ComesTo world old c s t
ComesTo world old (InElse test other c rest) s t =
    (holds s.scene test ≡ false) × ComesTo world old c s t

-- ---- what a new block may do in place of an old one

-- equal but for hidden ids, and with cells that are refined; no other name sees a hidden buffer
pub record RefinedBut (hidden : ℕ → Bool) (s t : State) : Type 0 where
  pub control : (x : ℕ) → hidden x ≡ false → s.scene.control x ≡ t.scene.control x
  pub buffers : (x : ℕ) → hidden x ≡ false → s.scene.buffers x ≡ t.scene.buffers x
  pub views : (x : ℕ) → hidden x ≡ false → s.scene.views x ≡ t.scene.views x
  pub fields : s.scene.fields ≡ t.scene.fields
  pub cells : (x : ℕ) → hidden x ≡ false → (at : List ℤ) → IsRefinedBy (s.cells x at) (t.cells x at)
  pub seen :
      (x : ℕ) (seen : Seen)
      → hidden x ≡ false
      → s.scene.views x ≡ Some seen
      → hidden seen.buffer ≡ false

-- from s, a run of new refines one of old but for hidden ids, of which none is there
pub record MayReplace (world : World) (hidden : ℕ → Bool) (old new : Block)
    (s : State) : Type 0 where
  pub fresh : (x : ℕ) → hidden x ≡ true → s.scene.buffers x ≡ None
  pub runs :
      (a b : State) → run world old s ≡ Some a → run world new s ≡ Some b → RefinedBut hidden a b

-- from s, a run of new refines one of old, with the same names after it
abbrev pub MayStandFor : World → Block → Block → State → Type 0
MayStandFor world old new s =
    (a b : State) → run world old s ≡ Some a → run world new s ≡ Some b → StateRefined a b

-- the fields are the same, and the cells of buffers of s are refined
pub record Refined (s a b : State) : Type 0 where
  pub fields : a.scene.fields ≡ b.scene.fields
  pub cells :
      (x : ℕ)
      → IsSome (s.scene.buffers x)
      → (at : List ℤ)
      → IsRefinedBy (a.cells x at) (b.cells x at)

abbrev pub ContextLaw : Type 0
ContextLaw =
    (kinds : ℕ → Kind) (ps : List Procedure) (hidden : ℕ → Bool) (c : Context) (old new : Block)
    (p q : Procedure)
    → let world = unit_world kinds ps in
    p.body ≡ fill c old
    → q ≡ record p { body = fill c new }
    → in_block hidden (rest_of c) ≡ false
    → ((s u : State)
    → IsAdmissible world p s
    → ComesTo world old c s u
    → MayReplace world hidden old new u)
    → Refines world p q []

abbrev pub NamesLaw : Type 0
NamesLaw =
    (kinds : ℕ → Kind) (ps : List Procedure) (c : Context) (old new : Block) (p q : Procedure)
    → let world = unit_world kinds ps in
    p.body ≡ fill c old
    → q ≡ record p { body = fill c new }
    → ((s u : State)
    → IsAdmissible world p s
    → ComesTo world old c s u
    → MayStandFor world old new u)
    → Refines world p q []

-- blocks that do the same wherever a run comes to the hole: the procedures do the same, faults
-- included
abbrev pub SameRunsLaw : Type 0
SameRunsLaw =
    (world : World) (c : Context) (old new : Block) (p : Procedure)
    → p.body ≡ fill c old
    → ((s u : State)
    → IsAdmissible world p s
    → ComesTo world old c s u
    → run world old u ≡ run world new u)
    → (s : State)
    → IsAdmissible world p s
    → run_procedure world p s ≡ run_procedure world (record p { body = fill c new }) s

-- so the one refines the other, and no field differs
abbrev pub SameRunsRefineLaw : Type 0
SameRunsRefineLaw =
    (world : World) (c : Context) (old new : Block) (p : Procedure)
    → p.body ≡ fill c old
    → ((s u : State)
    → IsAdmissible world p s
    → ComesTo world old c s u
    → run world old u ≡ run world new u)
    → Refines world p (record p { body = fill c new }) []
