-- Buffers that a block writes and does not look at, and loops that do the same in each turn.
use Rattle.std.specs.Prelude.{◌≡◌, ◌==◌, ℕ, ℤ, Bool, true, false, List, [], Some, None, IsSome}
use Rattle.std.specs.Prelude.{IfSome}
use Rattle.exo_tree.specs.Tree.{Binder, Control, Lt, For, Block, Procedure, ConfigField}
use Rattle.exo_meaning.specs.Scene.{holds}
use Rattle.exo_meaning.specs.State.{State, scoped}
use Rattle.exo_meaning.specs.Run.{run, step, kinds_of, unit_world}
use Rattle.exo_meaning.specs.Laws.{HasRoots}
use Rattle.exo_meaning.specs.Refines.{Both}
use Rattle.exo_meaning.specs.Units.{AreProcedures}
use Rattle.exo_meaning.specs.Unseen.{in_block}
use Rattle.meaning_laws.specs.Sound.{IsSound}
use Rattle.meaning_laws.specs.Fields.{writes_field}
use Rattle.meaning_laws.specs.UnitFields.{unit_writes, unit_live}
use Rattle.meaning_laws.specs.Live.{live, Agree}
use Rattle.meaning_laws.specs.Touched.{Mode, Reading, Writing, Reducing, has_mode, unit_modes}

-- u and v before two runs, x and y after them: both runs set it, to the same, or both leave it
pub data SetOrKept {T : Type 0} (u v x y : T) : Type 0 where
  AreSet : x ≡ y → SetOrKept u v x y
  AreKept : x ≡ u → y ≡ v → SetOrKept u v x y

-- the same names, but other numbers in fields that are not live, and other values in some buffers
pub record DifferIn (alive buffers : ℕ → Bool) (s t : State) : Type 0 where
  pub names : t.scene ≡ record s.scene { fields = t.scene.fields }
  pub fields : Agree alive s.scene.fields t.scene.fields
  pub cells : (x : ℕ) → buffers x ≡ false → t.cells x ≡ s.cells x

-- s and t before two runs, u and v after them: each field and cell is set by both or left by both
pub record SetAlike (s t u v : State) : Type 0 where
  pub names : v.scene ≡ record u.scene { fields = v.scene.fields }
  pub fields : (f : ℕ)
      → SetOrKept (s.scene.fields f) (t.scene.fields f) (u.scene.fields f) (v.scene.fields f)
  pub cells : (x : ℕ) (at : List ℤ)
      → SetOrKept (s.cells x at) (t.cells x at) (u.cells x at) (v.cells x at)

-- buffer y is touched in that mode, calls included
abbrev pub touches : List ConfigField → List Procedure → Mode → (ℕ → ℕ) → Block → ℕ → Bool
touches fields ps m root b y =
    let kinds = kinds_of fields in
    has_mode (unit_world kinds ps).callees (unit_modes kinds ps) m root b y

-- in a unit, a block that neither reads these buffers nor reduces into them, calls included
pub record LooksAway (fields : List ConfigField) (memories : ℕ) (ps : List Procedure)
    (root : ℕ → ℕ) (b : Block) (buffers : ℕ → Bool) : Type 0 where
  pub unit : AreProcedures fields memories [] ps
  pub reads : (y : ℕ) → buffers y ≡ true → touches fields ps Reading root b y ≡ false
  pub reduces : (y : ℕ) → buffers y ≡ true → touches fields ps Reducing root b y ≡ false

-- what such a block sets does not depend on what these buffers and the dead fields held
abbrev pub OverwriteLaw : Type 0
OverwriteLaw =
    (fields : List ConfigField) (memories : ℕ) (ps : List Procedure) (root : ℕ → ℕ) (b : Block)
    (buffers out : ℕ → Bool) (s t : State)
    → LooksAway fields memories ps root b buffers
    → HasRoots root s.scene
    → DifferIn (λ f. live (unit_live ps) f b (out f)) buffers s t
    → let world = unit_world (kinds_of fields) ps in
    Both (λ u v. SetAlike s t u v × DifferIn out buffers u v) (run world b s) (run world b t)

-- ---- a turn that is run again

-- from this state the block reduces into no buffer that is there, reads none of those that it
-- writes, and no field that it may write but behind a sure write to it; calls included
pub record MayRepeat (fields : List ConfigField) (memories : ℕ) (ps : List Procedure)
    (root : ℕ → ℕ) (b : Block) (s : State) : Type 0 where
  pub unit : AreProcedures fields memories [] ps
  pub sound : IsSound s
  pub roots : HasRoots root s.scene
  pub reduces : (y : ℕ) → IsSome (s.scene.buffers y)
      → touches fields ps Reducing root b y ≡ false
  pub reads : (y : ℕ) → IsSome (s.scene.buffers y)
      → touches fields ps Writing root b y ≡ true → touches fields ps Reading root b y ≡ false
  pub dead : (f : ℕ) → writes_field (unit_writes ps) f b ≡ true
      → live (unit_live ps) f b false ≡ false

-- a second run in a scope of its own, from the state that the first one left, changes nothing
abbrev pub RepeatLaw : Type 0
RepeatLaw =
    (fields : List ConfigField) (memories : ℕ) (ps : List Procedure) (root : ℕ → ℕ) (b : Block)
    (s : State)
    → MayRepeat fields memories ps root b s
    → let once = scoped (run (unit_world (kinds_of fields) ps) b) in
    IfSome (once s) (λ t. once t ≡ Some t)

-- a loop with turns, whose body lacks the variable, is its body in a scope of its own
abbrev pub RemoveLoopLaw : Type 0
RemoveLoopLaw =
    (fields : List ConfigField) (memories : ℕ) (ps : List Procedure) (root : ℕ → ℕ) (i : Binder)
    (lo hi : Control) (b : Block) (s : State)
    → MayRepeat fields memories ps root b s
    → in_block (λ x. x == i.id) b ≡ false
    → s.scene.buffers i.id ≡ None
    → holds s.scene (Lt lo hi) ≡ true
    → let world = unit_world (kinds_of fields) ps in
    step world (For i lo hi b) s ≡ scoped (run world b) s
