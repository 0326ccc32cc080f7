-- Fields that a block may write.
use Rattle.std.specs.Prelude.{◌≡◌, ◌==◌, ◌||◌, ℕ, Bool, false, List, IfSome}
use Rattle.exo_tree.specs.Tree.{Argument, Statement, Assign, Reduce, Config, Pass, If, For, Alloc}
use Rattle.exo_tree.specs.Tree.{View, Call, Block, end, next}
use Rattle.exo_meaning.specs.State.{State}
use Rattle.exo_meaning.specs.Run.{World, run, call_to}

module _ (calls : ℕ → ℕ → Bool) (f : ℕ) where
  abbrev mutual
    pub writes_field : Block → Bool
    writes_field end = false
    writes_field (next a b) = step_writes_field a || writes_field b

    pub step_writes_field : Statement → Bool
    step_writes_field (Assign x is e) = false
    step_writes_field (Reduce x is e) = false
    step_writes_field (Config g a) = f == g
    step_writes_field Pass = false
    step_writes_field (If c a b) = writes_field a || writes_field b
    step_writes_field (For i lo hi b) = writes_field b
    step_writes_field (Alloc x cell dims memory) = false
    step_writes_field (View w x coords) = false
    step_writes_field (Call k args) = calls k f

abbrev pub HasField : ℕ → State → State → Type 0
HasField f s t = t.scene.fields f ≡ s.scene.fields f

abbrev pub CallsLeave : World → (ℕ → ℕ → Bool) → Type 0
CallsLeave world calls =
    (k f : ℕ)
    → calls k f ≡ false
    → (args : List Argument) (s : State)
    → IfSome (call_to (world.callees k) args s) (HasField f s)

-- a field that a block does not write keeps its number
abbrev pub FieldsAreKept : Type 0
FieldsAreKept =
    (world : World) (calls : ℕ → ℕ → Bool)
    → CallsLeave world calls
    → (f : ℕ) (b : Block)
    → writes_field calls f b ≡ false
    → (s : State)
    → IfSome (run world b s) (HasField f s)
