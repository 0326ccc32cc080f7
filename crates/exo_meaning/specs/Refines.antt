-- When one state, one run or one procedure is refined by another.
use Rattle.std.specs.Prelude.{ℕ, ℤ, ◌≡◌, List, Option, Some, None, ⊤}
use Rattle.exo_meaning.specs.Value.{Value, IsRefinedBy}
use Rattle.exo_meaning.specs.State.{State, Cells}
use Rattle.exo_meaning.specs.Calls.{Callee}
use Rattle.exo_meaning.specs.Run.{World}

-- both fail, or both give something and the two are related
abbrev pub Both : {A B : Type 0} → (A → B → Type 0) → Option A → Option B → Type 0
Both R None None = ⊤
Both R None (Some b) = ⊥
Both R (Some a) None = ⊥
Both R (Some a) (Some b) = R a b

abbrev pub AreRelated : (Value → Value → Type 0) → Cells → Cells → Type 0
AreRelated V c d = (b : ℕ) (at : List ℤ) → V (c b at) (d b at)

-- the same names and fields, and cells that are related one by one
pub record StatesRelated (V : Value → Value → Type 0) (s t : State) : Type 0 where
  pub scene : s.scene ≡ t.scene
  pub cells : AreRelated V s.cells t.cells

-- the cells of s are undefined or those of t
abbrev pub StateRefined : State → State → Type 0
StateRefined = StatesRelated IsRefinedBy

-- nothing is said of the cells
abbrev pub SameScene : State → State → Type 0
SameScene = StatesRelated (λ u v. ⊤)

-- a step that keeps a relation between two states, and faults at both or at neither
abbrev pub Respects : (State → State → Type 0) → (State → Option State) → Type 0
Respects R f = (s t : State) → R s t → Both R (f s) (f t)

abbrev pub CalleesRespect : (State → State → Type 0) → World → Type 0
CalleesRespect R world = (k : ℕ) (c : Callee) → world.callees k ≡ Some c → Respects R c.run
