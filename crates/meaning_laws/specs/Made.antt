-- What binders make stays as it is while their names are in scope.
use Rattle.std.specs.Prelude.{◌≡◌, ℕ, true, Option, Some, None, ⊤}
use Rattle.exo_tree.specs.Tree.{Kind, Statement, Assign, Reduce, Config, Pass, If, For, Alloc, View}
use Rattle.exo_tree.specs.Tree.{Call, Block, Procedure}
use Rattle.exo_tree.specs.Context.{Context, Here, After, InLoop, InThen, InElse, fill}
use Rattle.exo_meaning.specs.Scene.{Seen, Scene, numbers, window}
use Rattle.exo_meaning.specs.State.{State}
use Rattle.exo_meaning.specs.Calls.{Callee}
use Rattle.exo_meaning.specs.Run.{World, tensor}
use Rattle.exo_meaning.specs.Inputs.{IsAdmissible, IsBuffer}
use Rattle.exo_meaning.specs.Units.{IsProcedure}
use Rattle.meaning_laws.specs.Context.{ComesTo}
use Rattle.meaning_laws.specs.Sound.{IsSameName}
use Rattle.meaning_laws.specs.Scoped.{is_param}

-- what a statement binds in its block: a buffer with these extents, a window of a name
abbrev pub IsMade : Scene → Statement → Type 0
IsMade scene (Assign x is e) = ⊤
IsMade scene (Reduce x is e) = ⊤
IsMade scene (Config f a) = ⊤
IsMade scene Pass = ⊤
IsMade scene (If c a b) = ⊤
IsMade scene (For i lo hi b) = ⊤
IsMade scene (Alloc x cell dims memory) = IsBuffer scene x.id (tensor cell (numbers scene dims))
IsMade scene (View w x coords) =
    (seen : Seen) × (window scene x coords ≡ Some seen) × (scene.views w.id ≡ Some seen)
IsMade scene (Call k args) = ⊤

-- of each statement on the way to the hole; a loop's variable stands for no buffer
abbrev pub AreMade : Scene → Context → Type 0
AreMade scene (Here rest) = ⊤
AreMade scene (After a c) = IsMade scene a × AreMade scene c
AreMade scene (InLoop i lo hi c rest) = (scene.views i.id ≡ None) × AreMade scene c
AreMade scene (InThen t c other rest) = AreMade scene c
AreMade scene (InElse t other c rest) = AreMade scene c

-- parameters stand for what they stood for at first, and the binders on the way for what they make
-- by the numbers there
pub record NamesStand (p : Procedure) (c : Context) (s u : State) : Type 0 where
  pub params : (x : ℕ) → is_param p x ≡ true → IsSameName x s u
  pub made : AreMade u.scene c

-- so it is in a well-formed procedure wherever a run on an admissible input comes to
abbrev pub MadeLaw : Type 0
MadeLaw =
    (fields : ℕ → Option Kind) (memories : ℕ) (callees : ℕ → Option Callee) (world : World)
    (p : Procedure) (c : Context) (old : Block) (s u : State)
    → IsProcedure fields memories callees p
    → p.body ≡ fill c old
    → IsAdmissible world p s
    → ComesTo world old c s u
    → NamesStand p c s u
