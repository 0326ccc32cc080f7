-- Runs in which no allocation passes 2 ^ 48 cells, those of callees among them.
use Rattle.std.specs.Prelude.{◌≡◌, ◌≤ℤ◌, ◌^◌, ℕ, pos, ◌==◌, Bool, true, false, List, [], ◌∷◌, ◌++◌}
use Rattle.std.specs.Prelude.{length, Option, Some, None, ⊤}
use Rattle.exo_tree.specs.Tree.{Kind, Argument, Statement, Assign, Reduce, Config, Pass, If, For}
use Rattle.exo_tree.specs.Tree.{Alloc, View, Call, Block, end, next, Procedure, Program}
use Rattle.exo_meaning.specs.Scene.{numbers, holds}
use Rattle.exo_meaning.specs.State.{State, on_scene, with_control}
use Rattle.exo_meaning.specs.Calls.{Callee, Given, all_given, entered}
use Rattle.exo_meaning.specs.Run.{World, product, turn, turns_of, run, step, world_of, callee_in}
use Rattle.exo_meaning.specs.Run.{kinds_of}
use Rattle.c_widths.specs.Laws.{EachTurn}

-- what it means that the body of the procedure of that number allocates few from that state on
abbrev pub Fewness : Type 1
Fewness = ℕ → State → Type 0

-- from the state that it enters
abbrev pub CallAllocatesFew : Option Callee → (State → Type 0) → List Argument → State → Type 0
CallAllocatesFew None few args s = ⊤
CallAllocatesFew (Some c) few args s =
    (gs : List Given) (inner : State)
    → all_given s.scene args ≡ Some gs
    → entered c.procedure.params gs s ≡ Some inner
    → few inner

abbrev mutual
  pub AllocatesFew : World → Fewness → Block → State → Type 0
  AllocatesFew world few end s = ⊤
  AllocatesFew world few (next a b) s =
      StatementAllocatesFew world few a s
      × ((t : State) → step world a s ≡ Some t → AllocatesFew world few b t)

  pub StatementAllocatesFew : World → Fewness → Statement → State → Type 0
  StatementAllocatesFew world few (Assign x is e) s = ⊤
  StatementAllocatesFew world few (Reduce x is e) s = ⊤
  StatementAllocatesFew world few (Config f a) s = ⊤
  StatementAllocatesFew world few Pass s = ⊤
  StatementAllocatesFew world few (If c a b) s =
      (holds s.scene c ≡ true → AllocatesFew world few a s)
      × (holds s.scene c ≡ false → AllocatesFew world few b s)
  StatementAllocatesFew world few (For i lo hi b) s =
      EachTurn (turn i.id (run world b))
      (λ n t. AllocatesFew world few b (on_scene (with_control i.id n) t))
      (turns_of s.scene lo hi) s
  StatementAllocatesFew world few (Alloc x cell dims memory) s =
      product (numbers s.scene dims) ≤ℤ pos (2 ^ 48)
  StatementAllocatesFew world few (View w x coords) s = ⊤
  StatementAllocatesFew world few (Call k args) s =
      CallAllocatesFew (world.callees k) (few k) args s

-- ---- the procedures of a unit

abbrev pub one_of : Bool → Type 0 → Type 0 → Type 0
one_of true P Q = P
one_of false P Q = Q

abbrev pub no_fewness : Fewness
no_fewness k s = ⊤

-- of each procedure by what stands above it
abbrev pub fewness_from : (ℕ → Kind) → List Callee → Fewness → List Procedure → Fewness
fewness_from kinds above few [] = few
fewness_from kinds above few (p ∷ ps) =
    let world = world_of kinds above in
    fewness_from kinds (above ++ callee_in world p ∷ [])
    (λ k s. one_of (k == length above) (AllocatesFew world few p.body s) (few k s)) ps

abbrev pub fewness_of : Program → Fewness
fewness_of program = fewness_from (kinds_of program.fields) [] no_fewness program.procedures
