-- A unit that grows at its end keeps the meaning of what it had.
use Rattle.std.specs.Prelude.{◌≡◌, nat_lt, ℕ, Bool, true, ◌&&◌, List, ◌++◌, length}
use Rattle.exo_tree.specs.Tree.{Kind, Statement, Assign, Reduce, Config, Pass, If, For, Alloc, View}
use Rattle.exo_tree.specs.Tree.{Call, Block, end, next, Procedure}
use Rattle.exo_meaning.specs.Run.{run, unit_world}
use Rattle.exo_meaning.specs.Inputs.{Refines}

-- each procedure that is called has a number below n
abbrev mutual
  pub calls_below : ℕ → Block → Bool
  calls_below n end = true
  calls_below n (next a b) = step_calls_below n a && calls_below n b

  pub step_calls_below : ℕ → Statement → Bool
  step_calls_below n (Assign x is e) = true
  step_calls_below n (Reduce x is e) = true
  step_calls_below n (Config f a) = true
  step_calls_below n Pass = true
  step_calls_below n (If c a b) = calls_below n a && calls_below n b
  step_calls_below n (For i lo hi b) = calls_below n b
  step_calls_below n (Alloc x cell dims memory) = true
  step_calls_below n (View w x coords) = true
  step_calls_below n (Call k args) = nat_lt k n

-- a block that calls procedures of the shorter unit alone runs the same in the longer one
abbrev pub GrownLaw : Type 0
GrownLaw =
    (kinds : ℕ → Kind) (ps more : List Procedure) (b : Block)
    → calls_below (length ps) b ≡ true
    → run (unit_world kinds (ps ++ more)) b ≡ run (unit_world kinds ps) b

-- so one procedure refines another in the longer unit where it does in the shorter one
abbrev pub GrownRefinesLaw : Type 0
GrownRefinesLaw =
    (kinds : ℕ → Kind) (ps more : List Procedure) (p q : Procedure) (but : List ℕ)
    → calls_below (length ps) p.body ≡ true
    → calls_below (length ps) q.body ≡ true
    → Refines (unit_world kinds ps) p q but
    → Refines (unit_world kinds (ps ++ more)) p q but
