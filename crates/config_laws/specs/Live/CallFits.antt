-- A call of one procedure in the place of a call of another that is refined by it.
use Rattle.std.specs.Prelude.{◌≡◌, ℕ, Bool, true, List, [], Some, Contains}
use Rattle.exo_tree.specs.Tree.{Argument, ConfigField}
use Rattle.exo_meaning.specs.State.{State}
use Rattle.exo_meaning.specs.Calls.{Callee, call}
use Rattle.exo_meaning.specs.Run.{World, run, kinds_of, callee_in}
use Rattle.exo_meaning.specs.Laws.{HasRoots}
use Rattle.exo_meaning.specs.Inputs.{Refines}
use Rattle.exo_meaning.specs.Units.{Scope, are_params, is_call, field_kind}
use Rattle.meaning_laws.specs.Live.{RefinedLive}
use Rattle.meaning_laws.specs.Sound.{IsSound}
use Rattle.meaning_laws.specs.Sorted.{IsSorted}

-- where the call of c is well formed, and each name stands for a part of its root
pub record IsCalled (fields : List ConfigField) (memories : ℕ) (scope : Scope) (root : ℕ → ℕ)
    (c : Callee) (args : List Argument) (s : State) : Type 0 where
  pub params : are_params (field_kind fields) memories [] c.procedure.params ≡ true
  pub call : is_call (field_kind fields) scope root (Some c) args ≡ true
  pub roots : HasRoots root s.scene

-- d takes what c does, and c is refined by it but for some fields
pub record IsVersion (world : World) (c d : Callee) (but : List ℕ) : Type 0 where
  pub params : d.procedure.params ≡ c.procedure.params
  pub asserts : d.procedure.asserts ≡ c.procedure.asserts
  pub old_above : World
  pub old_made : c ≡ callee_in old_above c.procedure
  pub new_above : World
  pub new_made : d ≡ callee_in new_above d.procedure
  pub old_run : c.run ≡ run world c.procedure.body
  pub new_run : d.run ≡ run world d.procedure.body
  pub refines : Refines world c.procedure d.procedure but

-- where none of these fields is live behind the call, d may be called in place of c
abbrev pub CallFits : Type 0
CallFits =
    (fields : List ConfigField) (memories : ℕ) (world : World) (scope : Scope) (root : ℕ → ℕ)
    (c d : Callee) (args : List Argument) (but : List ℕ) (behind : ℕ → Bool) (s : State)
    → world.kinds ≡ kinds_of fields
    → IsSound s
    → IsSorted world.kinds scope s
    → IsCalled fields memories scope root c args s
    → IsVersion world c d but
    → ((f : ℕ) → behind f ≡ true → Contains but f → ⊥)
    → (a b : State)
    → call c args s ≡ Some a
    → call d args s ≡ Some b
    → RefinedLive behind a b
