-- A procedure that calls a version of the procedure that it called.
use Rattle.std.specs.Prelude.{◌≡◌, ℕ, Bool, true, List, [], Some, Contains}
use Rattle.exo_tree.specs.Tree.{Argument, Call, Block, end, next, Procedure, ConfigField}
use Rattle.exo_tree.specs.Context.{Context, fill}
use Rattle.exo_meaning.specs.Calls.{Callee}
use Rattle.exo_meaning.specs.Run.{World, run, unit_world, kinds_of, callee_in}
use Rattle.exo_meaning.specs.Inputs.{Refines}
use Rattle.exo_meaning.specs.Units.{AreProcedures}
use Rattle.meaning_laws.specs.Live.{live_behind, CallsForget}
use Rattle.meaning_laws.specs.Sorted.{MayRun}
use Rattle.config_laws.specs.Live.LiveFits.{LiveAtEnd}

-- a callee as it is made in a unit, which runs in the whole unit as among those above it
pub record IsMadeIn (world : World) (c : Callee) : Type 0 where
  pub above : World
  pub made : c ≡ callee_in above c.procedure
  pub runs : c.run ≡ run world c.procedure.body

abbrev pub CalleesAreMade : Type 0
CalleesAreMade =
    (fields : List ConfigField) (memories : ℕ) (ps : List Procedure)
    → AreProcedures fields memories [] ps
    → let world = unit_world (kinds_of fields) ps in
    (k : ℕ) (c : Callee)
    → world.callees k ≡ Some c
    → IsMadeIn world c

-- d takes what c does, and c is refined by it but for some fields
pub record MayStandForCallee (world : World) (c d : Callee) (but : List ℕ) : Type 0 where
  pub params : d.procedure.params ≡ c.procedure.params
  pub asserts : d.procedure.asserts ≡ c.procedure.asserts
  pub refines : Refines world c.procedure d.procedure but

abbrev pub called : ℕ → List Argument → Block
called k args = next (Call k args) end

-- two procedures, alike but for the callee of one call
pub record AreAlike (k j : ℕ) (args : List Argument) (c : Context) (p q : Procedure) : Type 0 where
  pub old : p.body ≡ fill c (called k args)
  pub new : q ≡ record p { body = fill c (called j args) }

-- where no field is live behind the call that differs after the callees, the procedures differ in
-- fields alone that are not live at their ends
abbrev pub CallVersionLaw : Type 0
CallVersionLaw =
    (fields : List ConfigField) (memories : ℕ) (ps : List Procedure) (calls : ℕ → ℕ → Bool → Bool)
    (c : Context) (k j : ℕ) (args : List Argument) (p q : Procedure) (one two : Callee)
    (differing : List ℕ) (out : ℕ → Bool) (but : List ℕ)
    → let world = unit_world (kinds_of fields) ps in
    let behind = λ (f : ℕ). live_behind calls f (called k args) c (out f) in
    CallsForget world calls
    → AreAlike k j args c p q
    → MayRun fields memories ps p
    → MayRun fields memories ps q
    → world.callees k ≡ Some one
    → world.callees j ≡ Some two
    → MayStandForCallee world one two differing
    → LiveAtEnd but out
    → ((f : ℕ) → behind f ≡ true → Contains differing f → ⊥)
    → Refines world p q but
