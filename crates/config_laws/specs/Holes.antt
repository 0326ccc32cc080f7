-- What configuration writes change, by the hole that they stand in.
use Rattle.std.specs.Prelude.{◌≡◌, ◌||◌, ℕ, false, List, [], ◌∷◌, Some, Contains}
use Rattle.exo_tree.specs.Tree.{Argument, Block, end, Param, Procedure, ConfigField}
use Rattle.exo_tree.specs.Context.{Context, fill}
use Rattle.exo_meaning.specs.Calls.{Callee}
use Rattle.exo_meaning.specs.Run.{unit_world, kinds_of}
use Rattle.exo_meaning.specs.Inputs.{Refines}
use Rattle.meaning_laws.specs.Live.{live, live_behind}
use Rattle.meaning_laws.specs.Sorted.{MayRun}
use Rattle.meaning_laws.specs.UnitFields.{unit_live}
use Rattle.config_laws.specs.Live.CallVersion.{AreAlike, MayStandForCallee, called}
use Rattle.config_laws.specs.Surely.{surely_behind, unit_surely}
use Rattle.config_laws.specs.FieldRule.{or_pass, not_again}
use Rattle.config_laws.specs.WriteConfig.{written}
use Rattle.config_laws.specs.BindConfig.{Bound, bound_in, write_and_call}

abbrev pub with_block : Procedure → Context → Block → Procedure
with_block p c b = record p { body = fill c b }

-- a write put into a hole where its field is not live
abbrev pub WrittenRefines : Type 0
WrittenRefines =
    (fields : List ConfigField) (memories : ℕ) (ps : List Procedure) (p : Procedure) (c : Context)
    (f : ℕ) (e : Argument)
    → let again = λ (g : ℕ). surely_behind (unit_surely ps) g c in
    p.body ≡ fill c end
    → MayRun fields memories ps (with_block p c (written f e))
    → live_behind (unit_live ps) f end c false ≡ false
    → Refines (unit_world (kinds_of fields) ps) p (with_block p c (written f e))
    (not_again again (f ∷ []))

-- a write left out where its field is not live behind it
abbrev pub LeftOutRefines : Type 0
LeftOutRefines =
    (fields : List ConfigField) (memories : ℕ) (ps : List Procedure) (p : Procedure) (c : Context)
    (f : ℕ) (e : Argument)
    → let again = λ (g : ℕ). surely_behind (unit_surely ps) g c in
    p.body ≡ fill c (written f e)
    → MayRun fields memories ps (with_block p c (or_pass c end))
    → live_behind (unit_live ps) f (written f e) c false ≡ false
    → Refines (unit_world (kinds_of fields) ps) p (with_block p c (or_pass c end))
    (not_again again (f ∷ []))

-- an argument bound to a field that is not live before the call
abbrev pub BoundRefines : Type 0
BoundRefines =
    (fields : List ConfigField) (memories : ℕ) (ps : List Procedure) (p : Procedure) (c : Context)
    (f k : ℕ) (args : List Argument) (name : List ℕ) (params : List Param) (b : Bound)
    → let old = called k args in
    let again = λ (g : ℕ). unit_surely ps k g || surely_behind (unit_surely ps) g c in
    p.body ≡ fill c old
    → bound_in f name params args ≡ Some b
    → MayRun fields memories ps (with_block p c (write_and_call f k b))
    → live (unit_live ps) f old (live_behind (unit_live ps) f old c false) ≡ false
    → Refines (unit_world (kinds_of fields) ps) p (with_block p c (write_and_call f k b))
    (not_again again (f ∷ []))

-- a version called where no field that differs is live behind the call
abbrev pub VersionRefines : Type 0
VersionRefines =
    (fields : List ConfigField) (memories : ℕ) (ps : List Procedure) (c : Context) (k j : ℕ)
    (args : List Argument) (p q : Procedure) (one two : Callee) (differing : List ℕ)
    → let world = unit_world (kinds_of fields) ps in
    let again = λ (g : ℕ). surely_behind (unit_surely ps) g c in
    AreAlike k j args c p q
    → MayRun fields memories ps p
    → MayRun fields memories ps q
    → world.callees k ≡ Some one
    → world.callees j ≡ Some two
    → MayStandForCallee world one two differing
    → ((f : ℕ) → Contains differing f
    → live_behind (unit_live ps) f (called k args) c false ≡ false)
    → Refines world p q (not_again again differing)
