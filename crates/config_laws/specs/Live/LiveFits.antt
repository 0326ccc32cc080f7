-- A block in the place of another at states whose fields are of their kinds.
use Rattle.std.specs.Prelude.{◌≡◌, ℕ, ℤ, Bool, true, List, Some, Contains}
use Rattle.exo_tree.specs.Tree.{Block, Procedure, ConfigField}
use Rattle.exo_tree.specs.Context.{Context, fill}
use Rattle.exo_meaning.specs.State.{State}
use Rattle.exo_meaning.specs.Run.{World, run, unit_world, kinds_of}
use Rattle.exo_meaning.specs.Inputs.{IsAdmissible, Refines}
use Rattle.meaning_laws.specs.Context.{ComesTo}
use Rattle.meaning_laws.specs.Live.{live, live_behind, refield, Agree, RefinedLive, CallsForget}
use Rattle.meaning_laws.specs.Sorted.{FieldsFit, MayRun}

-- from u with other numbers of their kinds in fields that are not live before the block, new leaves
-- what old leaves but for fields that are not live behind it
abbrev pub MayReplaceLive : World → (before behind : ℕ → Bool) → Block → Block → State → Type 0
MayReplaceLive world before behind old new u =
    (g : ℕ → ℤ)
    → FieldsFit world.kinds (refield g u)
    → Agree before u.scene.fields g
    → (a b : State)
    → run world old (refield g u) ≡ Some a
    → run world new (refield g u) ≡ Some b
    → RefinedLive behind a b

-- the fields that are live at the end of a procedure, all but those listed among them
pub record LiveAtEnd (but : List ℕ) (out : ℕ → Bool) : Type 0 where
  pub others : (f : ℕ) → (Contains but f → ⊥) → out f ≡ true

-- where the new procedure is well formed, its block may leave other numbers in such fields
abbrev pub LiveFits : Type 0
LiveFits =
    (fields : List ConfigField) (memories : ℕ) (ps : List Procedure) (calls : ℕ → ℕ → Bool → Bool)
    (c : Context) (old new : Block) (p q : Procedure) (out : ℕ → Bool) (but : List ℕ)
    → let world = unit_world (kinds_of fields) ps in
    let behind = λ (f : ℕ). live_behind calls f old c (out f) in
    let before = λ (f : ℕ). live calls f old (behind f) in
    CallsForget world calls
    → p.body ≡ fill c old
    → q ≡ record p { body = fill c new }
    → MayRun fields memories ps q
    → LiveAtEnd but out
    → ((s u : State)
    → IsAdmissible world p s
    → ComesTo world old c s u
    → MayReplaceLive world before behind old new u)
    → Refines world p q but
