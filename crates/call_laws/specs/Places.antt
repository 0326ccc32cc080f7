-- What names see wherever a run comes to, and that what is read there has its number.
use Rattle.std.specs.Prelude.{◌≡◌, ℕ, true, [], length, IsSome}
use Rattle.exo_tree.specs.Tree.{Control, Block, Procedure, Program}
use Rattle.exo_tree.specs.Context.{Context, fill}
use Rattle.exo_meaning.specs.Scene.{Scene}
use Rattle.exo_meaning.specs.State.{State}
use Rattle.exo_meaning.specs.Run.{program_world}
use Rattle.exo_meaning.specs.Inputs.{IsAdmissible}
use Rattle.exo_meaning.specs.Units.{Scope, Reads, sort_in, has_dimension, scope_of, field_kind}
use Rattle.exo_meaning.specs.Units.{is_control}
use Rattle.meaning_laws.specs.Context.{ComesTo}
use Rattle.meaning_laws.specs.Sorted.{MayRun, scope_at}
use Rattle.affine_forms.specs.Forms.{Reading}
use Rattle.affine_forms.specs.Laws.{ReadsAt}
use Rattle.affine_places.specs.Roots.{roots_of}
use Rattle.affine_places.specs.Readings.{entry_reading}
use Rattle.affine_places.specs.Laws.{AreMade}
use Rattle.match_laws.specs.Simplify.Simplified.{values_in}
use Rattle.match_laws.specs.Simplify.SimplifiedBlocks.{standing, IsRead}
use Rattle.match_laws.specs.Simplify.SameControls.{OfEach}

-- a run of the procedure on an admissible input comes to the hole of its body in this state
pub record IsThere (u : Program) (p : Procedure) (c : Context) (old : Block) (t : State)
    : Type 0 where
  pub may : MayRun u.fields (length u.memories) u.procedures p
  pub body : p.body ≡ fill c old
  pub first : State
  pub good : IsAdmissible (program_world u) p first
  pub comes : ComesTo (program_world u) old c first t

-- each name that sees something sees a part of its root, and each with a dimension in scope sees
-- something
pub record NamesSee (p : Procedure) (scope : Scope) (scene : Scene) : Type 0 where
  pub made : AreMade (roots_of p) scene
  pub seen : (x k : ℕ) → has_dimension k (sort_in scope x) ≡ true → IsSome (scene.views x)

abbrev pub scope_in : Procedure → Context → Scope
scope_in p c = scope_at c (scope_of [] p.params)

abbrev pub PlacesStand : Type 0
PlacesStand =
    (u : Program) (p : Procedure) (c : Context) (old : Block) (t : State)
    → IsThere u p c old t
    → NamesSee p (scope_in p c) t.scene

-- a field is read as it was at entry, a stride as that of its root
abbrev pub reading_in : Program → Procedure → Reading
reading_in u p = entry_reading u.fields (roots_of p)

-- so what is read has its number in the scene
abbrev pub EntryReads : Type 0
EntryReads =
    (u : Program) (p : Procedure) (c : Context) (old : Block) (t : State)
    → IsThere u p c old t
    → ReadsAt (standing t.scene) (values_in t.scene) (reading_in u p) t.scene

-- and all is read of an expression that keeps the rules there
abbrev pub ReadsThere : Type 0
ReadsThere =
    (u : Program) (p : Procedure) (c : Context) (old : Block) (t : State)
    → (reads : Reads) (e : Control)
    → IsThere u p c old t
    → is_control (field_kind u.fields) reads (scope_in p c) e ≡ true
    → IsRead (reading_in u p) t.scene e

-- of each expression of the block, wherever its run comes
abbrev pub EachIsRead : Type 0
EachIsRead =
    (u : Program) (p : Procedure) (c : Context) (old : Block) (t : State)
    → IsThere u p c old t
    → OfEach (program_world u) (IsRead (reading_in u p)) old t
