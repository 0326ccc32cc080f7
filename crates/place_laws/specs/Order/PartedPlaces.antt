-- A loop in two, and two loops in one, at a place of a procedure.
use Rattle.std.specs.Prelude.{◌≡◌, ℕ, true, false, []}
use Rattle.exo_tree.specs.Tree.{Block, Procedure}
use Rattle.exo_tree.specs.Context.{Context, fill}
use Rattle.exo_meaning.specs.State.{State}
use Rattle.exo_meaning.specs.Renaming.{Renaming}
use Rattle.exo_meaning.specs.Unseen.{in_block as mentions}
use Rattle.exo_meaning.specs.Inputs.{IsAdmissible, Refines}
use Rattle.exo_meaning.specs.Units.{scope_of}
use Rattle.meaning_laws.specs.Context.{ComesTo}
use Rattle.meaning_laws.specs.Sorted.{MayRun, scope_at}
use Rattle.meaning_laws.specs.Copies.{Moves, IsFree}
use Rattle.meaning_laws.specs.Pairs.{LeavesFields}
use Rattle.place_laws.specs.Scope.Scopes.{top_binders}
use Rattle.place_laws.specs.Scope.Roots.{own_roots_at}
use Rattle.place_laws.specs.Order.TurnsOfTwo.{Loop, in_a_row, AgreesAt, Spot, world_at}
use Rattle.place_laws.specs.Order.TurnsOfTwo.{HalvesAreClear}
use Rattle.place_laws.specs.Order.PartedLoops.{with_body, of_both, alone, parted, fused}
use Rattle.place_laws.specs.Order.PartedLoops.{bound_by}

-- a well-formed procedure with this block in the hole, whose loops write no field
pub record HasLoops (at : Spot) (p : Procedure) (o : Context) (old : Block) (k l : Loop) :
    Type 0 where
  pub may : MayRun at.fields at.memories at.procedures p
  pub is_there : p.body ≡ fill o old
  pub scope : at.scope ≡ scope_at o (scope_of [] p.params)
  pub root : at.root ≡ own_roots_at o
  pub first : LeavesFields (world_at at) k.body
  pub second : LeavesFields (world_at at) l.body
  pub free : (x : ℕ) → top_binders k.body x ≡ true → IsFree p o x

-- at each state that a run on an admissible input has at the hole
abbrev pub Wherever : Spot → Procedure → Context → Block → (State → Type 0) → Type 0
Wherever at p o old P =
    (s u : State) → IsAdmissible (world_at at) p s → ComesTo (world_at at) old o s u → P u

abbrev pub FissionRefines : Type 0
FissionRefines =
    (at : Spot) (p : Procedure) (o : Context) (k : Loop) (c : Block) (r : Renaming)
    → let old = alone (of_both k c) in
    HasLoops at p o old k (with_body k c)
    → mentions (top_binders k.body) c ≡ false
    → Moves r (IsFree p o)
    → Wherever at p o old (HalvesAreClear at k (with_body k c))
    → Refines (world_at at) p (record p { body = fill o (parted k c r) }) []

abbrev pub FuseRefines : Type 0
FuseRefines =
    (at : Spot) (p : Procedure) (o : Context) (k l : Loop)
    → let old = in_a_row k l in
    HasLoops at p o old k l
    → mentions (bound_by k) l.body ≡ false
    → Wherever at p o old (λ u. AgreesAt u.scene k l)
    → Wherever at p o old (HalvesAreClear at k l)
    → Refines (world_at at) p (record p { body = fill o (alone (fused k l)) }) []
