-- A loop in two, and two loops in one, at a place of a procedure.
use Rattle.std.proofs.Common.{◌≡◌, ℕ, true, [], refl, sym, subst}
use Rattle.exo_tree.specs.Tree.{Block, Procedure}
use Rattle.exo_tree.specs.Context.{Context}
use Rattle.exo_meaning.specs.State.{State}
use Rattle.exo_meaning.specs.Run.{kinds_of}
use Rattle.exo_meaning.specs.Inputs.{IsAdmissible}
use Rattle.exo_meaning.specs.Units.{Scope, scope_of, is_block, field_kind}
use Rattle.meaning_laws.specs.Context.{ComesTo}
use Rattle.meaning_laws.specs.Sound.{IsUnbound}
use Rattle.meaning_laws.specs.Sorted.{IsSorted, scope_at}
use Rattle.meaning_laws.specs.Copies.{IsFree}
use Rattle.meaning_laws.proofs.SameRuns.{same_runs_refine}
use Rattle.meaning_laws.proofs.Sorted.{fits_at_law}
use Rattle.meaning_laws.proofs.Copies.{place_sound, place_unbound, moves_on}
use Rattle.place_laws.specs.Scope.Scopes.{top_binders}
use Rattle.place_laws.proofs.OfScope.WellAtPlace.{well_at_place}
use Rattle.place_laws.specs.Order.TurnsOfTwo.{Loop, in_a_row, Spot, world_at, MayStart}
use Rattle.place_laws.specs.Order.PartedLoops.{AreUnbound, with_body, of_both, alone, parted}
use Rattle.place_laws.specs.Order.PartedLoops.{fused}
use Rattle.place_laws.specs.Order.PartedPlaces.{HasLoops, FissionRefines, FuseRefines}
use Rattle.place_laws.proofs.OfOrder.PartedLoops.{fission_law, fuse_law}

module _ (at : Spot) (p : Procedure) (o : Context) (old : Block) (k l : Loop)
    (has : HasLoops at p o old k l) (s u : State) (good : IsAdmissible (world_at at) p s)
    (come : ComesTo (world_at at) old o s u) where
  abbrev Is : Scope → (ℕ → ℕ) → Type 0
  Is scope root =
      is_block (field_kind at.fields) at.memories (world_at at).callees scope root old ≡ true

  starts : MayStart at old u
  starts = record {
    unit = has.may.unit;
    block =
        subst (λ z. Is z at.root) (sym has.scope)
        (subst (Is (scope_at o (scope_of [] p.params))) (sym has.root)
        (well_at_place (field_kind at.fields) at.memories (world_at at).callees p o old
        has.may.procedure has.is_there).piece);
    sound = place_sound (world_at at) p old o s u good come;
    sorted =
        subst (λ (z : Scope). IsSorted (kinds_of at.fields) z u) (sym has.scope)
        (fits_at_law at.fields at.memories at.procedures p o old has.may has.is_there s u good
        come);
  }

  unbound : (x : ℕ) → IsFree p o x → IsUnbound u x
  unbound = place_unbound (world_at at) p old o s u good come

  first_unbound : AreUnbound (top_binders k.body) u
  first_unbound x h = unbound x (has.free x h)

pub fission_refines : FissionRefines
fission_refines at p o k c r has unused moves clear =
    let old = alone (of_both k c) in
    let l = with_body k c in
    same_runs_refine (world_at at) o old (parted k c r) p has.is_there (λ s u good come.
    fission_law at k c r u
    (record {
      start = starts at p o old k l has s u good come;
      turns = record { agree = (refl, refl); first = has.first; second = has.second };
      unused = unused;
      unbound = first_unbound at p o old k l has s u good come;
    })
    (moves_on r (IsFree p o) (IsUnbound u) (unbound at p o old k l has s u good come) moves)
    (clear s u good come))

pub fuse_refines : FuseRefines
fuse_refines at p o k l has unused agree clear =
    let old = in_a_row k l in
    same_runs_refine (world_at at) o old (alone (fused k l)) p has.is_there (λ s u good come.
    fuse_law at k l u
    (record {
      start = starts at p o old k l has s u good come;
      turns = record { agree = agree s u good come; first = has.first; second = has.second };
      unused = unused;
      unbound = first_unbound at p o old k l has s u good come;
    })
    (clear s u good come))
