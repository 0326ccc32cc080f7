-- A staged block that only reads, and cells that fit.
use Rattle.std.proofs.Common.{◌≡◌, ℕ, true, Option, Some, None, IfSome, IsSome, refl, sym, ap, ◌∙◌}
use Rattle.std.proofs.Common.{subst}
use Rattle.exo_tree.specs.Tree.{Cell}
use Rattle.exo_meaning.specs.Value.{Value, Undefined, Number, stored_as}
use Rattle.exo_meaning.specs.Scene.{Seen, then_do}
use Rattle.exo_meaning.specs.State.{State, on_scene, with_view}
use Rattle.exo_meaning.specs.Calls.{GivenView, copy_back}
use Rattle.exo_meaning.specs.Inputs.{FitsCell}
use Rattle.exo_meaning.specs.Refines.{Both}
use Rattle.exo_meaning.specs.Run.{run}
use Rattle.inplace_laws.specs.Staged.{staged, StagedAlike}
use Rattle.inplace_laws.proofs.Staged.{staged_law}
use Rattle.buffer_laws.specs.Staging.Stage.{AreAlike}
use Rattle.buffer_laws.specs.Staging.Reader.{FitIntoLaw, ReaderLaw}
use Rattle.buffer_laws.proofs.OfStaging.Box.{no_store_law}
use Rattle.buffer_laws.proofs.OfStaging.Loads.{stage_in_law}

kept : (cell : Cell) (v : Value) → FitsCell cell v → stored_as cell v ≡ v
kept cell Undefined h = refl
kept cell (Number n) h = ap Number h

pub fit_into_law : FitIntoLaw
fit_into_law s b c shape fits there same to at e =
    subst (λ k. stored_as k (s.cells b at) ≡ s.cells b at) (sym (same to e))
    (kept shape.cell (s.cells b at) (fits b shape there at))

module _ (a : ℕ) (seen : Seen) (s : State) where
  abbrev IsBack : State → Type 0
  IsBack t = copy_back true (GivenView seen) (t.cells a) t.cells ≡ t.cells

  read : (o q : Option State) → Both (StagedAlike a seen s) o q → IfSome o IsBack
      → Both (AreAlike s) o q
  read None None h k = tt
  read None (Some u) h k = absurd h
  read (Some t) None h k = absurd h
  read (Some t) (Some u) h k = record {
    fields = h.fields;
    cells = λ y at i. ap (λ c. c y at)
        (sym k) ∙ h.cells y at i;
  }

pub reader_law : ReaderLaw
reader_law hidden blind world root a dims memory x seen to coords ls b s may sizes before fit w =
    subst (λ o. Both (AreAlike s) (then_do o (run world b))
    (run world b (on_scene (with_view a.id seen) s)))
    (sym (stage_in_law world a dims memory x seen to coords ls s sizes may.there before fit))
    (read a.id seen s (run world b (staged a.id seen to s))
    (run world b (on_scene (with_view a.id seen) s)) (staged_law hidden blind world root a.id
    seen to b s may)
    (no_store_law world root a.id seen to b s may.roots (subst IsSome (sym may.there) refl)
    before.other w may.not_written))
