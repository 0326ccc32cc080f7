-- What a run on a staged buffer leaves of all names, beside a run on a view of the window.
use Rattle.std.proofs.Common.{◌≡◌, ℕ, ◌==◌, Bool, true, false, cond, Option, Some, None}
use Rattle.std.proofs.Common.{refl, sym, ap, ◌∙◌, subst, true≢false, eqb-true, eq-eqb}
use Rattle.exo_tree.specs.Tree.{Block}
use Rattle.exo_meaning.specs.Scene.{Shape, Seen, strides_of}
use Rattle.exo_meaning.specs.State.{State, on_scene, with_view}
use Rattle.exo_meaning.specs.Run.{World, run}
use Rattle.exo_meaning.specs.Refines.{Both}
use Rattle.inplace_laws.specs.InPlace.{through, held_through, SeenStands, BufferStands, StandsFor}
use Rattle.inplace_laws.specs.Staged.{staged}
use Rattle.inplace_laws.proofs.InPlace.{in_place}
use Rattle.buffer_laws.specs.Stride.Strides.{uses_strides, SameButStrides, WhereBoth}
use Rattle.buffer_laws.specs.Stride.Staged.{staged_with, MayStageBlind}
use Rattle.buffer_laws.proofs.OfStride.Blocks.{blind_block_law}
use Rattle.buffer_laws.proofs.OfStride.Staged.{placing, none_made, base_a, base_else, stands, same_but}
use Rattle.alloc_laws.specs.Goes.EndsStand.{EndsStand, NamesStand}
use Rattle.inplace_laws.specs.CallInPlace.{no_name}

module _ (hidden : ℕ → Bool) (world : World) (sees : ℕ → ℕ → Bool) (root : ℕ → ℕ) (a : ℕ)
    (seen : Seen) (to : Shape) (b : Block) (s : State)
    (may : MayStageBlind hidden world sees root a seen to b s) where
  abbrev base : ℕ → Option Seen
  base y = cond (y == a) (Some seen) None

  abbrev all : ℕ → Bool
  all y = true

  abbrev Ends : State → State → Type 0
  Ends = StandsFor hidden all no_name all base s

  base_is : base a ≡ Some seen
  base_is = base_a hidden world sees root a seen to b s may

  no_base : (y : ℕ) → (y == a) ≡ false → base y ≡ None
  no_base = base_else hidden world sees root a seen to b s may

  view_is : (o p : Option Seen) → Both (SeenStands hidden all no_name all base s) o p
      → ((z : Seen) → p ≡ Some z → (z.buffer == seen.buffer) ≡ false) → o ≡ p
  view_is None None h k = refl
  view_is None (Some v) h k = absurd h
  view_is (Some z) None h k = absurd h
  view_is (Some z) (Some v) h k = ap Some (go (z.buffer == a) refl)
    where
      go : (t : Bool) → (z.buffer == a) ≡ t → z ≡ v
      go false e = sym (h.2 ∙ ap (λ o. through o z) (no_base z.buffer e))
      go true e = absurd (true≢false (sym (eq-eqb v.buffer seen.buffer
          (ap (λ (q : Seen). q.buffer) (h.2
          ∙ ap (λ r. through (cond {A = Option Seen} r (Some seen) None) z) e))) ∙ k v refl))

  ends_stand : (u p w : State) → SameButStrides (λ y. y == a) u p → Ends p w
      → EndsStand hidden a seen u w
  ends_stand u p w e h = record {
    control = λ y k. ap (λ f. f y) e.control ∙ h.control y k;
    buffers = λ y k n. e.buffers y n
        ∙ subst (λ o. BufferStands hidden all no_name all base s o (p.scene.buffers y)
        w.scene.buffers y) (no_base y n) (h.buffers y k);
    views = λ y k q. ap (λ f. f y) e.views
        ∙ view_is (p.scene.views y) (w.scene.views y) (h.views y k) q;
    cells = λ y k n at. ap (λ c. c y at) e.cells ∙ h.cells.own y k at
        ∙ ap (λ o. held_through o w.cells y at) (no_base y n);
    own = λ at. ap (λ c. c a at) e.cells ∙ h.cells.own a may.shown at
        ∙ ap (λ o. held_through o w.cells a at) base_is;
  }

  joined : (o p q : Option State) → WhereBoth (SameButStrides (λ y. y == a)) o p → Both Ends p q
      → WhereBoth (EndsStand hidden a seen) o q
  joined None p q h k = tt
  joined (Some t) p None h k = tt
  joined (Some t) None (Some u) h k = absurd k
  joined (Some t) (Some v) (Some u) h k = ends_stand t v u h k

pub names_stand : NamesStand
names_stand hidden world sees root a seen to b s calls may =
    let inner = staged_with (strides_of seen.sides to.strides) a seen to s in
    let outer = on_scene (with_view a seen) s in
    joined hidden world sees root a seen to b s may (run world b (staged a seen to s))
    (run world b inner) (run world b outer)
    (blind_block_law world sees root (λ y. y == a) b (staged a seen to s) inner calls
    (λ y k. ap (uses_strides world.callees sees root b) (eqb-true y a k) ∙ may.strides) may.roots
    (same_but hidden world sees root a seen to b s may))
    (in_place world hidden (λ y. true) no_name (λ y. true)
    (base hidden world sees root a seen to b s may) root b s inner outer
    (placing hidden world sees root a seen to b s may) may.names (λ y e. absurd (true≢false e))
    (none_made hidden world sees root a seen to b s may) may.roots
    (stands hidden world sees root a seen to b s may))
