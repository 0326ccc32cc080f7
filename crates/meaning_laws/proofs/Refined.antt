-- Refinement but for hidden ids.
use Rattle.std.proofs.Common.{◌≡◌, ℕ, ℤ, Bool, true, false, cond, List, refl, sym, ap, ◌∙◌, subst}
use Rattle.exo_tree.specs.Tree.{Block}
use Rattle.exo_meaning.specs.Value.{Value, Undefined, Number, IsRefinedBy}
use Rattle.exo_meaning.specs.Scene.{Scene}
use Rattle.exo_meaning.specs.State.{State}
use Rattle.exo_meaning.specs.Run.{World, run}
use Rattle.exo_meaning.specs.Refines.{StateRefined, Respects, CalleesRespect}
use Rattle.exo_meaning.specs.Unseen.{in_block, SameBut}
use Rattle.exo_meaning.proofs.Monotone.{run_respects, refined_closed}
use Rattle.exo_meaning.proofs.Ignored.{run_alike}
use Rattle.meaning_laws.specs.Context.{RefinedBut}
use Rattle.meaning_laws.proofs.Parts.{both_through}

pub refined_same : (v : Value) → IsRefinedBy v v
refined_same Undefined = tt
refined_same (Number n) = refl

pub refined_on : (u v w : Value) → IsRefinedBy u v → IsRefinedBy v w → IsRefinedBy u w
refined_on Undefined v w h k = tt
refined_on (Number n) v w h k = subst (λ z. IsRefinedBy z w) (sym h) k

pub state_same : (s : State) → StateRefined s s
state_same s = record { scene = refl; cells = λ x at. refined_same (s.cells x at) }

pub state_on : (a m b : State) → StateRefined a m → StateRefined m b → StateRefined a b
state_on a m b h k = record { scene = h.scene ∙ k.scene; cells = λ x at. refined_on (a.cells x at) (m.cells x at) (b.cells x at) (h.cells x at) (k.cells x at) }

module _ (hidden : ℕ → Bool) where
  pub through : (a m b : State) → StateRefined a m → SameBut hidden m b → RefinedBut hidden a b
  through a m b r e = record {
    control = λ x k. ap (λ (z : Scene). z.control x) r.scene ∙ e.control x k;
    buffers = λ x k. ap (λ (z : Scene). z.buffers x) r.scene ∙ e.buffers x k;
    views = λ x k. ap (λ (z : Scene). z.views x) r.scene ∙ e.views x k;
    fields = ap (λ (z : Scene). z.fields) r.scene ∙ e.fields;
    cells = λ x k at. subst (λ c. IsRefinedBy (a.cells x at) (c at)) (e.cells x k) (r.cells x at);
    seen = λ x z k i. e.seen x z k (ap (λ (w : Scene). w.views x) (sym r.scene) ∙ i);
  }

  pub further : (a m b : State) → RefinedBut hidden a m → StateRefined m b → RefinedBut hidden a b
  further a m b e r = record {
    control = λ x k. e.control x k ∙ ap (λ (z : Scene). z.control x) r.scene;
    buffers = λ x k. e.buffers x k ∙ ap (λ (z : Scene). z.buffers x) r.scene;
    views = λ x k. e.views x k ∙ ap (λ (z : Scene). z.views x) r.scene;
    fields = e.fields ∙ ap (λ (z : Scene). z.fields) r.scene;
    cells = λ x k at. refined_on (a.cells x at) (m.cells x at) (b.cells x at) (e.cells x k at) (r.cells x at);
    seen = e.seen;
  }

  -- the names of s, and the cells of t where they are not hidden
  abbrev middle : State → State → State
  middle s t = record { scene = s.scene; cells = λ x at. cond (hidden x) (s.cells x at) (t.cells x at) }

  module _ (s t : State) (h : RefinedBut hidden s t) where
    to_middle : StateRefined s (middle s t)
    to_middle = record { scene = refl; cells = λ x at. go x at (hidden x) refl }
      where
        go : (x : ℕ) (at : List ℤ) (b : Bool) → hidden x ≡ b → IsRefinedBy (s.cells x at) (cond b (s.cells x at) (t.cells x at))
        go x at true k = refined_same (s.cells x at)
        go x at false k = h.cells x k at

    from_middle : SameBut hidden (middle s t) t
    from_middle = record {
      control = h.control;
      buffers = h.buffers;
      views = h.views;
      fields = h.fields;
      seen = h.seen;
      cells = λ x k. ap (λ b. λ (at : List ℤ). cond b (s.cells x at) (t.cells x at)) k;
    }

  pub run_keeps_refined : (world : World) → CalleesRespect StateRefined world → (b : Block) → in_block hidden b ≡ false → Respects (RefinedBut hidden) (run world b)
  run_keeps_refined world callees b k s t h =
      both_through StateRefined (SameBut hidden) (RefinedBut hidden) (run world b s) (run world b (middle s t)) (run world b t) through
      (run_respects IsRefinedBy refined_closed world callees b s (middle s t) (to_middle s t h)) (run_alike hidden world b k (middle s t) t (from_middle s t h))
