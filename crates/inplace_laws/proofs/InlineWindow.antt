-- The operator inline_window.
use Rattle.meaning_laws.specs.Scoped.{has_binder}
use Rattle.std.proofs.Common.{◌≡◌, ℕ, ◌==◌, Bool, true, false, cond, List, Some, IsSome, refl, sym, ap, ◌∙◌, subst, true≢false, eqb-true, eq-eqb}
use Rattle.exo_tree.specs.Tree.{Binder, Coord, Window, View, Block, next}
use Rattle.exo_meaning.specs.Scene.{Seen, then_do, window}
use Rattle.exo_meaning.specs.State.{State, on_scene, with_view}
use Rattle.exo_meaning.specs.Run.{World, run}
use Rattle.exo_meaning.specs.Run.{unit_world}
use Rattle.exo_meaning.specs.Unseen.{SameBut, in_block as mentions}
use Rattle.exo_meaning.proofs.Frame.{updated_other}
use Rattle.exo_meaning.proofs.Ignored.{run_alike}
use Rattle.exo_tree.specs.Context.{fill}
use Rattle.meaning_laws.specs.Context.{RefinedBut}
use Rattle.meaning_laws.specs.Sound.{IsSound, IsUnbound}
use Rattle.meaning_laws.proofs.Parts.{some_injective, then_gives, both_some}
use Rattle.meaning_laws.proofs.Names.{if_gives}
use Rattle.meaning_laws.proofs.Refined.{state_same, through}
use Rattle.meaning_laws.proofs.Replace.{context_law}
use Rattle.meaning_laws.proofs.Copies.{place_sound, place_unbound}
use Rattle.inplace_laws.specs.Windows.{in_block, are_plain, coords_have, view_of}
use Rattle.inplace_laws.specs.InlineWindow.{is_name, InlineWindowRefines}
use Rattle.inplace_laws.proofs.Windows.{window_law, view_kept}

-- a name more that stands for nothing else makes no difference to others
pub viewed_same : (w : ℕ) (seen : Seen) (s : State) → IsSound s → IsUnbound s w → SameBut (is_name w) (on_scene (with_view w seen) s) s
viewed_same w seen s sound unbound = record {
  control = λ x k. refl;
  buffers = λ x k. refl;
  fields = refl;
  cells = λ x k. refl;
  views = λ x k. updated_other s.scene.views w (Some seen) x k;
  seen = λ x z k e. other z.buffer (sound.seen x z (sym (updated_other s.scene.views w (Some seen) x k) ∙ e)) (z.buffer == w) refl;
}
  where
    other : (b : ℕ) → IsSome (s.scene.buffers b) → (t : Bool) → (b == w) ≡ t → t ≡ false
    other b i false e = refl
    other b i true e = absurd (true≢false (sym (subst IsSome (ap s.scene.buffers (eqb-true b w e) ∙ unbound.buffers) i)))

module _ (world : World) (w : Binder) (x : ℕ) (coords : List Coord) (b : Block) (u : State) (sound : IsSound u) (unbound : IsUnbound u w.id) (apart : (x == w.id) ≡ false) (plain : are_plain coords ≡ true) (own : has_binder b w.id ≡ false) (root : has_binder b x ≡ false) (variables : (y : ℕ) → coords_have coords y ≡ true → has_binder b y ≡ false) (gone : mentions (is_name w.id) (in_block w.id (Window x coords) b) ≡ false) where
  runs : (a d : State) → run world (next (View w x coords) b) u ≡ Some a → run world (in_block w.id (Window x coords) b) u ≡ Some d → RefinedBut (is_name w.id) a d
  runs a d i j =
      let m = then_gives (then_do (window u.scene x coords) (λ seen. Some (on_scene (with_view w.id seen) u))) (run world b) a i in
      let n = then_gives (window u.scene x coords) (λ seen. Some (on_scene (with_view w.id seen) u)) m.0 m.1 in
      let v : State = on_scene (with_view w.id n.0) u in
      let k : run world b v ≡ Some a = ap (run world b) (some_injective v m.0 n.2) ∙ m.2 in
      let stands : view_of v.scene (Window x coords) ≡ Some n.0 = view_kept w.id (Window x coords) plain (Window x coords) v.scene u.scene plain (updated_other u.scene.views w.id (Some n.0) x apart) (λ y e. refl) ∙ n.1 in
      let goes = if_gives (λ z. run world (in_block w.id (Window x coords) b) v ≡ Some z) (run world b v) a (window_law world w.id (Window x coords) b v (record {
        seen = n.0;
        name = ap (λ t. cond t (Some n.0) (u.scene.views w.id)) (eq-eqb w.id w.id refl);
        window = stands;
        plain = plain;
        own = own;
        root = root;
        variables = variables;
      })) k in
      through (is_name w.id) a a d (state_same a) (both_some (SameBut (is_name w.id)) (run world (in_block w.id (Window x coords) b) v) (run world (in_block w.id (Window x coords) b) u) a d goes j (run_alike (is_name w.id) world (in_block w.id (Window x coords) b) gone v u (viewed_same w.id n.0 u sound unbound)))

pub inline_window_refines : InlineWindowRefines
inline_window_refines kinds ps p c w x coords b was rest free apart plain own root variables gone =
    let world = unit_world kinds ps in
    let old : Block = next (View w x coords) b in
    let new : Block = in_block w.id (Window x coords) b in
    context_law kinds ps (is_name w.id) c old new p (record p { body = fill c new }) was refl (ap (mentions (is_name w.id)) rest) (λ s u good come.
    let unbound : IsUnbound u w.id = place_unbound world p old c s u good come w.id free in
    record {
      fresh = λ y e. ap u.scene.buffers (eqb-true y w.id e) ∙ unbound.buffers;
      runs = runs world w x coords b u (place_sound world p old c s u good come) unbound apart plain own root variables gone;
    })
