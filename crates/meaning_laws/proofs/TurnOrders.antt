-- The turns of one loop in another order.
use Rattle.std.proofs.Common.{◌≡◌, ℕ, Some, refl, sym, ap, ◌∙◌}
use Rattle.exo_tree.specs.Tree.{Block}
use Rattle.exo_meaning.specs.State.{State, left, on_scene, with_control}
use Rattle.exo_meaning.specs.Run.{World, run, turn, turns_of}
use Rattle.exo_meaning.specs.Orders.{Stays}
use Rattle.exo_meaning.specs.Nests.{IsAt}
use Rattle.exo_meaning.proofs.Orders.{turns_reorder}
use Rattle.exo_meaning.proofs.Nested.{left_tidy}
use Rattle.exo_meaning.proofs.Frame.{if_map, here}
use Rattle.meaning_laws.specs.Pairs.{LeavesFields}
use Rattle.meaning_laws.specs.TurnOrders.{MaySwap, TurnsMayBePermuted}

-- a turn leaves the names and fields alone
pub turn_stays : (world : World) (i : ℕ) (b : Block) (s : State) → LeavesFields world b → Stays (IsAt s) (turn i (run world b))
turn_stays world i b s leaves n t h =
    let inside = on_scene (with_control i n) t in
    if_map (λ v. run world b inside ≡ Some v) (IsAt s) (run world b inside) (left t) (here (run world b inside)) (λ v e.
    let fields : v.scene.fields ≡ t.scene.fields = leaves inside v e in
    (ap (λ f. record t.scene { fields = f }) fields ∙ h.0, left_tidy t v))

pub turns_may_be_permuted : TurnsMayBePermuted
turns_may_be_permuted world i lo hi b s ms tidy leaves order =
    sym (turns_reorder (MaySwap world i lo hi b s) (IsAt s) (turn i.id (run world b)) (turn_stays world i.id b s leaves) (λ m n may. may.1.1) (turns_of s.scene lo hi) ms order s (refl, tidy))
