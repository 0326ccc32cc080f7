-- A block in the middle of the two nests.
use Rattle.std.proofs.Common.{◌≡◌, ℕ, ◌+ℤ◌, List, Option, Some, None, IsSome, option_map}
use Rattle.std.proofs.Common.{true≢false, refl, sym, ap, subst}
use Rattle.exo_tree.specs.Tree.{Binder, Control, Coord, Datum, Assign, Reduce, Read}
use Rattle.exo_meaning.specs.Value.{Value, stored_as, on_two}
use Rattle.exo_meaning.specs.Scene.{Shape, Seen, then_do}
use Rattle.exo_meaning.specs.State.{State, Place, place, put, changed, value, held, on_scene}
use Rattle.exo_meaning.specs.State.{with_view}
use Rattle.exo_meaning.specs.Run.{World, run}
use Rattle.exo_meaning.specs.Refines.{Both}
use Rattle.exo_meaning.proofs.Windows.{map_parts}
use Rattle.meaning_laws.proofs.Parts.{then_gives}
use Rattle.inplace_laws.specs.Filled.{Loop}
use Rattle.inplace_laws.specs.Staged.{staged, StagedAlike}
use Rattle.inplace_laws.proofs.Staged.{staged_law}
use Rattle.buffer_laws.specs.Staging.Stores.{store_nest, IsStaging, FitInto}
use Rattle.buffer_laws.specs.Staging.Inside.{Uses}
use Rattle.buffer_laws.specs.Staging.Stage.{UsesLaw, AreAlike, StageLaw}
use Rattle.buffer_laws.proofs.OfStaging.Stores.{stores_law}
use Rattle.buffer_laws.proofs.OfStaging.Loads.{stage_in_law}

some_is : {A : Type 0} (o : Option A) (a : A) → o ≡ Some a → IsSome o
some_is o a e = subst IsSome (sym e) refl

put_keeps : (s t : State) (f : Value → Value) (p : Place) → put s f p ≡ Some t → t.scene ≡ s.scene
put_keeps s t f p e =
    let m = map_parts (λ (z : Shape). record s {
      cells = changed s.cells p (λ old. stored_as z.cell
          (f old));
    }) (s.scene.buffers p.buffer) t e in
    ap (λ (w : State). w.scene) (sym m.2)

stores_use : (x : ℕ) (is : List Control) (e : Datum) (f : Value → Value → Value) (u v : State)
    → then_do (place u.scene x is) (λ p. then_do (value u e) (λ n. put u (f n) p)) ≡ Some v
    → (v.scene ≡ u.scene) × IsSome (place u.scene x is) × IsSome (value u e)
stores_use x is e f u v k =
    let p = then_gives (place u.scene x is) (λ p. then_do (value u e) (λ n. put u (f n) p)) v k in
    let n = then_gives (value u e) (λ n. put u (f n) p.0) v p.2 in (
      put_keeps u v (f n.0) p.0 n.2,
      some_is (place u.scene x is) p.0 p.1,
      some_is (value u e) n.0
          n.1,
    )

pub uses_law : UsesLaw
uses_law world a x is js e = (loaded, stored, reduced)
  where
    read : (u : State) → IsSome (value u (Read x is)) → IsSome (place u.scene x is)
    read u = go (place u.scene x is)
      where
        go : (o : Option Place) → IsSome (option_map (held u.cells) o) → IsSome o
        go None h = absurd (true≢false (sym h))
        go (Some p) h = refl

    loaded : Uses world x is (Assign a js (Read x is))
    loaded u v k = let q = stores_use a js (Read x is) (λ n old. n) u v k in (q.0, read u q.2)

    stored : Uses world x is (Assign x is e)
    stored u v k = let q = stores_use x is e (λ n old. n) u v k in (q.0, q.1)

    reduced : Uses world x is (Reduce x is e)
    reduced u v k = let q = stores_use x is e (λ n old. on_two ◌+ℤ◌ old n) u v k in (q.0, q.1)

-- ---- the whole

module _ (world : World) (a : Binder) (x : ℕ) (seen : Seen) (coords : List Coord) (ls : List Loop)
    (s : State) where
  behind : (o q : Option State) → Both (StagedAlike a.id seen s) o q
      → ((t : State) → o ≡ Some t → IsStaging a.id x seen coords ls t × FitInto t a.id seen.buffer)
      → Both (AreAlike s) (then_do o (run world (store_nest a.id x coords ls))) q
  behind None None h k = tt
  behind None (Some u) h k = absurd h
  behind (Some t) None h k = absurd h
  behind (Some t) (Some u) h k =
      let w = k t refl in
      subst (λ o. Both (AreAlike s) o (Some u)) (sym (stores_law world a.id x seen coords ls t w.0
      w.1)) (record { fields = h.fields; cells = h.cells })

pub stage_law : StageLaw
stage_law hidden blind world root a dims memory x seen to coords ls ks b s may n =
    subst (λ o. Both (AreAlike s) (then_do o (λ t. then_do (run world b t)
    (run world (store_nest a.id x coords ks))))
    (run world b (on_scene (with_view a.id seen) s)))
    (sym (stage_in_law world a dims memory x seen to coords ls s n.sizes may.there n.before n.fit))
    (behind world a x seen coords ks s (run world b (staged a.id seen to s))
    (run world b (on_scene (with_view a.id seen) s)) (staged_law hidden blind world root a.id
    seen to b s may) n.behind)
