-- Two loops, one in the other, may change places where turns within the bounds commute.
use Rattle.std.proofs.Common.{◌≡◌, ◌≤ℤ◌, ◌<ℤ◌, ℕ, ℤ, ◌-ℤ◌, ◌==◌, Bool, true, false, cond, List, [], ◌∷◌, Option, Some, IfSome, refl, sym, ap, ap₂, ◌∙◌, subst, true≢false, eqb-true, eq-eqb}
use Rattle.exo_tree.specs.Tree.{Binder, Index, Kind, Control, Block, Procedure, ConfigField}
use Rattle.exo_meaning.specs.Scene.{Scene, number}
use Rattle.exo_meaning.specs.State.{State, left, on_scene, with_control}
use Rattle.exo_meaning.specs.Run.{World, run, step, turn, turns_of, range, count, kinds_of, unit_world}
use Rattle.exo_meaning.specs.Footprint.{IsTidy}
use Rattle.exo_meaning.specs.Orders.{HasScene, Each, Ascends, Crosses, Stays, Exchange, by_rows, by_columns}
use Rattle.exo_meaning.specs.Nests.{both_turns, IsAt, nest}
use Rattle.exo_meaning.specs.Units.{Scope, ControlName, sort_in, with_name, is_new, is_block, field_kind, AreProcedures}
use Rattle.exo_meaning.proofs.Orders.{turns_reorder, transposed}
use Rattle.exo_meaning.proofs.Nested.{all_rows, all_columns, range_ascends, left_tidy}
use Rattle.exo_meaning.proofs.Frame.{updated_other, if_map, here}
use Rattle.meaning_laws.specs.Sound.{IsSound}
use Rattle.meaning_laws.specs.Substitute.{has_variable}
use Rattle.meaning_laws.specs.Sorted.{CellsFit, IsSorted, Ends}
use Rattle.meaning_laws.specs.Pairs.{LeavesFields}
use Rattle.meaning_laws.specs.NestsWithin.{IsBefore, IsApart, BoundsAreApart, NestsWithinBounds, NestsFromFootprints}
use Rattle.meaning_laws.proofs.Parts.{map_gives, none_some}
use Rattle.meaning_laws.proofs.Copies.{if_both}
use Rattle.meaning_laws.proofs.Substitute.{plain_same}
use Rattle.meaning_laws.proofs.Facts.{turns_between}
use Rattle.meaning_laws.proofs.FirstState.{new_is_none}
use Rattle.meaning_laws.proofs.Sorted.{run_ends, agrees, unit_good, inside, left_next}
use Rattle.meaning_laws.proofs.UnitFootprints.{in_one, one_scope, same_scene, pairs_with_calls_commute}

apart_same : (x : ℕ) (a : Control) (scene : Scene) (n : ℤ) → IsApart x a → number (with_control x n scene) a ≡ number scene a
apart_same x a scene n h = plain_same a (with_control x n scene) scene h.0 (λ y k. updated_other scene.control x n y (other y (y == x) refl k))
  where
    other : (y : ℕ) (t : Bool) → (y == x) ≡ t → has_variable a y ≡ true → (y == x) ≡ false
    other y true q k = absurd (true≢false (sym k ∙ ap (has_variable a) (eqb-true y x q) ∙ h.1))
    other y false q k = q

turns_apart : (x : ℕ) (lo hi : Control) (scene : Scene) (n : ℤ) → IsApart x lo → IsApart x hi → turns_of (with_control x n scene) lo hi ≡ turns_of scene lo hi
turns_apart x lo hi scene n h k = ap₂ (λ a b. range a (count (b -ℤ a))) (apart_same x lo scene n h) (apart_same x hi scene n k)

-- ---- the turns of a loop, each before those that follow

abbrev Between : ℤ → ℤ → ℤ → Type 0
Between lo hi n = (lo ≤ℤ n) × (n <ℤ hi)

abbrev pub Before : ℤ → ℤ → ℤ → ℤ → Type 0
Before lo hi m n = (m <ℤ n) × (lo ≤ℤ m) × (n <ℤ hi)

each_before : (lo hi m : ℤ) → lo ≤ℤ m → (ns : List ℤ) → Each (λ n. m <ℤ n) ns → Each (Between lo hi) ns → Each (Before lo hi m) ns
each_before lo hi m l [] h k = tt
each_before lo hi m l (n ∷ ns) h k = ((h.0, l, k.0.1), each_before lo hi m l ns h.1 k.1)

ascends_before : (lo hi : ℤ) (ns : List ℤ) → Ascends ◌<ℤ◌ ns → Each (Between lo hi) ns → Ascends (Before lo hi) ns
ascends_before lo hi [] h k = tt
ascends_before lo hi (n ∷ ns) h k = (each_before lo hi n k.0.0 ns h.0 k.1, ascends_before lo hi ns h.1 k.1)

pub turns_ascend : (lo hi : ℤ) → Ascends (Before lo hi) (range lo (count (hi -ℤ lo)))
turns_ascend lo hi = ascends_before lo hi (range lo (count (hi -ℤ lo))) (range_ascends lo (count (hi -ℤ lo))) (turns_between lo hi)

-- ---- the runs

module _ (world : World) (i j : ℕ) (b : Block) (leaves : LeavesFields world b) (s : State) where
  pub pairs_stay : Stays (IsAt s) (both_turns i j (run world b))
  pairs_stay x t h = if_map (λ v. turn j (run world b) x.1 (on_scene (with_control i x.0) t) ≡ Some v) (IsAt s) (turn j (run world b) x.1 (on_scene (with_control i x.0) t)) (left t) (here (turn j (run world b) x.1 (on_scene (with_control i x.0) t))) (λ v e.
      let q = map_gives (run world b (on_scene (with_control j x.1) (on_scene (with_control i x.0) t))) (left (on_scene (with_control i x.0) t)) v e in
      let fields : v.scene.fields ≡ t.scene.fields = ap (λ (z : State). z.scene.fields) (sym q.2) ∙ leaves (on_scene (with_control j x.1) (on_scene (with_control i x.0) t)) q.0 q.1 in
      (ap (λ f. record t.scene { fields = f }) fields ∙ h.0, left_tidy t v))

-- by any set of states that the turns keep
pub turned_round : (Good : State → Type 0) (world : World) (i j : Binder) (lo hi c d : Control) (b : Block) (s : State) → (i.id == j.id) ≡ false → IsTidy s → BoundsAreApart i lo hi j c d → LeavesFields world b → Stays Good (both_turns i.id j.id (run world b)) → Good s → ((x y : ℤ × ℤ) → Crosses (IsBefore s.scene lo hi) (IsBefore s.scene c d) x y → Exchange Good (both_turns i.id j.id (run world b)) x y) → step world (nest i lo hi j c d b) s ≡ step world (nest j c d i lo hi b) s
turned_round Good world i j lo hi c d b s other tidy apart leaves good_stays good exchange =
    let stays = pairs_stay world i.id j.id b leaves s in
    let inner : (n : ℤ) → turns_of (with_control i.id n s.scene) c d ≡ turns_of s.scene c d = λ n. turns_apart i.id c d s.scene n apart.1.1.0 apart.1.1.1 in
    let outer : (n : ℤ) → turns_of (with_control j.id n s.scene) lo hi ≡ turns_of s.scene lo hi = λ n. turns_apart j.id lo hi s.scene n apart.0 apart.1.0 in
    let rows = turns_of s.scene lo hi in
    let columns = turns_of s.scene c d in
    all_rows world i j lo hi c d b s other inner outer stays rows s (refl, tidy)
    ∙ turns_reorder (Crosses (IsBefore s.scene lo hi) (IsBefore s.scene c d)) Good (both_turns i.id j.id (run world b)) good_stays exchange (by_rows rows columns) (by_columns rows columns) (transposed (IsBefore s.scene lo hi) (IsBefore s.scene c d) rows columns (turns_ascend (number s.scene lo) (number s.scene hi)) (turns_ascend (number s.scene c) (number s.scene d))) s good
    ∙ sym (all_columns world i j lo hi c d b s other inner outer stays columns s (refl, tidy))

pub nests_within_bounds : NestsWithinBounds
nests_within_bounds world i j lo hi c d b s other tidy apart leaves exchange = turned_round (IsAt s) world i j lo hi c d b s other tidy apart leaves (pairs_stay world i.id j.id b leaves s) (refl, tidy) exchange

-- ---- from footprints

-- the names and fields of s, nothing else holds a value, and each cell fits its type
abbrev IsFitAt : State → State → Type 0
IsFitAt s t = (t.scene ≡ s.scene) × (IsTidy t × CellsFit t)

module _ (kinds : ℕ → Kind) (scope : Scope) (s : State) (sound : IsSound s) (sorted : IsSorted kinds scope s) (t : State) (k : IsFitAt s t) where
  at_scene : t ≡ record { scene = s.scene; cells = t.cells }
  at_scene = ap {B = State} (λ (z : Scene). record { scene = z; cells = t.cells }) k.0

  fit_sound : IsSound t
  fit_sound =
      let h : IsSound (record { scene = s.scene; cells = t.cells }) = record { tidy = subst IsTidy at_scene k.1.0; seen = sound.seen } in
      subst IsSound (sym at_scene) h

  fit_sorted : IsSorted kinds scope t
  fit_sorted =
      let h : IsSorted kinds scope (record { scene = s.scene; cells = t.cells }) = record { buffers = sorted.buffers; views = sorted.views; cells = subst CellsFit at_scene k.1.1; fields = sorted.fields } in
      subst (IsSorted kinds scope) (sym at_scene) h

-- a new name has not the id of one in scope
different : (scope : Scope) (i j : Binder) → is_new (with_name scope i (ControlName Index)) j ≡ true → (i.id == j.id) ≡ false
different scope i j new = go (i.id == j.id) (eqb-true i.id j.id)
  where
    go : (t : Bool) → (t ≡ true → i.id ≡ j.id) → t ≡ false
    go false same = refl
    go true same = absurd (none_some (sym (new_is_none (with_name scope i (ControlName Index)) j new) ∙ ap (sort_in (with_name scope i (ControlName Index))) (sym (same refl)) ∙ ap (λ t. cond t (Some (ControlName Index)) (sort_in scope i.id)) (eq-eqb i.id i.id refl)))

module _ (fields : List ConfigField) (memories : ℕ) (ps : List Procedure) (scope : Scope) (root : ℕ → ℕ) (i j : Binder) (b : Block) (s : State) (unit : AreProcedures fields memories [] ps) (sound : IsSound s) (sorted : IsSorted (kinds_of fields) scope s) (new_i : is_new scope i ≡ true) (new_j : is_new (with_name scope i (ControlName Index)) j ≡ true) (ok : is_block (field_kind fields) memories (unit_world (kinds_of fields) ps).callees (with_name (with_name scope i (ControlName Index)) j (ControlName Index)) root b ≡ true) (leaves : LeavesFields (unit_world (kinds_of fields) ps) b) where
  abbrev kinds : ℕ → Kind
  kinds = kinds_of fields

  abbrev world : World
  world = unit_world kinds ps

  fit_stays : Stays (IsFitAt s) (both_turns i.id j.id (run world b))
  fit_stays x t k =
      let sound_t = fit_sound kinds scope s sound sorted t k in
      let sorted_t = fit_sorted kinds scope s sound sorted t k in
      let deep = on_scene (with_control j.id x.1) (on_scene (with_control i.id x.0) t) in
      let deep_sound : IsSound deep = record { tidy = sound_t.tidy; seen = sound_t.seen } in
      let deep_sorted = inside kinds (with_name scope i (ControlName Index)) j x.1 (on_scene (with_control i.id x.0) t) new_j (inside kinds scope i x.0 t new_i sorted_t) in
      let ends = run_ends kinds (field_kind fields) (agrees fields) memories world refl (unit_good fields memories ps unit) b (with_name (with_name scope i (ControlName Index)) j (ControlName Index)) root ok deep deep_sound deep_sorted in
      let fits : IfSome (in_one world i.id j.id b leaves x t) (λ u. IsTidy u × CellsFit u) = if_map (Ends kinds deep) (λ u. IsTidy u × CellsFit u) (run world b deep) (left t) ends (λ u e. (left_tidy t u, (left_next kinds scope t u sorted_t e.kept e.cells e.fields).sorted.cells)) in
      subst (λ (f : State → Option State). IfSome (f t) (IsFitAt s)) (sym (one_scope world i.id j.id b leaves x))
      (if_both (HasScene t.scene) (λ u. IsTidy u × CellsFit u) (IsFitAt s) (in_one world i.id j.id b leaves x t) (same_scene world i.id j.id b leaves x t) fits (λ u a e. (a ∙ k.0, e)))

pub nests_from_footprints : NestsFromFootprints
nests_from_footprints fields memories ps scope root i j lo hi c d b s unit sound sorted new_i new_j ok apart leaves clear =
    turned_round (IsFitAt s) (unit_world (kinds_of fields) ps) i j lo hi c d b s (different scope i j new_j) sound.tidy apart leaves (fit_stays fields memories ps scope root i j b s unit sound sorted new_i new_j ok leaves) (refl, (sound.tidy, sorted.cells)) (λ x y crosses t k.
    pairs_with_calls_commute fields memories ps scope root i j b x y t unit (fit_sound (kinds_of fields) scope s sound sorted t k) (fit_sorted (kinds_of fields) scope s sound sorted t k) new_i new_j ok leaves (clear t x y k.0 crosses))
