-- Two turns whose footprints do not clash.
use Rattle.std.proofs.Common.{◌≡◌, ℕ, ◌==◌, Bool, true, false, ◌||◌, List, [], ◌∷◌, Option, Some, None, IfSome, IsSome, option_map, refl, sym, ap, ap₂, ◌∙◌, subst, true≢false, eqb-true}
use Rattle.std.proofs.Math.Path.{fun_ext}
use Rattle.exo_tree.specs.Tree.{Cell}
use Rattle.exo_meaning.specs.Value.{Value, Undefined}
use Rattle.exo_meaning.specs.Scene.{Shape, Scene, then_do}
use Rattle.exo_meaning.specs.State.{State, Place, is_there, on_scene, with_control}
use Rattle.exo_meaning.specs.Run.{World, run, turn}
use Rattle.exo_meaning.specs.Footprint.{Reads, Writes, Reduces, Entry, Made, IsFixed, Change, under, changed_by, Passes, LeavesOthers, Exchanges, stores, overwrites_one, overwrites, IsClear, added, added_all}
use Rattle.exo_meaning.specs.Orders.{Each, HasScene}
use Rattle.exo_meaning.specs.Laws.{TurnsCommute, without_calls, no_entries, turn_touches}
use Rattle.exo_meaning.proofs.Cells.{there_is}
use Rattle.exo_meaning.proofs.Wrap.{additions_swap}
use Rattle.exo_meaning.proofs.Changes.{ScopedChanges, scoped_changes, run_changes}
use Rattle.exo_meaning.proofs.Deltas.{run_exchanges, scoped_exchanges}

none_some : {A : Type 0} {a : A} → None ≡ Some a → ⊥
none_some e = cc

-- ---- sums

sum_swap : (cell : Cell) (us : List Value) (u v : Value) → added_all cell us (added cell u v) ≡ added cell u (added_all cell us v)
sum_swap cell [] u v = refl
sum_swap cell (w ∷ us) u v = ap (added_all cell us) (additions_swap cell u w v) ∙ sum_swap cell us u (added cell w v)

sums_swap : (cell : Cell) (us ws : List Value) (v : Value) → added_all cell us (added_all cell ws v) ≡ added_all cell ws (added_all cell us v)
sums_swap cell us [] v = refl
sums_swap cell us (w ∷ ws) v = sums_swap cell us ws (added cell w v) ∙ ap (added_all cell ws) (sum_swap cell us w v)

-- ---- what does not clash passes

there_some : (o : Option Shape) (shape : Shape) → o ≡ Some shape → IsSome o
there_some o shape e = subst (λ z. IsSome z) (sym e) refl

module _ (es : List Entry) (s t : State) (c : ScopedChanges es s t) where
  fixed : (q : Place) → (IsSome (s.scene.buffers q.buffer) → stores q es ≡ false) → IsFixed c.changes.change q
  fixed q h = go (s.scene.buffers q.buffer) refl
    where
      go : (o : Option Shape) → s.scene.buffers q.buffer ≡ o → IsFixed c.changes.change q
      go None e = c.dead q e
      go (Some shape) e = c.changes.idle q (h (there_some (s.scene.buffers q.buffer) shape e))

  passes : (e : Entry) → IsClear s.scene es e → Passes c.changes.change e
  passes (Reads q) h = fixed q h
  passes (Writes q) h = fixed q h
  passes (Made x) h = λ at v. c.dead (record { buffer = x; at = at }) h v
  passes (Reduces cell q) h = go (s.scene.buffers q.buffer) refl
    where
      go : (o : Option Shape) → s.scene.buffers q.buffer ≡ o → Passes c.changes.change (Reduces cell q)
      go None e = λ u v. c.dead q e (added cell u v) ∙ ap (added cell u) (sym (c.dead q e v))
      go (Some shape) e = λ u v.
          let k = h shape e in
          let sum = c.changes.sums q shape e k.0 in
          let sum' : (w : Value) → c.changes.change q.buffer q.at w ≡ added_all cell sum.0 w = λ w. sum.1 w ∙ ap (λ z. added_all z sum.0 w) k.1 in
          sum' (added cell u v) ∙ sum_swap cell sum.0 u v ∙ ap (added cell u) (sym (sum' v))

  all_pass : (fs : List Entry) → Each (IsClear s.scene es) fs → Each (Passes c.changes.change) fs
  all_pass [] h = tt
  all_pass (f ∷ fs) h = (passes f h.0, all_pass fs h.1)

  leaves : LeavesOthers c.changes.change s.scene
  leaves x e at = c.dead (record { buffer = x; at = at }) e Undefined

-- where the others store in a cell, these can only reduce it
only_reduced : (scene : Scene) (p : Place) (shape : Shape) → scene.buffers p.buffer ≡ Some shape → (fs es : List Entry) → Each (IsClear scene fs) es → stores p fs ≡ true → overwrites p es ≡ false
only_reduced scene p shape at_p fs [] h k = refl
only_reduced scene p shape at_p fs (e ∷ es) h k = ap₂ (λ a b. a || b) (one e h.0) (only_reduced scene p shape at_p fs es h.1 k)
  where
    elsewhere : (q : Place) → (IsSome (scene.buffers q.buffer) → stores q fs ≡ false) → (b : Bool) → (b ≡ true → (p.buffer ≡ q.buffer) × (p.at ≡ q.at)) → b ≡ false
    elsewhere q c false there = refl
    elsewhere q c true there =
        let same = there refl in
        let there_q : IsSome (scene.buffers q.buffer) = subst (λ x. IsSome (scene.buffers x)) same.0 (there_some (scene.buffers p.buffer) shape at_p) in
        absurd (true≢false (sym k ∙ ap₂ (λ x y. stores (record { buffer = x; at = y }) fs) same.0 same.1 ∙ c there_q))

    other : (x : ℕ) → scene.buffers x ≡ None → (b : Bool) → (b ≡ true → p.buffer ≡ x) → b ≡ false
    other x d false same = refl
    other x d true same = absurd (none_some (sym d ∙ ap scene.buffers (sym (same refl)) ∙ at_p))

    one : (e : Entry) → IsClear scene fs e → overwrites_one p e ≡ false
    one (Reads q) c = refl
    one (Writes q) c = elsewhere q c (is_there q p.buffer p.at) (there_is q p.buffer p.at)
    one (Reduces cell q) c = refl
    one (Made x) c = other x c (p.buffer == x) (eqb-true p.buffer x)

module _ (es fs : List Entry) (s t u : State) (c : ScopedChanges es s t) (d : ScopedChanges fs s u) (h : Each (IsClear s.scene fs) es) (k : Each (IsClear s.scene es) fs) where
  at_cell : (p : Place) (v : Value) → c.changes.change p.buffer p.at (d.changes.change p.buffer p.at v) ≡ d.changes.change p.buffer p.at (c.changes.change p.buffer p.at v)
  at_cell p v = by_shape (s.scene.buffers p.buffer) refl
    where
      first_idle : IsFixed c.changes.change p → c.changes.change p.buffer p.at (d.changes.change p.buffer p.at v) ≡ d.changes.change p.buffer p.at (c.changes.change p.buffer p.at v)
      first_idle f = f (d.changes.change p.buffer p.at v) ∙ ap (d.changes.change p.buffer p.at) (sym (f v))

      second_idle : IsFixed d.changes.change p → c.changes.change p.buffer p.at (d.changes.change p.buffer p.at v) ≡ d.changes.change p.buffer p.at (c.changes.change p.buffer p.at v)
      second_idle f = ap (c.changes.change p.buffer p.at) (f v) ∙ sym (f (c.changes.change p.buffer p.at v))

      by_stores : (shape : Shape) → s.scene.buffers p.buffer ≡ Some shape → (x y : Bool) → stores p es ≡ x → stores p fs ≡ y → c.changes.change p.buffer p.at (d.changes.change p.buffer p.at v) ≡ d.changes.change p.buffer p.at (c.changes.change p.buffer p.at v)
      by_stores shape e false y i j = first_idle (c.changes.idle p i)
      by_stores shape e true false i j = second_idle (d.changes.idle p j)
      by_stores shape e true true i j =
          let a = c.changes.sums p shape e (only_reduced s.scene p shape e fs es h j) in
          let b = d.changes.sums p shape e (only_reduced s.scene p shape e es fs k i) in
          ap (c.changes.change p.buffer p.at) (b.1 v) ∙ a.1 (added_all shape.cell b.0 v) ∙ sums_swap shape.cell a.0 b.0 v ∙ sym (b.1 (added_all shape.cell a.0 v)) ∙ ap (d.changes.change p.buffer p.at) (sym (a.1 v))

      by_shape : (o : Option Shape) → s.scene.buffers p.buffer ≡ o → c.changes.change p.buffer p.at (d.changes.change p.buffer p.at v) ≡ d.changes.change p.buffer p.at (c.changes.change p.buffer p.at v)
      by_shape None e = first_idle (c.dead p e)
      by_shape (Some shape) e = by_stores shape e (stores p es) (stores p fs) refl refl

  -- one change after the other
  together : t.scene ≡ s.scene → u.scene ≡ s.scene → changed_by c.changes.change u ≡ changed_by d.changes.change t
  together et eu =
      ap₂ (λ scene cells. record { scene = scene; cells = cells }) (eu ∙ sym et)
      (ap (under c.changes.change) d.changes.cells ∙ fun_ext (λ b. fun_ext (λ at. at_cell (record { buffer = b; at = at }) (s.cells b at))) ∙ ap (under d.changes.change) (sym c.changes.cells))

  as_change : t.scene ≡ s.scene → t ≡ changed_by c.changes.change s
  as_change et = ap₂ (λ scene cells. record { scene = scene; cells = cells }) et c.changes.cells

-- ---- two turns

module _ (f g : State → Option State) (es fs : List Entry) (s : State) (h : Each (IsClear s.scene fs) es) (k : Each (IsClear s.scene es) fs) (ef : (d : Change) → LeavesOthers d s.scene → Each (Passes d) es → Exchanges d f s) (eg : (d : Change) → LeavesOthers d s.scene → Each (Passes d) fs → Exchanges d g s) where
  -- the second after the first
  second_after : (t : State) (c : ScopedChanges es s t) → t.scene ≡ s.scene → (r : Option State) → g s ≡ r → g t ≡ option_map (changed_by c.changes.change) r
  second_after t c et r e =
      ap g (ap₂ (λ scene cells. record { scene = scene; cells = cells }) et c.changes.cells) ∙ eg c.changes.change (leaves es s t c) (all_pass es s t c fs k) ∙ ap (option_map (changed_by c.changes.change)) e

  first_after : (u : State) (d : ScopedChanges fs s u) → u.scene ≡ s.scene → (o : Option State) → f s ≡ o → f u ≡ option_map (changed_by d.changes.change) o
  first_after u d eu o e =
      ap f (ap₂ (λ scene cells. record { scene = scene; cells = cells }) eu d.changes.cells) ∙ ef d.changes.change (leaves fs s u d) (all_pass fs s u d es h) ∙ ap (option_map (changed_by d.changes.change)) e

  pub either_order : (o r : Option State) → f s ≡ o → g s ≡ r → IfSome o (ScopedChanges es s) → IfSome r (ScopedChanges fs s) → IfSome o (HasScene s.scene) → IfSome r (HasScene s.scene) → then_do o g ≡ then_do r f
  either_order None None e i c d et eu = refl
  either_order None (Some u) e i c d et eu = sym (first_after u d eu None e)
  either_order (Some t) None e i c d et eu = second_after t c et None i
  either_order (Some t) (Some u) e i c d et eu = second_after t c et (Some u) i ∙ ap Some (together es fs s t u c d h k et eu) ∙ sym (first_after u d eu (Some t) e)

pub turns_commute : TurnsCommute
turns_commute kinds i j a b m n s tidy same_a same_b h k =
    either_order (turn i (run world a) m) (turn j (run world b) n) (turn_touches world i a m s) (turn_touches world j b n s) s h k
    (λ d l p. scoped_exchanges d (run world a) s (on_scene (with_control i m) s) l (run_exchanges d world no_entries (λ q args t l p. refl) a (on_scene (with_control i m) s) l p))
    (λ d l p. scoped_exchanges d (run world b) s (on_scene (with_control j n) s) l (run_exchanges d world no_entries (λ q args t l p. refl) b (on_scene (with_control j n) s) l p))
    (turn i (run world a) m s) (turn j (run world b) n s) refl refl
    (scoped_changes (turn_touches world i a m s) (run world a) s (on_scene (with_control i m) s) tidy refl refl (run_changes world no_entries (λ q args t h. tt) a (on_scene (with_control i m) s) tidy))
    (scoped_changes (turn_touches world j b n s) (run world b) s (on_scene (with_control j n) s) tidy refl refl (run_changes world no_entries (λ q args t h. tt) b (on_scene (with_control j n) s) tidy))
    same_a same_b
  where
    world : World
    world = without_calls kinds
