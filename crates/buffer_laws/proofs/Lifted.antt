-- An allocation in a loop, put before it.
use Rattle.std.proofs.Common.{◌≡◌, ◌==◌, ℕ, ℤ, ◌-ℤ◌, ◌+ℤ◌, ◌*ℤ◌, neg_ℤ, Bool, true, false, cond}
use Rattle.std.proofs.Common.{List, [], ◌∷◌, Option, Some, None, refl, sym, ap, ap₂, ◌∙◌, subst}
use Rattle.std.proofs.Common.{true≢false, eqb-true, eq-eqb}
use Rattle.std.specs.Int.{int_div_euclid, int_rem_euclid}
use Rattle.std.proofs.Math.Path.{fun_ext}
use Rattle.exo_tree.specs.Tree.{Control, Lit, Var, Field, StrideOf, Neg, Add, Sub, Mul}
use Rattle.exo_tree.specs.Tree.{Div, Mod, Condition, If, For, Block, end, next, joined}
use Rattle.exo_tree.specs.Context.{fill}
use Rattle.exo_meaning.specs.Value.{Value, Undefined, IsRefinedBy}
use Rattle.exo_meaning.specs.Scene.{Scene, Shape, Seen, number, numbers, holds, whole}
use Rattle.exo_meaning.specs.State.{State, on_scene, with_control, left, kept, scoped}
use Rattle.exo_meaning.specs.Refines.{StateRefined, CalleesRespect}
use Rattle.exo_meaning.specs.Run.{World, run, step, turn, turns, turns_of, range, count, unit_world}
use Rattle.exo_meaning.specs.Run.{tensor, choose}
use Rattle.exo_meaning.specs.Unseen.{in_control, in_controls, in_condition, in_block as mentions}
use Rattle.exo_meaning.proofs.Compose.{compose}
use Rattle.exo_meaning.proofs.Frame.{or_parts}
use Rattle.exo_meaning.proofs.Ignored.{number_same, holds_same}
use Rattle.exo_meaning.proofs.Windows.{none_is_some}
use Rattle.exo_meaning.proofs.Monotone.{run_respects, refined_closed}
use Rattle.meaning_laws.specs.Context.{RefinedBut, MayReplace}
use Rattle.meaning_laws.specs.Scoped.{has_binder}
use Rattle.meaning_laws.specs.Sound.{IsSameName}
use Rattle.meaning_laws.specs.Substitute.{is_plain}
use Rattle.meaning_laws.proofs.Names.{if_gives, Others}
use Rattle.meaning_laws.proofs.Numbers.{binder_seen}
use Rattle.meaning_laws.proofs.Parts.{then_gives, map_gives, some_injective, both_some}
use Rattle.meaning_laws.proofs.Refined.{state_same, through, run_keeps_refined}
use Rattle.meaning_laws.proofs.Replace.{unit_respects}
use Rattle.meaning_laws.proofs.Scoped.{both_false}
use Rattle.meaning_laws.proofs.Substitute.{and_parts}
use Rattle.place_laws.specs.Scope.Scopes.{top_binders, HasNone}
use Rattle.place_laws.proofs.OfScope.MayLeave.{top_has}
use Rattle.place_laws.proofs.OfScope.Opened.{leaving_refines}
use Rattle.place_laws.proofs.OfScope.Scopes.{run_names}
use Rattle.buffer_laws.specs.Buffers.{Buffer, allocation, is_buffer}
use Rattle.buffer_laws.specs.Lifted.{are_plain, lifted_from_loop, with_buffer_in}
use Rattle.buffer_laws.specs.Lifted.{LiftFromLoop, LiftLaw, LiftFromThen, LiftFromElse, LiftThenLaw}
use Rattle.buffer_laws.specs.Lifted.{LiftElseLaw, branch_with, lifted_from_then, lifted_from_else}
use Rattle.buffer_laws.proofs.Buffers.{shape_of, behind, is_behind, beside, updated_own}
use Rattle.place_laws.specs.Scope.UnrollLoop.{only_loop}

-- ---- numbers of dimensions

module _ (changed : ℕ → Bool) (s t : Scene)
    (same : (y : ℕ) → changed y ≡ false → s.control y ≡ t.control y) where
  number_kept : (e : Control) → is_plain e ≡ true → in_control changed e ≡ false
      → number s e ≡ number t e
  number_kept (Lit n) p h = refl
  number_kept (Var x) p h = same x h
  number_kept (Field f) p h = absurd (true≢false (sym p))
  number_kept (StrideOf x k) p h = absurd (true≢false (sym p))
  number_kept (Neg a) p h = ap neg_ℤ (number_kept a p h)
  number_kept (Add a b) p h =
      let q = and_parts (is_plain a) (is_plain b) p in
      let r = or_parts (in_control changed a) (in_control changed b) h in
      ap₂ ◌+ℤ◌ (number_kept a q.0 r.0) (number_kept b q.1 r.1)
  number_kept (Sub a b) p h =
      let q = and_parts (is_plain a) (is_plain b) p in
      let r = or_parts (in_control changed a) (in_control changed b) h in
      ap₂ ◌-ℤ◌ (number_kept a q.0 r.0) (number_kept b q.1 r.1)
  number_kept (Mul a b) p h =
      let q = and_parts (is_plain a) (is_plain b) p in
      let r = or_parts (in_control changed a) (in_control changed b) h in
      ap₂ ◌*ℤ◌ (number_kept a q.0 r.0) (number_kept b q.1 r.1)
  number_kept (Div a c) p h = ap (λ n. int_div_euclid n c) (number_kept a p h)
  number_kept (Mod a c) p h = ap (λ n. int_rem_euclid n c) (number_kept a p h)

  pub numbers_kept : (es : List Control) → are_plain es ≡ true → in_controls changed es ≡ false
      → numbers s es ≡ numbers t es
  numbers_kept [] p h = refl
  numbers_kept (e ∷ es) p h =
      let q = and_parts (is_plain e) (are_plain es) p in
      let r = or_parts (in_control changed e) (in_controls changed es) h in
      ap₂ ◌∷◌ (number_kept e q.0 r.0) (numbers_kept es q.1 r.1)

-- no name is among none
none_in : (e : Control) → in_control (λ y. false) e ≡ false
none_in (Lit n) = refl
none_in (Var y) = refl
none_in (Field f) = refl
none_in (StrideOf y k) = refl
none_in (Neg a) = none_in a
none_in (Add a b) = both_false (in_control (λ y. false) a) (in_control (λ y. false) b) (none_in a)
    (none_in b)
none_in (Sub a b) = both_false (in_control (λ y. false) a) (in_control (λ y. false) b) (none_in a)
    (none_in b)
none_in (Mul a b) = both_false (in_control (λ y. false) a) (in_control (λ y. false) b) (none_in a)
    (none_in b)
none_in (Div a c) = none_in a
none_in (Mod a c) = none_in a

pub none_in_all : (es : List Control) → in_controls (λ y. false) es ≡ false
none_in_all [] = refl
none_in_all (e ∷ es) = both_false (in_control (λ y. false) e) (in_controls (λ y. false) es)
    (none_in e) (none_in_all es)

-- ---- scenes

abbrev scene_of : (ℕ → ℤ) → (ℕ → Option Shape) → (ℕ → Option Seen) → (ℕ → ℤ) → Scene
scene_of c b v f = record { control = c; buffers = b; views = v; fields = f }

same_scene : (s t : Scene) → s.control ≡ t.control → s.buffers ≡ t.buffers → s.views ≡ t.views
    → s.fields ≡ t.fields → s ≡ t
same_scene s t c b v f =
    ap (λ z. scene_of z s.buffers s.views s.fields) c
    ∙ ap (λ z. scene_of t.control z s.views s.fields) b
    ∙ ap (λ z. scene_of t.control t.buffers z s.fields) v
    ∙ ap (λ z. scene_of t.control t.buffers t.views z) f

-- ---- two runs, one with the buffer made before

module _ (world : World) (callees : CalleesRespect StateRefined world) (before : Block)
    (x : Buffer) (after : Block) (dims : List ℤ) where
  abbrev shape : Shape
  shape = tensor x.cell dims

  -- the second has the buffer, of these dimensions
  record Aside (u v : State) : Type 0 where
    but : RefinedBut (is_buffer x) u v
    control : u.scene.control x.binder.id ≡ v.scene.control x.binder.id
    buffer : v.scene.buffers x.binder.id ≡ Some shape
    view : v.scene.views x.binder.id
        ≡ Some (record { buffer = x.binder.id; sides = whole dims })
    sizes : numbers u.scene x.dims ≡ dims

  module _ (unused : mentions (is_buffer x) before ≡ false) (plain : are_plain x.dims ≡ true)
      (made : in_controls (top_binders before) x.dims ≡ false) where
    own : (t : Bool) → has_binder before x.binder.id ≡ t → t ≡ false
    own false e = refl
    own true e = absurd (true≢false (sym (eq-eqb x.binder.id x.binder.id refl)
        ∙ binder_seen (is_buffer x) x.binder.id before unused e))

    named : (s t : State) → run world before s ≡ Some t → IsSameName x.binder.id s t
    named s t e =
        if_gives (Others (top_binders before) s) (run world before s) t (run_names world before s) e
        x.binder.id (top_has before x.binder.id (own (has_binder before x.binder.id) refl))

    sized : (s t : State) → run world before s ≡ Some t
        → numbers s.scene x.dims ≡ numbers t.scene x.dims
    sized s t e = numbers_kept (top_binders before) s.scene t.scene (λ y h.
        (if_gives (Others (top_binders before) s) (run world before s) t
        (run_names world before s) e y h).control) x.dims plain made

    -- where the first makes its own, they are refined
    meet : (s t : State) → RefinedBut (is_buffer x) s t
        → s.scene.control x.binder.id ≡ t.scene.control x.binder.id
        → t.scene.buffers x.binder.id ≡ Some (tensor x.cell (numbers s.scene x.dims))
        → t.scene.views x.binder.id
        ≡ Some (record { buffer = x.binder.id; sides = whole (numbers s.scene x.dims) })
        → StateRefined (behind x s) t
    meet s t h c b v = record {
      scene = same_scene (behind x s).scene t.scene
          (fun_ext (λ y. control y (is_buffer x y) refl))
          (fun_ext (λ y. buffer y (is_buffer x y) refl))
          (fun_ext (λ y. view y (is_buffer x y) refl)) h.fields;
      cells = λ y at. cell y at (is_buffer x y) refl;
    }
      where
        control : (y : ℕ) (k : Bool) → is_buffer x y ≡ k → s.scene.control y ≡ t.scene.control y
        control y true e = subst (λ z. s.scene.control z ≡ t.scene.control z)
            (sym (eqb-true y x.binder.id e)) c
        control y false e = h.control y e

        buffer : (y : ℕ) (k : Bool) → is_buffer x y ≡ k
            → (cond {A = Option Shape} k (Some (tensor x.cell (numbers s.scene x.dims)))
            (s.scene.buffers y)) ≡ t.scene.buffers y
        buffer y true e = sym b ∙ ap t.scene.buffers (sym (eqb-true y x.binder.id e))
        buffer y false e = h.buffers y e

        view : (y : ℕ) (k : Bool) → is_buffer x y ≡ k
            → (cond {A = Option Seen} k (Some (record {
              buffer = x.binder.id;
              sides = whole (numbers s.scene x.dims);
            })) (s.scene.views y)) ≡ t.scene.views y
        view y true e = sym v ∙ ap t.scene.views (sym (eqb-true y x.binder.id e))
        view y false e = h.views y e

        cell : (y : ℕ) (at : List ℤ) (k : Bool) → is_buffer x y ≡ k
            → IsRefinedBy ((cond {A = List ℤ → Value} k (λ js. Undefined) (s.cells y)) at)
            (t.cells y at)
        cell y at true e = tt
        cell y at false e = h.cells y e at

    -- the block with the allocation, and the block without
    block_refined : (u v a b : State) → Aside u v
        → run world (joined before (next (allocation x) after)) u ≡ Some a
        → run world (joined before after) v ≡ Some b
        → StateRefined a b
    block_refined u v a b h i j =
        let p = then_gives (run world before u) (run world (next (allocation x) after)) a
        (sym (compose world before (next (allocation x) after) u) ∙ i) in
        let q = then_gives (run world before v) (run world after) b
        (sym (compose world before after v) ∙ j) in
        let near = both_some (RefinedBut (is_buffer x)) (run world before u) (run world before v)
        p.0 q.0 p.1 q.1
        (run_keeps_refined (is_buffer x) world callees before unused u v h.but) in
        let first = named u p.0 p.1 in
        let second = named v q.0 q.1 in
        let sizes = sym h.sizes ∙ sized u p.0 p.1 in
        let m = then_gives (step world (allocation x) p.0) (run world after) a p.2 in
        let same = meet p.0 q.0 near (sym first.control ∙ h.control ∙ second.control)
        (sym second.buffers ∙ h.buffer ∙ ap (λ d. Some (tensor x.cell d)) sizes)
        (sym second.views ∙ h.view
        ∙ ap (λ d. Some (record { buffer = x.binder.id; sides = whole d })) sizes) in
        both_some StateRefined (run world after (behind x p.0)) (run world after q.0) a b
        (subst (λ z. run world after z ≡ Some a) (sym (is_behind world x p.0 m.0 m.1)) m.2) q.2
        (run_respects IsRefinedBy refined_closed world callees after (behind x p.0) q.0 same)

    kept_refined : (o q : Option Shape) (f g : List ℤ → Value) (at : List ℤ) → o ≡ q
        → IsRefinedBy (f at) (g at) → IsRefinedBy (kept o f at) (kept q g at)
    kept_refined None None f g at e h = tt
    kept_refined None (Some z) f g at e h = tt
    kept_refined (Some z) None f g at e h = absurd (none_is_some (sym e))
    kept_refined (Some z) (Some w) f g at e h = h

    ended : (u v a b : State) → Aside u v → StateRefined a b → Aside (left u a) (left v b)
    ended u v a b h r = record {
      but = record {
        control = h.but.control;
        buffers = h.but.buffers;
        views = h.but.views;
        fields = ap (λ (z : Scene). z.fields) r.scene;
        cells = λ y k at. kept_refined (u.scene.buffers y) (v.scene.buffers y) (a.cells y)
            (b.cells y) at (h.but.buffers y k) (r.cells y at);
        seen = h.but.seen;
      };
      control = h.control;
      buffer = h.buffer;
      view = h.view;
      sizes = numbers_kept (λ y. false) (left u a).scene u.scene (λ y k. refl) x.dims plain
          (none_in_all x.dims) ∙ h.sizes;
    }

    -- a block without the buffer, in a scope of its own
    other_refined : (other : Block) → mentions (is_buffer x) other ≡ false → (u v a b : State)
        → Aside u v → run world other u ≡ Some a → run world other v ≡ Some b
        → RefinedBut (is_buffer x) (left u a) (left v b)
    other_refined other none u v a b h i j =
        let r = both_some (RefinedBut (is_buffer x)) (run world other u) (run world other v) a b
        i j (run_keeps_refined (is_buffer x) world callees other none u v h.but) in
        record {
          control = h.but.control;
          buffers = h.but.buffers;
          views = h.but.views;
          fields = r.fields;
          cells = λ y k at. kept_refined (u.scene.buffers y) (v.scene.buffers y) (a.cells y)
              (b.cells y) at (h.but.buffers y k) (r.cells y k at);
          seen = h.but.seen;
        }

    -- a branch with the allocation, and without
    branch_refined : (u v a b : State) → Aside u v
        → run world (joined before (next (allocation x) after)) u ≡ Some a
        → run world (joined before after) v ≡ Some b
        → RefinedBut (is_buffer x) (left u a) (left v b)
    branch_refined u v a b h i j = (ended u v a b h (block_refined u v a b h i j)).but

    module _ (i : ℕ) (kept_dims : in_controls (λ y. y == i) x.dims ≡ false) where
      abbrev in_turn_with : ℤ → State → Option State
      in_turn_with = turn i (run world (joined before (next (allocation x) after)))

      abbrev in_turn_without : ℤ → State → Option State
      in_turn_without = turn i (run world (joined before after))

      abbrev set : ℤ → State → State
      set n s = on_scene (with_control i n) s

      other_control : (n : ℤ) (s : State) (y : ℕ) → (y == i) ≡ false
          → s.scene.control y ≡ (set n s).scene.control y
      other_control n s y h = ap (λ t. cond t n (s.scene.control y)) (sym h)

      begun : (n : ℤ) (u v : State) → Aside u v → Aside (set n u) (set n v)
      begun n u v h = record {
        but = record {
          control = λ y k. ap (cond (y == i) n) (h.but.control y k);
          buffers = h.but.buffers;
          views = h.but.views;
          fields = h.but.fields;
          cells = h.but.cells;
          seen = h.but.seen;
        };
        control = ap (cond (x.binder.id == i) n) h.control;
        buffer = h.buffer;
        view = h.view;
        sizes = sym (numbers_kept (λ y. y == i) u.scene (set n u).scene (other_control n u)
            x.dims plain kept_dims) ∙ h.sizes;
      }

      turn_kept : (n : ℤ) (u v a b : State) → Aside u v → in_turn_with n u ≡ Some a
          → in_turn_without n v ≡ Some b → Aside a b
      turn_kept n u v a b h i j =
          let p = map_gives (run world (joined before (next (allocation x) after)) (set n u))
          (left u) a i in
          let q = map_gives (run world (joined before after) (set n v)) (left v) b j in
          subst (λ z. Aside z b) p.2 (subst (Aside (left u p.0)) q.2
          (ended u v p.0 q.0 h (block_refined (set n u) (set n v) p.0 q.0 (begun n u v h) p.1 q.1)))

      turns_kept : (ns : List ℤ) (u v a b : State) → Aside u v → turns in_turn_with ns u ≡ Some a
          → turns in_turn_without ns v ≡ Some b → Aside a b
      turns_kept [] u v a b h i j = subst (λ z. Aside z b) (some_injective u a i)
          (subst (Aside u) (some_injective v b j) h)
      turns_kept (n ∷ ns) u v a b h i j =
          let p = then_gives (in_turn_with n u) (turns in_turn_with ns) a i in
          let q = then_gives (in_turn_without n v) (turns in_turn_without ns) b j in
          turns_kept ns p.0 q.0 a b (turn_kept n u v p.0 q.0 h p.1 q.1) p.2 q.2

pub lift_from_loop : LiftFromLoop
lift_from_loop world i lo hi before x after s callees may low high = record {
  fresh = λ y h. (may.none.unbound y h).buffers;
  runs = λ a b e f.
      let p = then_gives (step world (For i lo hi (with_buffer_in before x after)) s)
      (λ t. Some t) a e in
      let m = then_gives (step world (allocation x) s)
      (run world (only_loop i lo hi (joined before after))) b f in
      let at = is_behind world x s m.0 m.1 in
      let q = then_gives (step world (For i lo hi (joined before after)) (behind x s))
      (λ t. Some t) b
      (subst (λ z. run world (only_loop i lo hi (joined before after)) z ≡ Some b) (sym at) m.2) in
      let same = ap₂ (λ n k. range n (count (k -ℤ n)))
      (number_same (is_buffer x) s (behind x s) (beside x s may.none) lo low)
      (number_same (is_buffer x) s (behind x s) (beside x s may.none) hi high) in
      let all = turns_kept world callees before x after (numbers s.scene x.dims) may.unused
      may.plain may.made i.id may.kept (turns_of s.scene lo hi) s (behind x s) p.0 q.0 first p.1
      (ap (λ ns. turns (turn i.id (run world (joined before after))) ns (behind x s)) same ∙ q.1) in
      subst (λ z. RefinedBut (is_buffer x) z b) (some_injective p.0 a p.2)
      (subst (RefinedBut (is_buffer x) p.0) (some_injective q.0 b q.2) all.but);
}
  where
    first : Aside world callees before x after (numbers s.scene x.dims) s (behind x s)
    first = record {
      but = through (is_buffer x) s s (behind x s) (state_same s) (beside x s may.none);
      control = refl;
      buffer = updated_own s.scene.buffers x.binder.id (Some (shape_of x s));
      view = updated_own s.scene.views x.binder.id (Some (record {
        buffer = x.binder.id;
        sides = whole (numbers s.scene x.dims);
      }));
      sizes = refl;
    }

-- ---- out of a branch

first_aside : (world : World) (callees : CalleesRespect StateRefined world) (before : Block)
    (x : Buffer) (after : Block) (s : State) → HasNone (is_buffer x) s
    → Aside world callees before x after (numbers s.scene x.dims) s (behind x s)
first_aside world callees before x after s none = record {
  but = through (is_buffer x) s s (behind x s) (state_same s) (beside x s none);
  control = refl;
  buffer = updated_own s.scene.buffers x.binder.id (Some (shape_of x s));
  view = updated_own s.scene.views x.binder.id (Some (record {
    buffer = x.binder.id;
    sides = whole (numbers s.scene x.dims);
  }));
  sizes = refl;
}

-- two branches, each of which is refined in a scope of its own
module _ (world : World) (hidden : ℕ → Bool) (u v : State) (a b c d : Block)
    (first : (p q : State) → run world a u ≡ Some p → run world c v ≡ Some q
    → RefinedBut hidden (left u p) (left v q))
    (second : (p q : State) → run world b u ≡ Some p → run world d v ≡ Some q
    → RefinedBut hidden (left u p) (left v q)) where
  either_refined : (t w : Bool) → t ≡ w → (p q : State)
      → scoped (choose t (run world a) (run world b)) u ≡ Some p
      → scoped (choose w (run world c) (run world d)) v ≡ Some q → RefinedBut hidden p q
  either_refined t w e p q i j =
      go t p q i (subst (λ z. scoped (choose z (run world c) (run world d)) v ≡ Some q) (sym e) j)
    where
      go : (t : Bool) (p q : State) → scoped (choose t (run world a) (run world b)) u ≡ Some p
          → scoped (choose t (run world c) (run world d)) v ≡ Some q → RefinedBut hidden p q
      go true p q i j =
          let m = map_gives (run world a u) (left u) p i in
          let n = map_gives (run world c v) (left v) q j in
          subst (λ z. RefinedBut hidden z q) m.2
          (subst (RefinedBut hidden (left u m.0)) n.2 (first m.0 n.0 m.1 n.1))
      go false p q i j =
          let m = map_gives (run world b u) (left u) p i in
          let n = map_gives (run world d v) (left v) q j in
          subst (λ z. RefinedBut hidden z q) m.2
          (subst (RefinedBut hidden (left u m.0)) n.2 (second m.0 n.0 m.1 n.1))

-- a branch behind an allocation, where both scopes are refined
module _ (world : World) (c : Condition) (x : Buffer) (a b d e : Block) (s : State)
    (none : HasNone (is_buffer x) s) (test : in_condition (is_buffer x) c ≡ false)
    (first : (p q : State) → run world a s ≡ Some p → run world d (behind x s) ≡ Some q
    → RefinedBut (is_buffer x) (left s p) (left (behind x s) q))
    (second : (p q : State) → run world b s ≡ Some p → run world e (behind x s) ≡ Some q
    → RefinedBut (is_buffer x) (left s p) (left (behind x s) q)) where
  branches_replace : MayReplace world (is_buffer x) (next (If c a b) end)
      (next (allocation x) (next (If c d e) end)) s
  branches_replace = record {
    fresh = λ y h. (none.unbound y h).buffers;
    runs = λ t u i j.
        let p = then_gives (step world (If c a b) s) (λ z. Some z) t i in
        let m = then_gives (step world (allocation x) s) (run world (next (If c d e) end)) u j in
        let q = then_gives (step world (If c d e) (behind x s)) (λ z. Some z) u
        (subst (λ z. run world (next (If c d e) end) z ≡ Some u)
        (sym (is_behind world x s m.0 m.1)) m.2) in
        subst (λ z. RefinedBut (is_buffer x) z u) (some_injective p.0 t p.2)
        (subst (RefinedBut (is_buffer x) p.0) (some_injective q.0 u q.2)
        (either_refined world (is_buffer x) s (behind x s) a b d e first second
        (holds s.scene c) (holds (behind x s).scene c)
        (holds_same (is_buffer x) s (behind x s) (beside x s none) c test) p.0 q.0 p.1 q.1));
  }

pub lift_from_then : LiftFromThen
lift_from_then world c before x after other s callees may test unused =
    let h = first_aside world callees before x after s may.none in
    branches_replace world c x (with_buffer_in before x after) other (joined before after) other s
    may.none test
    (λ p q i j. branch_refined world callees before x after (numbers s.scene x.dims) may.unused
    may.plain may.made s (behind x s) p q h i j)
    (λ p q i j. other_refined world callees before x after (numbers s.scene x.dims) may.unused
    may.plain may.made other unused s (behind x s) p q h i j)

pub lift_from_else : LiftFromElse
lift_from_else world c other before x after s callees may test unused =
    let h = first_aside world callees before x after s may.none in
    branches_replace world c x other (with_buffer_in before x after) other (joined before after) s
    may.none test
    (λ p q i j. other_refined world callees before x after (numbers s.scene x.dims) may.unused
    may.plain may.made other unused s (behind x s) p q h i j)
    (λ p q i j. branch_refined world callees before x after (numbers s.scene x.dims) may.unused
    may.plain may.made s (behind x s) p q h i j)

pub lift_law : LiftLaw
lift_law kinds ps p c i lo hi before x after was leave unused plain kept made low high =
    leaving_refines kinds ps c (only_loop i lo hi (with_buffer_in before x after))
    (lifted_from_loop i lo hi before x after) p
    (record p { body = fill c (lifted_from_loop i lo hi before x after) }) (is_buffer x) was refl
    leave
    (λ s u good come none. lift_from_loop (unit_world kinds ps) i lo hi before x after u
    (unit_respects kinds ps) (record {
      none = none;
      unused = unused;
      plain = plain;
      kept = kept;
      made = made;
    }) low high)

pub lift_then_law : LiftThenLaw
lift_then_law kinds ps p c test before x after other was leave unused plain made tested rest =
    leaving_refines kinds ps c (branch_with test (with_buffer_in before x after) other)
    (lifted_from_then test before x after other) p
    (record p { body = fill c (lifted_from_then test before x after other) }) (is_buffer x) was refl
    leave
    (λ s u good come none. lift_from_then (unit_world kinds ps) test before x after other u
    (unit_respects kinds ps) (record {
      none = none;
      unused = unused;
      plain = plain;
      kept = none_in_all x.dims;
      made = made;
    }) tested rest)

pub lift_else_law : LiftElseLaw
lift_else_law kinds ps p c test other before x after was leave unused plain made tested rest =
    leaving_refines kinds ps c (branch_with test other (with_buffer_in before x after))
    (lifted_from_else test other before x after) p
    (record p { body = fill c (lifted_from_else test other before x after) }) (is_buffer x) was refl
    leave
    (λ s u good come none. lift_from_else (unit_world kinds ps) test other before x after u
    (unit_respects kinds ps) (record {
      none = none;
      unused = unused;
      plain = plain;
      kept = none_in_all x.dims;
      made = made;
    }) tested rest)
