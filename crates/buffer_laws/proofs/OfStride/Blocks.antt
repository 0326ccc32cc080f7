-- A block in two states that differ in strides that it does not use.
use Rattle.std.proofs.Common.{◌≡◌, ℕ, ℤ, ◌+ℤ◌, ◌-ℤ◌, ◌==◌, Bool, true, false, ◌||◌, cond, List, []}
use Rattle.std.proofs.Common.{◌∷◌, Option, Some, None, refl, ap, ap₂, subst}
use Rattle.std.proofs.Math.Path.{fun_ext}
use Rattle.exo_tree.specs.Tree.{Statement, Assign}
use Rattle.exo_tree.specs.Tree.{Reduce, Config, Pass, If, For, Alloc, View, Call, Block, end, next}
use Rattle.exo_meaning.specs.Value.{Value, Undefined, on_two}
use Rattle.exo_meaning.specs.Scene.{Shape, Seen, numbers, holds, where_true, window}
use Rattle.exo_meaning.specs.Scene.{updated, whole}
use Rattle.exo_meaning.specs.State.{State, kept, left, on_scene, with_control, with_field, with_view}
use Rattle.exo_meaning.specs.State.{with_contents, with_buffer}
use Rattle.exo_meaning.specs.Calls.{Callee, suits, all_positive}
use Rattle.exo_meaning.specs.Laws.{HasRoots}
use Rattle.exo_meaning.specs.Modes.{call_has}
use Rattle.exo_meaning.specs.Refines.{Both}
use Rattle.exo_meaning.specs.Run.{World, run, step, argument_number, turn, turns, turns_of, range}
use Rattle.exo_meaning.specs.Run.{count, choose, call_to, tensor, roots_after}
use Rattle.inplace_laws.specs.Uses.{in_control, in_condition}
use Rattle.place_laws.proofs.OfScope.Roots.{roots_next}
use Rattle.buffer_laws.specs.Stride.Strides.{arguments_use, uses_strides}
use Rattle.buffer_laws.specs.Stride.Strides.{step_uses_strides, HaveOneSize, SameButStrides, WhereBoth}
use Rattle.buffer_laws.specs.Stride.Strides.{UsesNone, CallsAreBlind, BlindBlockLaw}
use Rattle.buffer_laws.proofs.OfStride.Strides.{where_then, where_map, where_and, where_tests, where_equal}
use Rattle.buffer_laws.proofs.OfStride.Strides.{first_none, second_none, number_same, numbers_same, holds_same}
use Rattle.buffer_laws.proofs.OfStride.Strides.{window_same, argument_same, store_where}
use Rattle.buffer_laws.proofs.OfStride.Calls.{call_both}
use Rattle.buffer_laws.specs.Staging.Alone.{has_root}
use Rattle.inplace_laws.specs.CallInPlace.{no_name}

module _ (blind : ℕ → Bool) where
  left_cells : (o q : Option Shape) → Both HaveOneSize o q → (c d : List ℤ → Value) → c ≡ d
      → (at : List ℤ) → kept o c at ≡ kept q d at
  left_cells None None h c d e at = refl
  left_cells None (Some b) h c d e at = absurd h
  left_cells (Some a) None h c d e at = absurd h
  left_cells (Some a) (Some b) h c d e at = ap (λ f. f at) e

  module _ (s t : State) (h : SameButStrides blind s t) where
    left_same : (a b : State) → SameButStrides blind a b
        → SameButStrides blind (left s a) (left t b)
    left_same a b k = record {
      control = h.control;
      views = h.views;
      fields = k.fields;
      buffers = h.buffers;
      sizes = h.sizes;
      cells = fun_ext (λ y. fun_ext (λ (at : List ℤ). left_cells (s.scene.buffers y)
          (t.scene.buffers y) (h.sizes y) (a.cells y) (b.cells y) (ap (λ c. c y) k.cells) at));
    }

    control_same : (i : ℕ) (n : ℤ)
        → SameButStrides blind (on_scene (with_control i n) s) (on_scene (with_control i n) t)
    control_same i n = record {
      control = ap (λ c. updated c i n) h.control;
      views = h.views;
      fields = h.fields;
      cells = h.cells;
      buffers = h.buffers;
      sizes = h.sizes;
    }

    field_same : (f : ℕ) (n : ℤ)
        → SameButStrides blind (on_scene (with_field f n) s) (on_scene (with_field f n) t)
    field_same f n = record {
      control = h.control;
      views = h.views;
      fields = ap (λ g. updated g f n) h.fields;
      cells = h.cells;
      buffers = h.buffers;
      sizes = h.sizes;
    }

    view_same : (w : ℕ) (z : Seen)
        → SameButStrides blind (on_scene (with_view w z) s) (on_scene (with_view w z) t)
    view_same w z = record {
      control = h.control;
      views = ap (λ v. updated v w (Some z)) h.views;
      fields = h.fields;
      cells = h.cells;
      buffers = h.buffers;
      sizes = h.sizes;
    }

    made_same : (x : ℕ) (shape : Shape) → SameButStrides blind
        (with_contents x (λ at. Undefined) (on_scene (with_buffer x shape) s))
        (with_contents x (λ at. Undefined) (on_scene (with_buffer x shape) t))
    made_same x shape = record {
      control = h.control;
      fields = h.fields;
      views = ap (λ v. updated v x (Some (record { buffer = x; sides = whole shape.dims })))
          h.views;
      cells = ap (λ c. updated c x (λ at. Undefined)) h.cells;
      buffers = λ y k. ap (λ o. cond (y == x) (Some shape) o) (h.buffers y k);
      sizes = λ y. size y (y == x);
    }
      where
        size : (y : ℕ) (b : Bool) → Both HaveOneSize (cond b (Some shape) (s.scene.buffers y))
            (cond b (Some shape) (t.scene.buffers y))
        size y true = record { cell = refl; dims = refl }
        size y false = h.sizes y

  abbrev IsBlind : (ℕ → ℕ) → (State → Option State) → Type 0
  IsBlind root f = (s t : State) → HasRoots root s.scene → SameButStrides blind s t
      → WhereBoth (SameButStrides blind) (f s) (f t)

  choose_both : (root : ℕ → ℕ) (v w : Bool) (f g : State → Option State) → v ≡ w
      → IsBlind root f → IsBlind root g → (s t : State) → HasRoots root s.scene
      → SameButStrides blind s t → WhereBoth (SameButStrides blind) (choose v f g s)
      (choose w f g t)
  choose_both root v w f g e a b s t roots h = subst (λ z. WhereBoth (SameButStrides blind)
      (choose v f g s) (choose z f g t)) e (go v)
    where
      go : (v : Bool) → WhereBoth (SameButStrides blind) (choose v f g s) (choose v f g t)
      go true = a s t roots h
      go false = b s t roots h

  turns_both : (root : ℕ → ℕ) (i : ℕ) (f : State → Option State) → IsBlind root f
      → (ns : List ℤ) → IsBlind root (turns (turn i f) ns)
  turns_both root i f k [] s t roots h = h
  turns_both root i f k (n ∷ ns) s t roots h =
      where_then (λ a b. HasRoots root a.scene × SameButStrides blind a b) (SameButStrides blind)
      (turn i f n s) (turn i f n t) (turns (turn i f) ns) (turns (turn i f) ns)
      (where_map (SameButStrides blind) (λ a b. HasRoots root a.scene × SameButStrides blind a b)
      (f (on_scene (with_control i n) s)) (f (on_scene (with_control i n) t)) (left s) (left t)
      (k (on_scene (with_control i n) s) (on_scene (with_control i n) t) roots
      (control_same s t h i n)) (λ a b m. (roots, left_same s t h a b m)))
      (λ a b m. turns_both root i f k ns a b m.0 m.1)

  module _ (world : World) (sees : ℕ → ℕ → Bool) (calls : CallsAreBlind world sees) where
    abbrev uses : (ℕ → ℕ) → Block → ℕ → Bool
    uses root b y = uses_strides world.callees sees root b y

    abbrev step_uses : (ℕ → ℕ) → Statement → ℕ → Bool
    step_uses root a y = step_uses_strides world.callees sees root a y

    mutual
      pub run_both : (b : Block) (root : ℕ → ℕ) → UsesNone blind (uses root b)
          → IsBlind root (run world b)
      run_both end root u s t roots h = h
      run_both (next a b) root u s t roots h =
          where_then (λ x y. HasRoots (roots_after a root) x.scene × SameButStrides blind x y)
          (SameButStrides blind) (step world a s) (step world a t) (run world b) (run world b)
          (where_and (λ x. HasRoots (roots_after a root) x.scene) (SameButStrides blind)
          (step world a s) (step world a t) (roots_next world a root s roots)
          (step_both a root (first_none blind (step_uses root a) (uses (roots_after a root) b) u)
          s t roots h))
          (λ x y k. run_both b (roots_after a root)
          (second_none blind (step_uses root a) (uses (roots_after a root) b) u) x y k.0 k.1)

      step_both : (a : Statement) (root : ℕ → ℕ) → UsesNone blind (step_uses root a)
          → IsBlind root (step world a)
      step_both (Assign x is d) root u s t roots h =
          store_where root blind s t roots h x is d (λ v old. v) u
      step_both (Reduce x is d) root u s t roots h =
          store_where root blind s t roots h x is d (λ v old. on_two ◌+ℤ◌ old v) u
      step_both (Config f g) root u s t roots h =
          where_then (λ m n. m ≡ n) (SameButStrides blind) (argument_number s.scene g)
          (argument_number t.scene g)
          (λ n. where_true (suits (world.kinds f) n) (Some (on_scene (with_field f n) s)))
          (λ n. where_true (suits (world.kinds f) n) (Some (on_scene (with_field f n) t)))
          (where_equal _ _ (argument_same root blind s t roots h g u))
          (λ m n e. subst (λ z. WhereBoth (SameButStrides blind)
          (where_true (suits (world.kinds f) m) (Some (on_scene (with_field f m) s)))
          (where_true (suits (world.kinds f) z) (Some (on_scene (with_field f z) t)))) e
          (where_tests (SameButStrides blind) (suits (world.kinds f) m)
          (suits (world.kinds f) m) (Some (on_scene (with_field f m) s))
          (Some (on_scene (with_field f m) t)) (field_same s t h f m)))
      step_both Pass root u s t roots h = h
      step_both (If c a b) root u s t roots h =
          let test = λ (y : ℕ). in_condition no_name (has_root root y) c in
          let both = λ (y : ℕ). uses root a y || uses root b y in
          let v = second_none blind test both u in
          where_map (SameButStrides blind) (SameButStrides blind)
          (choose (holds s.scene c) (run world a) (run world b) s)
          (choose (holds t.scene c) (run world a) (run world b) t) (left s) (left t)
          (choose_both root (holds s.scene c) (holds t.scene c) (run world a) (run world b)
          (holds_same root blind s t roots h c (first_none blind test both u))
          (run_both a root (first_none blind (uses root a) (uses root b) v))
          (run_both b root (second_none blind (uses root a) (uses root b) v)) s t roots h)
          (left_same s t h)
      step_both (For i lo hi b) root u s t roots h =
          let low = λ (y : ℕ). in_control no_name (has_root root y) lo in
          let high = λ (y : ℕ). in_control no_name (has_root root y) hi in
          let others = λ (y : ℕ). high y || uses root b y in
          let v = second_none blind low others u in
          subst (λ ns. WhereBoth (SameButStrides blind) (step world (For i lo hi b) s)
          (turns (turn i.id (run world b)) ns t)) (ap₂ (λ m n. range m (count (n -ℤ m)))
          (number_same root blind s t roots h lo (first_none blind low others u))
          (number_same root blind s t roots h hi (first_none blind high (uses root b) v)))
          (turns_both root i.id (run world b)
          (run_both b root (second_none blind high (uses root b) v)) (turns_of s.scene lo hi) s t
          roots h)
      step_both (Alloc x cell dims memory) root u s t roots h =
          subst (λ ds. WhereBoth (SameButStrides blind) (step world (Alloc x cell dims memory) s)
          (where_true (all_positive ds) (Some (with_contents x.id (λ at. Undefined)
          (on_scene (with_buffer x.id (tensor cell ds)) t)))))
          (numbers_same root blind s t roots h dims u)
          (where_tests (SameButStrides blind) (all_positive (numbers s.scene dims))
          (all_positive (numbers s.scene dims))
          (Some (with_contents x.id (λ at. Undefined)
          (on_scene (with_buffer x.id (tensor cell (numbers s.scene dims))) s)))
          (Some (with_contents x.id (λ at. Undefined)
          (on_scene (with_buffer x.id (tensor cell (numbers s.scene dims))) t)))
          (made_same s t h x.id (tensor cell (numbers s.scene dims))))
      step_both (View w x coords) root u s t roots h =
          where_then (λ m n. m ≡ n) (SameButStrides blind) (window s.scene x coords)
          (window t.scene x coords) (λ seen. Some (on_scene (with_view w.id seen) s))
          (λ seen. Some (on_scene (with_view w.id seen) t))
          (where_equal _ _ (window_same root blind s t roots h x coords u))
          (λ m n e. subst (λ z. SameButStrides blind (on_scene (with_view w.id m) s)
          (on_scene (with_view w.id z) t)) e (view_same s t h w.id m))
      step_both (Call k args) root u s t roots h = go (world.callees k) refl
          (second_none blind (λ y. arguments_use root y args)
          (λ y. call_has (world.callees k) (sees k) root y args) u)
        where
          go : (o : Option Callee) → world.callees k ≡ o
              → UsesNone blind (λ y. call_has o (sees k) root y args)
              → WhereBoth (SameButStrides blind) (call_to o args s) (call_to o args t)
          go None e v = tt
          go (Some c) e v = call_both root blind s t roots h c (sees k) (calls.runs k c e)
              (λ y m. calls.params k c y e m) args
              (first_none blind (λ y. arguments_use root y args)
              (λ y. call_has (world.callees k) (sees k) root y args) u) v

pub blind_block_law : BlindBlockLaw
blind_block_law world sees root blind b s t calls u roots h =
    run_both blind world sees calls b root u s t roots h
