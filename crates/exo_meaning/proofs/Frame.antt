-- What a block does not write is kept.
use Rattle.std.proofs.Common.{◌≡◌, ℕ, ℤ, ◌+ℤ◌, ◌==◌, Bool, true, false, cond, ◌&&◌, ◌||◌, List, [], ◌∷◌, Option, Some, None, option_map, IsSome, IfSome, refl, sym, ap, ◌∙◌, subst, true≢false}
use Rattle.std.proofs.Math.Path.{fun_ext}
use Rattle.exo_tree.specs.Tree.{Control, Coord, Argument, ControlArg, ConditionArg, Whole, Window, Statement, Assign, Reduce, Config, Pass, If, For, Alloc, View, Call, Block, end, next, Param}
use Rattle.exo_meaning.specs.Value.{Value, Undefined, stored_as, on_two}
use Rattle.exo_meaning.specs.Scene.{then_do, Shape, Seen, Scene, updated, numbers, holds, narrowed, window, where_true, cell_at, index_of}
use Rattle.exo_meaning.specs.State.{State, Cells, Place, place, is_there, put, value, kept, left, scoped, on_scene, with_control, with_field, with_contents, with_buffer, same_index}
use Rattle.exo_meaning.specs.Calls.{Callee, keeps_apart, copied_call, GivenView, given, all_given, value_or, copy_back, copied_back, returned, entered, run_asserted, suits, all_positive}
use Rattle.exo_meaning.specs.Run.{World, run, step, turn, turns, turns_of, choose, argument_number, call_to, roots_after, is_root, call_writes, call_to_writes, writes, step_writes, tensor}
use Rattle.exo_meaning.specs.Laws.{HasRoots, IsKept, OthersAreKept}

pub some_injective : {A : Type 0} (a b : A) → Some a ≡ Some b → a ≡ b
some_injective a b e = cc

-- ---- facts about every result

pub if_then : {A B : Type 0} (P : A → Type 0) (Q : B → Type 0) (o : Option A) (f : A → Option B) → IfSome o P → ((a : A) → P a → IfSome (f a) Q) → IfSome (then_do o f) Q
if_then P Q None f h k = tt
if_then P Q (Some a) f h k = k a h

pub if_map : {A B : Type 0} (P : A → Type 0) (Q : B → Type 0) (o : Option A) (f : A → B) → IfSome o P → ((a : A) → P a → Q (f a)) → IfSome (option_map f o) Q
if_map P Q None f h k = tt
if_map P Q (Some a) f h k = k a h

pub if_where : {A : Type 0} (P : A → Type 0) (t : Bool) (o : Option A) → IfSome o P → IfSome (where_true t o) P
if_where P false o h = tt
if_where P true o h = h

-- each value that there is
pub here : {A : Type 0} (o : Option A) → IfSome o (λ a. o ≡ Some a)
here None = tt
here (Some a) = refl

-- ---- tests

pub or_parts : (a b : Bool) → (a || b) ≡ false → (a ≡ false) × (b ≡ false)
or_parts true b h = absurd (true≢false h)
or_parts false b h = (refl, h)

pub updated_other : {A : Type 0} (f : ℕ → A) (k : ℕ) (v : A) (j : ℕ) → (j == k) ≡ false → updated f k v j ≡ f j
updated_other f k v j h = ap (λ t. cond t v (f j)) h

pub not_there : (p : Place) (y : ℕ) (at : List ℤ) → (y == p.buffer) ≡ false → is_there p y at ≡ false
not_there p y at h = ap (λ t. t && same_index at p.at) h

pub if_weaken : {A : Type 0} (P Q : A → Type 0) (o : Option A) → IfSome o P → ((a : A) → P a → Q a) → IfSome o Q
if_weaken P Q None h k = tt
if_weaken P Q (Some a) h k = k a h

pub any : {A : Type 0} (o : Option A) → IfSome o (λ a. Unit {0})
any None = tt
any (Some a) = tt

-- what a step keeps of buffer y, and the roots after it
record After (root : ℕ → ℕ) (y : ℕ) (s t : State) : Type 0 where
  is_kept : IsKept y s t
  roots : HasRoots root t.scene

module _ (root : ℕ → ℕ) (scene : Scene) (h : HasRoots root scene) where
  pub root_of : (x : ℕ) → IfSome (scene.views x) (λ seen. seen.buffer ≡ root x)
  root_of x = if_weaken (λ seen. scene.views x ≡ Some seen) _ (scene.views x) (here (scene.views x)) (h x)

  pub place_root : (x : ℕ) (is : List Control) → IfSome (place scene x is) (λ p. p.buffer ≡ root x)
  place_root x is = if_then (λ seen. seen.buffer ≡ root x) _ (scene.views x) _ (root_of x) (λ seen e. if_map (λ at. Unit {0}) _ (cell_at seen.sides (numbers scene is)) _ (any (cell_at seen.sides (numbers scene is))) (λ at u. e))

  pub window_root : (x : ℕ) (coords : List Coord) → IfSome (window scene x coords) (λ seen. seen.buffer ≡ root x)
  window_root x coords = if_then (λ seen. seen.buffer ≡ root x) _ (scene.views x) _ (root_of x) (λ seen e. if_map (λ sides. Unit {0}) _ (narrowed scene seen.sides coords) _ (any (narrowed scene seen.sides coords)) (λ sides u. e))

  -- one name more
  pub more_roots : (w : ℕ) (to : Seen) (r : ℕ) → to.buffer ≡ r → (x : ℕ) (seen : Seen) → updated scene.views w (Some to) x ≡ Some seen → seen.buffer ≡ updated root w r x
  more_roots w to r e x seen is = go (x == w) is
    where
      go : (t : Bool) → cond t (Some to) (scene.views x) ≡ Some seen → seen.buffer ≡ cond t r (root x)
      go true same = ap (λ (z : Seen). z.buffer) (sym (some_injective to seen same)) ∙ e
      go false same = h x seen same

-- ---- calls

module _ (root : ℕ → ℕ) (scene : Scene) (roots : HasRoots root scene) (y : ℕ) where
  back_kept : (seen : Seen) (x : ℕ) (f : List ℤ → Value) (c : Cells) → (y == root x) ≡ false → seen.buffer ≡ root x → copy_back true (GivenView seen) f c y ≡ c y
  back_kept seen x f c h e = fun_ext (λ at. ap (λ t. cond t (value_or (index_of seen.sides at) f (c y at)) (c y at)) (ap (λ b. y == b) e ∙ h))

  one_kept : (t : Bool) (a : Argument) → (t && is_root root y a) ≡ false → IfSome (given scene a) (λ g. (f : List ℤ → Value) (c : Cells) → copy_back t g f c y ≡ c y)
  one_kept false a h = if_weaken (λ g. Unit {0}) _ (given scene a) (any (given scene a)) (λ g u f c. refl)
  one_kept true (ControlArg a) h = λ f c. refl
  one_kept true (ConditionArg a) h = λ f c. refl
  one_kept true (Whole x) h = if_map (λ seen. seen.buffer ≡ root x) _ (scene.views x) GivenView (root_of root scene roots x) (λ seen e f c. back_kept seen x f c h e)
  one_kept true (Window x coords) h = if_map (λ seen. seen.buffer ≡ root x) _ (window scene x coords) GivenView (window_root root scene roots x coords) (λ seen e f c. back_kept seen x f c h e)

  all_kept : (w : ℕ → Bool) (ps : List Param) (args : List Argument) → call_writes w root y ps args ≡ false → IfSome (all_given scene args) (λ gs. (d c : Cells) → copied_back w ps gs d c y ≡ c y)
  all_kept w [] args h = if_weaken (λ g. Unit {0}) _ (all_given scene args) (any (all_given scene args)) (λ g u f c. refl)
  all_kept w (p ∷ ps) [] h = λ d c. refl
  all_kept w (p ∷ ps) (a ∷ rest) h =
      let parts = or_parts (w p.binder.id && is_root root y a) (call_writes w root y ps rest) h in
      if_then (λ g. (f : List ℤ → Value) (c : Cells) → copy_back (w p.binder.id) g f c y ≡ c y) _ (given scene a) _ (one_kept (w p.binder.id) a parts.0) (λ g k.
      if_map (λ gs. (d c : Cells) → copied_back w ps gs d c y ≡ c y) _ (all_given scene rest) _ (all_kept w ps rest parts.1) (λ gs m d c. m d (copy_back (w p.binder.id) g (d p.binder.id) c) ∙ k (d p.binder.id) c))

-- ---- states

module _ (y : ℕ) where
  kept_self : (s : State) → IsKept y s s
  kept_self s = record { shape = refl; cells = refl }

  kept_on : (s t u : State) → IsKept y s t → IsKept y t u → IsKept y s u
  kept_on s t u h k = record { shape = k.shape ∙ h.shape; cells = k.cells ∙ h.cells }

  still : (s t : State) → IsKept y s t → IsSome (s.scene.buffers y) → IsSome (t.scene.buffers y)
  still s t h e = subst (λ o. IsSome o) (sym h.shape) e

  pub kept_some : (o : Option Shape) (f : List ℤ → Value) → IsSome o → kept o f ≡ f
  kept_some None f h = absurd (true≢false (sym h))
  kept_some (Some shape) f h = refl

  module _ (root : ℕ → ℕ) (s : State) (roots : HasRoots root s.scene) (there : IsSome (s.scene.buffers y)) where
    left_kept : (t : State) → t.cells y ≡ s.cells y → After root y s (left s t)
    left_kept t e = record {
      is_kept = record { shape = refl; cells = kept_some (s.scene.buffers y) (t.cells y) there ∙ e };
      roots = roots;
    }

    put_kept : (f : Value → Value) (p : Place) → (y == p.buffer) ≡ false → IfSome (put s f p) (After root y s)
    put_kept f p h = if_map (λ shape. Unit {0}) _ (s.scene.buffers p.buffer) _ (any (s.scene.buffers p.buffer)) (λ shape u. record {
      is_kept = record { shape = refl; cells = fun_ext (λ at. ap (λ t. cond t (stored_as shape.cell (f (s.cells y at))) (s.cells y at)) (not_there p y at h)) };
      roots = roots;
    })

    at_kept : (x : ℕ) (is : List Control) (o : Option Value) (f : Value → Value → Value) → (y == root x) ≡ false → IfSome (then_do (place s.scene x is) (λ p. then_do o (λ v. put s (f v) p))) (After root y s)
    at_kept x is o f h = if_then (λ p. p.buffer ≡ root x) _ (place s.scene x is) _ (place_root root s.scene roots x is) (λ p e.
        if_then (λ v. Unit {0}) _ o _ (any o) (λ v u. put_kept (f v) p (ap (λ b. y == b) e ∙ h)))

    after_self : After root y s s
    after_self = record { is_kept = kept_self s; roots = roots }

-- ---- loops

module _ (y : ℕ) (root : ℕ → ℕ) where
  -- a step that leaves the names alone
  abbrev Keeps : (State → Option State) → Type 0
  Keeps f = (s : State) → HasRoots root s.scene → IsSome (s.scene.buffers y) → IfSome (f s) (IsKept y s)

  abbrev KeepsAfter : (State → Option State) → Type 0
  KeepsAfter f = (s : State) → HasRoots root s.scene → IsSome (s.scene.buffers y) → IfSome (f s) (After root y s)

  scoped_keeps : (f : State → Option State) → Keeps f → KeepsAfter (scoped f)
  scoped_keeps f k s r l = if_map (IsKept y s) (After root y s) (f s) (left s) (k s r l) (λ t m. left_kept y root s r l t m.cells)

  turn_keeps : (i : ℕ) (body : State → Option State) (n : ℤ) → Keeps body → KeepsAfter (turn i body n)
  turn_keeps i body n k s r l = if_map (IsKept y (on_scene (with_control i n) s)) (After root y s) (body (on_scene (with_control i n) s)) (left s) (k (on_scene (with_control i n) s) r l) (λ t m. left_kept y root s r l t m.cells)

  turns_keep : (go : ℤ → State → Option State) → ((n : ℤ) → KeepsAfter (go n)) → (ns : List ℤ) → KeepsAfter (turns go ns)
  turns_keep go k [] s r l = after_self y root s r l
  turns_keep go k (n ∷ ns) s r l = if_then (After root y s) (After root y s) (go n s) (turns go ns) (k n s r l) (λ t m.
      if_weaken (After root y t) (After root y s) (turns go ns t) (turns_keep go k ns t m.roots (still y s t m.is_kept l)) (λ u w. record { is_kept = kept_on y s t u m.is_kept w.is_kept; roots = w.roots }))

  choose_keeps : (test : Bool) (a b : State → Option State) → Keeps a → Keeps b → Keeps (choose test a b)
  choose_keeps true a b h k = h
  choose_keeps false a b h k = k

-- ---- trees

module _ (world : World) (y : ℕ) where
  call_kept : (root : ℕ → ℕ) (s : State) (roots : HasRoots root s.scene) (o : Option Callee) (args : List Argument) → call_to_writes o root y args ≡ false → IfSome (call_to o args s) (After root y s)
  call_kept root s roots None args h = tt
  call_kept root s roots (Some callee) args h =
      if_where (After root y s) (keeps_apart callee s.scene args) (copied_call callee args s) (if_then (λ gs. (d c : Cells) → copied_back callee.writes callee.procedure.params gs d c y ≡ c y) (After root y s) (all_given s.scene args) _ (all_kept root s.scene roots y callee.writes callee.procedure.params args h) (λ gs k.
      if_then (λ inner. Unit {0}) (After root y s) (entered callee.procedure.params gs s) _ (any (entered callee.procedure.params gs s)) (λ inner u.
      if_map (λ done. Unit {0}) (After root y s) (run_asserted callee inner) (returned callee gs s) (any (run_asserted callee inner)) (λ done v. record {
        is_kept = record { shape = refl; cells = k done.cells s.cells };
        roots = roots;
      }))))

  mutual
    run_keeps : (b : Block) (root : ℕ → ℕ) → writes world root b y ≡ false → Keeps y root (run world b)
    run_keeps end root h = λ s r l. kept_self y s
    run_keeps (next a b) root h = λ s r l.
        let parts = or_parts (step_writes world root a y) (writes world (roots_after a root) b y) h in
        if_then (After (roots_after a root) y s) (IsKept y s) (step world a s) (run world b) (step_keeps a root parts.0 s r l) (λ t m.
        if_weaken (IsKept y t) (IsKept y s) (run world b t) (run_keeps b (roots_after a root) parts.1 t m.roots (still y s t m.is_kept l)) (λ u w. kept_on y s t u m.is_kept w))

    step_keeps : (a : Statement) (root : ℕ → ℕ) → step_writes world root a y ≡ false → (s : State) → HasRoots root s.scene → IsSome (s.scene.buffers y) → IfSome (step world a s) (After (roots_after a root) y s)
    step_keeps (Assign x is e) root h = λ s r l. at_kept y root s r l x is (value s e) (λ v old. v) h
    step_keeps (Reduce x is e) root h = λ s r l. at_kept y root s r l x is (value s e) (λ v old. on_two ◌+ℤ◌ old v) h
    step_keeps (Config f a) root h = λ s r l.
        if_then (λ n. Unit {0}) (After root y s) (argument_number s.scene a) _ (any (argument_number s.scene a)) (λ n u.
        let m : After root y s (on_scene (with_field f n) s) = record { is_kept = record { shape = refl; cells = refl }; roots = r } in if_where (After root y s) (suits (world.kinds f) n) (Some (on_scene (with_field f n) s)) m)
    step_keeps Pass root h = λ s r l. after_self y root s r l
    step_keeps (If c a b) root h = λ s r l.
        let parts = or_parts (writes world root a y) (writes world root b y) h in
        scoped_keeps y root (choose (holds s.scene c) (run world a) (run world b)) (choose_keeps y root (holds s.scene c) (run world a) (run world b) (run_keeps a root parts.0) (run_keeps b root parts.1)) s r l
    step_keeps (For i lo hi b) root h = λ s r l. turns_keep y root (turn i.id (run world b)) (λ n. turn_keeps y root i.id (run world b) n (run_keeps b root h)) (turns_of s.scene lo hi) s r l
    step_keeps (Alloc x cell dims memory) root h = λ s r l.
        let made : State = with_contents x.id (λ at. Undefined) (on_scene (with_buffer x.id (tensor cell (numbers s.scene dims))) s) in
        let m : After (updated root x.id x.id) y s made = record {
          is_kept = record { shape = updated_other s.scene.buffers x.id _ y h; cells = updated_other s.cells x.id _ y h };
          roots = more_roots root s.scene r x.id _ x.id refl;
        } in
        if_where (After (updated root x.id x.id) y s) (all_positive (numbers s.scene dims)) (Some made) m
    step_keeps (View w x coords) root h = λ s r l.
        if_then (λ seen. seen.buffer ≡ root x) (After (updated root w.id (root x)) y s) (window s.scene x coords) _ (window_root root s.scene r x coords) (λ seen e. record {
          is_kept = record { shape = refl; cells = refl };
          roots = more_roots root s.scene r w.id seen (root x) e;
        })
    step_keeps (Call k args) root h = λ s r l. call_kept root s r (world.callees k) args h

pub others_are_kept : OthersAreKept
others_are_kept world root b y s r l h = run_keeps world y b root h s r l
