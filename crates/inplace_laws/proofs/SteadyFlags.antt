-- A condition, which may hold strides, in the place of a flag.
use Rattle.std.proofs.Common.{◌≡◌, ℕ, ℤ, ◌==◌, Bool, true, false, cond, ◌&&◌, ◌||◌, List, [], ◌∷◌, Option, Some, None, option_map, refl, sym, ap, ap₂, ◌∙◌, eqb-true}
use Rattle.exo_tree.specs.Tree.{Binder, Condition, True, False, Flag, FieldFlag, Lt, Le, Gt, Ge, Eq, And, Or, Argument, ControlArg, ConditionArg, Whole, Window, Statement, Assign, Reduce, Config, Pass, If, For, Alloc, View, Call, Block, end, next}
use Rattle.exo_meaning.specs.Scene.{Scene, then_do, where_true, is_set, holds}
use Rattle.exo_meaning.specs.State.{State, left, on_scene, with_control, with_field}
use Rattle.exo_meaning.specs.Calls.{given_all_apart, Callee, GivenNumber, given, all_given, truth, suits, entered, returned, run_asserted}
use Rattle.exo_meaning.specs.Run.{World, run, step, call_to, turn, turns, turns_of, choose, argument_number}
use Rattle.exo_meaning.proofs.Frame.{or_parts, updated_other}
use Rattle.meaning_laws.specs.Sound.{IsSameName, binds}
use Rattle.meaning_laws.specs.Facts.{condition_has}
use Rattle.meaning_laws.specs.Scoped.{has_binder, step_has_binder}
use Rattle.meaning_laws.specs.Flags.{in_condition, in_argument, in_arguments, in_statement, in_block}
use Rattle.meaning_laws.proofs.Names.{if_gives, step_names, turn_names}
use Rattle.meaning_laws.proofs.Facts.{or_left, or_right}
use Rattle.meaning_laws.proofs.Substitute.{and_parts}
use Rattle.std.proofs.Common.{true≢false, eq-eqb, int_lt, int_le}
use Rattle.std.specs.Ordering.{int_eq}
use Rattle.exo_tree.specs.Tree.{Control}
use Rattle.exo_meaning.specs.Scene.{number, stride_at}
use Rattle.meaning_laws.specs.Substitute.{has_variable}
use Rattle.inplace_laws.specs.Steady.{is_steady, has_stride}
use Rattle.inplace_laws.specs.SteadyFlags.{is_steady_condition, condition_has_stride, ConditionKeeps}
use Rattle.inplace_laws.specs.SteadyFlags.{SteadyFlagLaw}
use Rattle.inplace_laws.proofs.Steady.{strides_same, steady_same}

-- a steady condition depends on its variables and strides alone
module _ (s t : Scene) where
  abbrev Same : (ℕ → Bool) → Type 0
  Same has = (x : ℕ) → has x ≡ true → s.control x ≡ t.control x

  abbrev SameStrides : (ℕ → Bool) → Type 0
  SameStrides has = (x : ℕ) → has x ≡ true → (k : ℕ) → stride_at s (s.views x) k ≡ stride_at t (t.views x) k

  sides_same : {A : Type 0} (f : ℤ → ℤ → A) (a b : Control) → (is_steady a && is_steady b) ≡ true
      → Same (λ x. has_variable a x || has_variable b x)
      → SameStrides (λ x. has_stride a x || has_stride b x)
      → f (number s a) (number s b) ≡ f (number t a) (number t b)
  sides_same f a b p h l =
      let q = and_parts (is_steady a) (is_steady b) p in
      ap₂ f (steady_same a s t q.0 (λ x k. h x (or_left (has_variable a x) (has_variable b x) k))
      (λ x k. l x (or_left (has_stride a x) (has_stride b x) k)))
      (steady_same b s t q.1 (λ x k. h x (or_right (has_variable a x) (has_variable b x) k))
      (λ x k. l x (or_right (has_stride a x) (has_stride b x) k)))

  pub condition_steady : (c : Condition) → is_steady_condition c ≡ true → Same (condition_has c)
      → SameStrides (condition_has_stride c) → holds s c ≡ holds t c
  condition_steady True p h l = refl
  condition_steady False p h l = refl
  condition_steady (Flag x) p h l = ap is_set (h x (eq-eqb x x refl))
  condition_steady (FieldFlag f) p h l = absurd (true≢false (sym p))
  condition_steady (Lt a b) p h l = sides_same int_lt a b p h l
  condition_steady (Le a b) p h l = sides_same int_le a b p h l
  condition_steady (Gt a b) p h l = sides_same (λ m n. int_lt n m) a b p h l
  condition_steady (Ge a b) p h l = sides_same (λ m n. int_le n m) a b p h l
  condition_steady (Eq a b) p h l = sides_same int_eq a b p h l
  condition_steady (And c d) p h l =
      let q = and_parts (is_steady_condition c) (is_steady_condition d) p in
      ap₂ ◌&&◌ (condition_steady c q.0
      (λ x k. h x (or_left (condition_has c x) (condition_has d x) k))
      (λ x k. l x (or_left (condition_has_stride c x) (condition_has_stride d x) k)))
      (condition_steady d q.1
      (λ x k. h x (or_right (condition_has c x) (condition_has d x) k))
      (λ x k. l x (or_right (condition_has_stride c x) (condition_has_stride d x) k)))
  condition_steady (Or c d) p h l =
      let q = and_parts (is_steady_condition c) (is_steady_condition d) p in
      ap₂ ◌||◌ (condition_steady c q.0
      (λ x k. h x (or_left (condition_has c x) (condition_has d x) k))
      (λ x k. l x (or_left (condition_has_stride c x) (condition_has_stride d x) k)))
      (condition_steady d q.1
      (λ x k. h x (or_right (condition_has c x) (condition_has d x) k))
      (λ x k. l x (or_right (condition_has_stride c x) (condition_has_stride d x) k)))

then_same : {A B : Type 0} (o : Option A) (f g : A → Option B) → ((a : A) → o ≡ Some a → f a ≡ g a) → then_do o f ≡ then_do o g
then_same None f g h = refl
then_same (Some a) f g h = h a refl

-- a binder in its own block is a binder
binds_binder : (a : Statement) (y : ℕ) → step_has_binder a y ≡ false → binds a y ≡ false
binds_binder (Assign x is e) y k = refl
binds_binder (Reduce x is e) y k = refl
binds_binder (Config f a) y k = refl
binds_binder Pass y k = refl
binds_binder (If c a b) y k = refl
binds_binder (For i lo hi b) y k = refl
binds_binder (Alloc x cell dims memory) y k = k
binds_binder (View v x coords) y k = k
binds_binder (Call n args) y k = refl

module _ (world : World) (x : ℕ) (c : Condition) (steady : is_steady_condition c ≡ true) where
  -- the flag is set where the condition holds
  abbrev Stands : Scene → Type 0
  Stands scene = is_set (scene.control x) ≡ holds scene c

  -- none of these names is bound, nor is a buffer whose stride stands in the condition
  abbrev Untouched : (ℕ → Bool) → State → Type 0
  Untouched bound s = (bound x ≡ false) × ((y : ℕ) → condition_has c y ≡ true → bound y ≡ false) × ConditionKeeps c bound s

  kept : (s t : State) (bound : ℕ → Bool) → Untouched bound s → ((y : ℕ) → bound y ≡ false → IsSameName y s t) → Stands s.scene → Stands t.scene
  kept s t bound u same h =
      ap is_set (sym (same x u.0).control) ∙ h
      ∙ condition_steady s.scene t.scene c steady (λ y k. (same y (u.1 y k)).control)
      (λ y k l. strides_same y s.scene t.scene (same y (u.2 y k).0).views
      (λ seen r. (same seen.buffer ((u.2 y k).1 seen r)).buffers) l)

  untouched_on : (own : ℕ → Bool) (s t : State)
      → ((y : ℕ) → condition_has_stride c y ≡ true → s.scene.views y ≡ t.scene.views y)
      → Untouched own s → Untouched own t
  untouched_on own s t same u =
      (u.0, u.1, λ y k. ((u.2 y k).0, λ seen r. (u.2 y k).1 seen (same y k ∙ r)))

  parts : (s : State) (f g : ℕ → Bool) → Untouched (λ y. f y || g y) s
      → Untouched f s × Untouched g s
  parts s f g u = (
    (
      (or_parts (f x) (g x) u.0).0,
      λ y k. (or_parts (f y) (g y) (u.1 y k)).0,
      λ y k. (
        (or_parts (f y) (g y) (u.2 y k).0).0,
        λ seen r. (or_parts (f seen.buffer) (g seen.buffer) ((u.2 y k).1 seen r)).0,
      ),
    ),
    (
      (or_parts (f x) (g x) u.0).1,
      λ y k. (or_parts (f y) (g y) (u.1 y k)).1,
      λ y k. (
        (or_parts (f y) (g y) (u.2 y k).0).1,
        λ seen r. (or_parts (f seen.buffer) (g seen.buffer) ((u.2 y k).1 seen r)).1,
      ),
    ),
  )

  nothing : (s : State) → Untouched (λ y. false) s
  nothing s = (refl, λ y k. refl, λ y k. (refl, λ seen r. refl))

  module _ (scene : Scene) (h : Stands scene) where
    holds_same : (d : Condition) → holds scene d ≡ holds scene (in_condition x c d)
    holds_same True = refl
    holds_same False = refl
    holds_same (Flag y) = go (y == x) (eqb-true y x)
      where
        go : (t : Bool) → (t ≡ true → y ≡ x) → is_set (scene.control y) ≡ holds scene (cond t c (Flag y))
        go true same = ap (λ z. is_set (scene.control z)) (same refl) ∙ h
        go false same = refl
    holds_same (FieldFlag f) = refl
    holds_same (Lt a b) = refl
    holds_same (Le a b) = refl
    holds_same (Gt a b) = refl
    holds_same (Ge a b) = refl
    holds_same (Eq a b) = refl
    holds_same (And d e) = ap₂ ◌&&◌ (holds_same d) (holds_same e)
    holds_same (Or d e) = ap₂ ◌||◌ (holds_same d) (holds_same e)

    number_same : (a : Argument) → argument_number scene a ≡ argument_number scene (in_argument x c a)
    number_same (ControlArg a) = refl
    number_same (ConditionArg d) = ap (λ t. Some (truth t)) (holds_same d)
    number_same (Whole y) = refl
    number_same (Window y coords) = refl

    given_same : (a : Argument) → given scene a ≡ given scene (in_argument x c a)
    given_same (ControlArg a) = refl
    given_same (ConditionArg d) = ap (λ t. Some (GivenNumber (truth t))) (holds_same d)
    given_same (Whole y) = refl
    given_same (Window y coords) = refl

    all_given_same : (args : List Argument) → all_given scene args ≡ all_given scene (in_arguments x c args)
    all_given_same [] = refl
    all_given_same (a ∷ args) = ap₂ (λ o r. then_do o (λ y. option_map (λ ys. y ∷ ys) r)) (given_same a) (all_given_same args)

  call_same : (o : Option Callee) (args : List Argument) (s : State) → Stands s.scene → call_to o args s ≡ call_to o (in_arguments x c args) s
  call_same None args s h = refl
  call_same (Some callee) args s h = ap (λ o. where_true (given_all_apart callee.writes callee.procedure.params o) (then_do o (λ gs. then_do (entered callee.procedure.params gs s) (λ inner. option_map (returned callee gs s) (run_asserted callee inner))))) (all_given_same s.scene h args)

  choose_same : (t : Bool) (f g f' g' : State → Option State) (s : State) → f s ≡ f' s → g s ≡ g' s → choose t f g s ≡ choose t f' g' s
  choose_same true f g f' g' s h k = h
  choose_same false f g f' g' s h k = k

  turns_alike : (i : ℕ) (own : ℕ → Bool) (f g : State → Option State) → ((n : ℤ) (s : State) → Untouched own s → Stands s.scene → f (on_scene (with_control i n) s) ≡ g (on_scene (with_control i n) s)) → (ns : List ℤ) (s : State) → Untouched own s → Stands s.scene → turns (turn i f) ns s ≡ turns (turn i g) ns s
  turns_alike i own f g k [] s u h = refl
  turns_alike i own f g k (n ∷ ns) s u h =
      then_same (turn i f n s) (turns (turn i f) ns) (turns (turn i g) ns) (λ t e.
      let same = if_gives (λ t. (y : ℕ) → IsSameName y s t) (turn i f n s) t (turn_names i f n s) e in
      turns_alike i own f g k ns t (untouched_on own s t (λ y l. (same y).views) u) (kept s t (λ y. false) (nothing s) (λ y z. same y) h))
      ∙ ap (λ o. then_do o (turns (turn i g) ns)) (ap (option_map (left s)) (k n s u h))

  inside : (i : Binder) (n : ℤ) (s : State) → Untouched (λ y. y == i.id) s → Stands s.scene → Stands (on_scene (with_control i.id n) s).scene
  inside i n s u h =
      ap is_set (updated_other s.scene.control i.id n x u.0) ∙ h
      ∙ condition_steady s.scene (on_scene (with_control i.id n) s).scene c steady
      (λ y k. sym (updated_other s.scene.control i.id n y (u.1 y k)))
      (λ y k l. strides_same y s.scene (on_scene (with_control i.id n) s).scene refl
      (λ seen r. refl) l)

  below : (a : Statement) (s : State) → Untouched (step_has_binder a) s → Untouched (binds a) s
  below a s u = (
    binds_binder a x u.0,
    λ y k. binds_binder a y (u.1 y k),
    λ y k. (binds_binder a y (u.2 y k).0, λ seen r. binds_binder a seen.buffer ((u.2 y k).1 seen r)),
  )

  mutual
    run_same : (b : Block) (s : State) → Untouched (has_binder b) s → Stands s.scene → run world b s ≡ run world (in_block x c b) s
    run_same end s u h = refl
    run_same (next a b) s u h =
        let p = parts s (step_has_binder a) (has_binder b) u in
        let low = below a s p.0 in
        then_same (step world a s) (run world b) (run world (in_block x c b)) (λ t e.
        let same = if_gives (λ t. (y : ℕ) → binds a y ≡ false → IsSameName y s t) (step world a s) t (step_names world a s) e in
        run_same b t (untouched_on (has_binder b) s t (λ y l. (same y (low.2 y l).0).views) p.1) (kept s t (binds a) low same h))
        ∙ ap (λ o. then_do o (run world (in_block x c b))) (step_same a s p.0 h)

    step_same : (a : Statement) (s : State) → Untouched (step_has_binder a) s → Stands s.scene → step world a s ≡ step world (in_statement x c a) s
    step_same (Assign y is e) s u h = refl
    step_same (Reduce y is e) s u h = refl
    step_same (Config f a) s u h = ap (λ o. then_do o (λ n. where_true (suits (world.kinds f) n) (Some (on_scene (with_field f n) s)))) (number_same s.scene h a)
    step_same Pass s u h = refl
    step_same (If d a b) s u h =
        let p = parts s (has_binder a) (has_binder b) u in
        ap (option_map (left s)) (choose_same (holds s.scene d) (run world a) (run world b) (run world (in_block x c a)) (run world (in_block x c b)) s (run_same a s p.0 h) (run_same b s p.1 h) ∙ ap (λ t. choose t (run world (in_block x c a)) (run world (in_block x c b)) s) (holds_same s.scene h d))
    step_same (For i lo hi b) s u h =
        let p = parts s (λ y. y == i.id) (has_binder b) u in
        turns_alike i.id (λ y. (y == i.id) || has_binder b y) (run world b) (run world (in_block x c b)) (λ n t v k.
        let q = parts t (λ y. y == i.id) (has_binder b) v in
        run_same b (on_scene (with_control i.id n) t) q.1 (inside i n t q.0 k)) (turns_of s.scene lo hi) s u h
    step_same (Alloc y cell dims memory) s u h = refl
    step_same (View w y coords) s u h = refl
    step_same (Call k args) s u h = call_same (world.callees k) args s h

pub steady_flag_law : SteadyFlagLaw
steady_flag_law world x c b s steady own variables strides h =
    run_same world x c steady b s (own, variables, strides) h
