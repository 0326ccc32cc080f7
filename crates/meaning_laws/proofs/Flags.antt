-- A condition in the place of a flag.
use Rattle.std.proofs.Common.{◌≡◌, ℕ, ℤ, ◌==◌, Bool, true, false, cond, ◌&&◌, ◌||◌, List, [], ◌∷◌, Option, Some, None, option_map, refl, sym, ap, ap₂, ◌∙◌, eqb-true}
use Rattle.exo_tree.specs.Tree.{Binder, Condition, True, False, Flag, FieldFlag, Lt, Le, Gt, Ge, Eq, And, Or, Argument, ControlArg, ConditionArg, Whole, Window, Statement, Assign, Reduce, Config, Pass, If, For, Alloc, View, Call, Block, end, next}
use Rattle.exo_meaning.specs.Scene.{Scene, then_do, where_true, is_set, holds}
use Rattle.exo_meaning.specs.State.{State, left, on_scene, with_control, with_field}
use Rattle.exo_meaning.specs.Calls.{given_all_apart, Callee, GivenNumber, given, all_given, truth, suits, entered, returned, run_asserted}
use Rattle.exo_meaning.specs.Run.{World, run, step, call_to, turn, turns, turns_of, choose, argument_number}
use Rattle.exo_meaning.proofs.Frame.{or_parts, updated_other}
use Rattle.meaning_laws.specs.Sound.{IsSameName, binds}
use Rattle.meaning_laws.specs.Facts.{is_plain_condition, condition_has}
use Rattle.meaning_laws.specs.Scoped.{has_binder, step_has_binder}
use Rattle.meaning_laws.specs.Flags.{in_condition, in_argument, in_arguments, in_statement, in_block, FlagLaw}
use Rattle.meaning_laws.proofs.Names.{if_gives, step_names, turn_names}
use Rattle.meaning_laws.proofs.Facts.{condition_same}

then_same : {A B : Type 0} (o : Option A) (f g : A → Option B) → ((a : A) → o ≡ Some a → f a ≡ g a) → then_do o f ≡ then_do o g
then_same None f g h = refl
then_same (Some a) f g h = h a refl

-- a binder in its own block is a binder
binds_binder : (a : Statement) (y : ℕ) → step_has_binder a y ≡ false → binds a y ≡ false
binds_binder (Assign x is e) y k = refl
binds_binder (Reduce x is e) y k = refl
binds_binder (Config f a) y k = refl
binds_binder Pass y k = refl
binds_binder (If c a b) y k = refl
binds_binder (For i lo hi b) y k = refl
binds_binder (Alloc x cell dims memory) y k = k
binds_binder (View v x coords) y k = k
binds_binder (Call n args) y k = refl

module _ (world : World) (x : ℕ) (c : Condition) (plain : is_plain_condition c ≡ true) where
  -- the flag is set where the condition holds
  abbrev Stands : Scene → Type 0
  Stands scene = is_set (scene.control x) ≡ holds scene c

  -- none of these names is bound
  abbrev Untouched : (ℕ → Bool) → Type 0
  Untouched bound = (bound x ≡ false) × ((y : ℕ) → condition_has c y ≡ true → bound y ≡ false)

  kept : (s t : State) (bound : ℕ → Bool) → Untouched bound → ((y : ℕ) → bound y ≡ false → IsSameName y s t) → Stands s.scene → Stands t.scene
  kept s t bound u same h = ap is_set (sym (same x u.0).control) ∙ h ∙ condition_same s.scene t.scene c plain (λ y k. (same y (u.1 y k)).control)

  module _ (scene : Scene) (h : Stands scene) where
    holds_same : (d : Condition) → holds scene d ≡ holds scene (in_condition x c d)
    holds_same True = refl
    holds_same False = refl
    holds_same (Flag y) = go (y == x) (eqb-true y x)
      where
        go : (t : Bool) → (t ≡ true → y ≡ x) → is_set (scene.control y) ≡ holds scene (cond t c (Flag y))
        go true same = ap (λ z. is_set (scene.control z)) (same refl) ∙ h
        go false same = refl
    holds_same (FieldFlag f) = refl
    holds_same (Lt a b) = refl
    holds_same (Le a b) = refl
    holds_same (Gt a b) = refl
    holds_same (Ge a b) = refl
    holds_same (Eq a b) = refl
    holds_same (And d e) = ap₂ ◌&&◌ (holds_same d) (holds_same e)
    holds_same (Or d e) = ap₂ ◌||◌ (holds_same d) (holds_same e)

    number_same : (a : Argument) → argument_number scene a ≡ argument_number scene (in_argument x c a)
    number_same (ControlArg a) = refl
    number_same (ConditionArg d) = ap (λ t. Some (truth t)) (holds_same d)
    number_same (Whole y) = refl
    number_same (Window y coords) = refl

    given_same : (a : Argument) → given scene a ≡ given scene (in_argument x c a)
    given_same (ControlArg a) = refl
    given_same (ConditionArg d) = ap (λ t. Some (GivenNumber (truth t))) (holds_same d)
    given_same (Whole y) = refl
    given_same (Window y coords) = refl

    all_given_same : (args : List Argument) → all_given scene args ≡ all_given scene (in_arguments x c args)
    all_given_same [] = refl
    all_given_same (a ∷ args) = ap₂ (λ o r. then_do o (λ y. option_map (λ ys. y ∷ ys) r)) (given_same a) (all_given_same args)

  call_same : (o : Option Callee) (args : List Argument) (s : State) → Stands s.scene → call_to o args s ≡ call_to o (in_arguments x c args) s
  call_same None args s h = refl
  call_same (Some callee) args s h = ap (λ o. where_true (given_all_apart callee.writes callee.procedure.params o) (then_do o (λ gs. then_do (entered callee.procedure.params gs s) (λ inner. option_map (returned callee gs s) (run_asserted callee inner))))) (all_given_same s.scene h args)

  choose_same : (t : Bool) (f g f' g' : State → Option State) (s : State) → f s ≡ f' s → g s ≡ g' s → choose t f g s ≡ choose t f' g' s
  choose_same true f g f' g' s h k = h
  choose_same false f g f' g' s h k = k

  turns_alike : (i : ℕ) (f g : State → Option State) → ((n : ℤ) (s : State) → Stands s.scene → f (on_scene (with_control i n) s) ≡ g (on_scene (with_control i n) s)) → (ns : List ℤ) (s : State) → Stands s.scene → turns (turn i f) ns s ≡ turns (turn i g) ns s
  turns_alike i f g k [] s h = refl
  turns_alike i f g k (n ∷ ns) s h =
      then_same (turn i f n s) (turns (turn i f) ns) (turns (turn i g) ns) (λ t e. turns_alike i f g k ns t (kept s t (λ y. false) (refl, λ y z. refl) (λ y z. if_gives (λ t. (y : ℕ) → IsSameName y s t) (turn i f n s) t (turn_names i f n s) e y) h))
      ∙ ap (λ o. then_do o (turns (turn i g) ns)) (ap (option_map (left s)) (k n s h))

  inside : (i : Binder) (n : ℤ) (s : State) → Untouched (λ y. y == i.id) → Stands s.scene → Stands (on_scene (with_control i.id n) s).scene
  inside i n s u h = kept s (on_scene (with_control i.id n) s) (λ y. y == i.id) u (λ y e. record { control = sym (updated_other s.scene.control i.id n y e); buffers = refl; views = refl }) h

  mutual
    run_same : (b : Block) → Untouched (has_binder b) → (s : State) → Stands s.scene → run world b s ≡ run world (in_block x c b) s
    run_same end u s h = refl
    run_same (next a b) u s h =
        let p = or_parts (step_has_binder a x) (has_binder b x) u.0 in
        let q = λ (y : ℕ) (k : condition_has c y ≡ true). or_parts (step_has_binder a y) (has_binder b y) (u.1 y k) in
        then_same (step world a s) (run world b) (run world (in_block x c b)) (λ t e. run_same b (p.1, λ y k. (q y k).1) t (kept s t (binds a) (binds_binder a x p.0, λ y k. binds_binder a y (q y k).0) (λ y z. if_gives (λ t. (y : ℕ) → binds a y ≡ false → IsSameName y s t) (step world a s) t (step_names world a s) e y z) h))
        ∙ ap (λ o. then_do o (run world (in_block x c b))) (step_same a (p.0, λ y k. (q y k).0) s h)

    step_same : (a : Statement) → Untouched (step_has_binder a) → (s : State) → Stands s.scene → step world a s ≡ step world (in_statement x c a) s
    step_same (Assign y is e) u s h = refl
    step_same (Reduce y is e) u s h = refl
    step_same (Config f a) u s h = ap (λ o. then_do o (λ n. where_true (suits (world.kinds f) n) (Some (on_scene (with_field f n) s)))) (number_same s.scene h a)
    step_same Pass u s h = refl
    step_same (If d a b) u s h =
        let p = or_parts (has_binder a x) (has_binder b x) u.0 in
        let q = λ (y : ℕ) (k : condition_has c y ≡ true). or_parts (has_binder a y) (has_binder b y) (u.1 y k) in
        ap (option_map (left s)) (choose_same (holds s.scene d) (run world a) (run world b) (run world (in_block x c a)) (run world (in_block x c b)) s (run_same a (p.0, λ y k. (q y k).0) s h) (run_same b (p.1, λ y k. (q y k).1) s h) ∙ ap (λ t. choose t (run world (in_block x c a)) (run world (in_block x c b)) s) (holds_same s.scene h d))
    step_same (For i lo hi b) u s h =
        let p = or_parts (x == i.id) (has_binder b x) u.0 in
        let q = λ (y : ℕ) (k : condition_has c y ≡ true). or_parts (y == i.id) (has_binder b y) (u.1 y k) in
        turns_alike i.id (run world b) (run world (in_block x c b)) (λ n t k. run_same b (p.1, λ y k. (q y k).1) (on_scene (with_control i.id n) t) (inside i n t (p.0, λ y k. (q y k).0) k)) (turns_of s.scene lo hi) s h
    step_same (Alloc y cell dims memory) u s h = refl
    step_same (View w y coords) u s h = refl
    step_same (Call k args) u s h = call_same (world.callees k) args s h

pub flag_law : FlagLaw
flag_law world x c b s plain own variables h = run_same world x c plain b (own, variables) s h
