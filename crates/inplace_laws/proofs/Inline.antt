-- The operator inline.
use Rattle.exo_meaning.proofs.Windows.{where_parts}
use Rattle.meaning_laws.specs.Scoped.{has_binder, step_has_binder}
use Rattle.std.proofs.Common.{◌≡◌, ℕ, ℤ, ◌==◌, Bool, true, false, cond, ◌||◌, List, [], ◌∷◌, Option, Some, None, IsSome, option_map, refl, sym, ap, ap₂, ◌∙◌, subst, true≢false, eqb-true, eq-eqb}
use Rattle.std.proofs.Math.Path.{fun_ext}
use Rattle.exo_tree.specs.Tree.{Control, Condition, Argument, ControlArg, ConditionArg, Whole, Window, ParamKind, ControlParam, TensorParam, WindowParam, Param, Statement, Assign, Reduce, Config, Pass, If, For, Alloc, View, Call, Block, end, next, Procedure}
use Rattle.exo_meaning.specs.Value.{Value, Undefined, IsRefinedBy}
use Rattle.meaning_laws.proofs.Sound.{run_sound}
use Rattle.exo_meaning.specs.Scene.{is_set, Shape, Seen, then_do, number, holds, updated, where_true, window}
use Rattle.exo_meaning.specs.State.{State, left, kept, on_scene, with_control, with_field}
use Rattle.exo_meaning.specs.Calls.{keeps_apart, copied_call, all_apart, given_all_apart, truth, Callee, Given, GivenNumber, GivenView, given, all_given, entered, returned, run_asserted, all_hold, suits}
use Rattle.exo_meaning.specs.Run.{World, run, step, turn, turns, turns_of, choose, call_to, callee_in, argument_number}
use Rattle.exo_meaning.specs.Run.{unit_world}
use Rattle.exo_meaning.specs.Inputs.{is_buffer_of}
use Rattle.exo_meaning.specs.Unseen.{SameBut, in_block as mentions}
use Rattle.exo_meaning.proofs.Frame.{or_parts, updated_other}
use Rattle.exo_meaning.proofs.Ignored.{run_alike}
use Rattle.exo_tree.specs.Context.{fill}
use Rattle.meaning_laws.specs.Context.{RefinedBut}
use Rattle.meaning_laws.specs.Sound.{IsSound, IsUnbound, IsSameName, binds}
use Rattle.meaning_laws.specs.Substitute.{catches, in_block as with_number, bound as bound_number}
use Rattle.exo_meaning.proofs.Nested.{then_some}
use Rattle.meaning_laws.proofs.Parts.{some_injective, then_gives, map_gives, both_some}
use Rattle.meaning_laws.proofs.Names.{if_gives, step_names, name_same, name_on}
use Rattle.meaning_laws.proofs.Refined.{refined_same}
use Rattle.meaning_laws.proofs.Replace.{context_law, where_gives}
use Rattle.meaning_laws.proofs.Copies.{place_sound, place_unbound}
use Rattle.inplace_laws.proofs.SteadyFlags.{condition_steady, steady_flag_law}
use Rattle.inplace_laws.specs.Windows.{root_in, view_of, in_block as with_window}
use Rattle.inplace_laws.specs.CallInPlace.{bind_control, bind_controls, bind_view, bind_views, bound, AreDistinct, MayRunInPlace}
use Rattle.inplace_laws.specs.Inline.{IsWider, WiderLaw, with_argument, inlined, is_view, TakesWindow, Takes, TakesAll, is_param, not_own, InlineRefines, ReplaceRefines}
use Rattle.inplace_laws.specs.Steady.{is_steady, KeepsStrides}
use Rattle.inplace_laws.proofs.Steady.{strides_same, steady_same, steady_substitution}
use Rattle.meaning_laws.specs.Flags.{in_block as with_condition}
use Rattle.exo_tree.specs.Substitution.{in_statement as number_in_statement}
use Rattle.meaning_laws.specs.Flags.{in_statement as condition_in_statement}
use Rattle.inplace_laws.specs.Windows.{in_statement as window_in_statement}
use Rattle.inplace_laws.proofs.Windows.{Goes, goes_same, goes_then, goes_map, window_law, view_kept}
use Rattle.inplace_laws.proofs.CallInPlace.{call_in_place}

-- ---- a wider world

module _ (w v : World) (wider : IsWider w v) where
  abbrev Wide : (State → Option State) → (State → Option State) → Type 0
  Wide f g = (s : State) → Goes (f s) (g s)

  turns_wide : (i : ℕ) (f g : State → Option State) (ns : List ℤ) → Wide f g → Wide (turns (turn i f) ns) (turns (turn i g) ns)
  turns_wide i f g [] k s = refl
  turns_wide i f g (n ∷ ns) k s = goes_then (turn i f n s) (turn i g n s) (turns (turn i f) ns) (turns (turn i g) ns) (goes_map (f (on_scene (with_control i n) s)) (g (on_scene (with_control i n) s)) (left s) (k (on_scene (with_control i n) s))) (λ u e. turns_wide i f g ns k u)

  choose_wide : (t : Bool) (f f' g g' : State → Option State) → Wide f f' → Wide g g' → Wide (choose t f g) (choose t f' g')
  choose_wide true f f' g g' h k = h
  choose_wide false f f' g g' h k = k

  call_wide : (k : ℕ) (o : Option Callee) → w.callees k ≡ o → (args : List Argument) → Wide (call_to o args) (call_to (v.callees k) args)
  call_wide k None e args s = tt
  call_wide k (Some c) e args s = subst (λ o. Goes (call_to (Some c) args s) (call_to o args s)) (sym (wider.callees k c e)) (goes_same (call_to (Some c) args s))

  mutual
    run_wide : (b : Block) → Wide (run w b) (run v b)
    run_wide end s = refl
    run_wide (next a b) s = goes_then (step w a s) (step v a s) (run w b) (run v b) (step_wide a s) (λ u e. run_wide b u)

    step_wide : (a : Statement) → Wide (step w a) (step v a)
    step_wide (Assign x is e) s = goes_same (step w (Assign x is e) s)
    step_wide (Reduce x is e) s = goes_same (step w (Reduce x is e) s)
    step_wide (Config f a) s = subst (λ z. Goes (step w (Config f a) s) (then_do (argument_number s.scene a) (λ n. where_true (suits z n) (Some (on_scene (with_field f n) s))))) (wider.kinds f) (goes_same (step w (Config f a) s))
    step_wide Pass s = refl
    step_wide (If c a b) s = goes_map (choose (holds s.scene c) (run w a) (run w b) s) (choose (holds s.scene c) (run v a) (run v b) s) (left s) (choose_wide (holds s.scene c) (run w a) (run v a) (run w b) (run v b) (run_wide a) (run_wide b) s)
    step_wide (For i lo hi b) s = turns_wide i.id (run w b) (run v b) (turns_of s.scene lo hi) (run_wide b) s
    step_wide (Alloc x cell dims memory) s = goes_same (step w (Alloc x cell dims memory) s)
    step_wide (View x y coords) s = goes_same (step w (View x y coords) s)
    step_wide (Call k args) s = call_wide k (w.callees k) refl args s

pub wider_law : WiderLaw
wider_law w v b s wider = run_wide w v wider b s

-- ---- what the parameters stand for

views_else : (ps : List Param) (gs : List Given) (views : ℕ → Option Seen) (x : ℕ) → is_buffer_of x ps ≡ false → bind_views ps gs views x ≡ views x
views_else [] gs views x k = refl
views_else (p ∷ ps) [] views x k = refl
views_else (p ∷ ps) (g ∷ gs) views x k =
    let q = or_parts (x == p.binder.id) (is_buffer_of x ps) k in
    views_else ps gs (bind_view p.binder.id p.kind g views) x q.1 ∙ one p.kind g q.0
  where
    one : (kind : ParamKind) (g : Given) → (x == p.binder.id) ≡ false → bind_view p.binder.id kind g views x ≡ views x
    one (ControlParam kind) g e = refl
    one (TensorParam cell dims memory) (GivenNumber n) e = refl
    one (TensorParam cell dims memory) (GivenView z) e = updated_other views p.binder.id (Some z) x e
    one (WindowParam cell dims memory) (GivenNumber n) e = refl
    one (WindowParam cell dims memory) (GivenView z) e = updated_other views p.binder.id (Some z) x e

controls_else : (ps : List Param) (gs : List Given) (control : ℕ → ℤ) (x : ℕ) → is_buffer_of x ps ≡ false → bind_controls ps gs control x ≡ control x
controls_else [] gs control x k = refl
controls_else (p ∷ ps) [] control x k = refl
controls_else (p ∷ ps) (g ∷ gs) control x k =
    let q = or_parts (x == p.binder.id) (is_buffer_of x ps) k in
    controls_else ps gs (bind_control p.binder.id p.kind g control) x q.1 ∙ one p.kind g q.0
  where
    one : (kind : ParamKind) (g : Given) → (x == p.binder.id) ≡ false → bind_control p.binder.id kind g control x ≡ control x
    one (ControlParam kind) (GivenNumber n) e = updated_other control p.binder.id n x e
    one (ControlParam kind) (GivenView z) e = refl
    one (TensorParam cell dims memory) g e = refl
    one (WindowParam cell dims memory) g e = refl

updated_here : {A : Type 0} (f : ℕ → A) (x : ℕ) (v : A) → updated f x v x ≡ v
updated_here f x v = ap (λ t. cond t v (f x)) (eq-eqb x x refl)

-- the cells and fields are the same
record SameEnd (t u : State) : Type 0 where
  cells : t.cells ≡ u.cells
  fields : t.scene.fields ≡ u.scene.fields

-- each parameter has its argument's value
module _ (v : State) where
  abbrev Stands : ℕ → ParamKind → Given → Type 0
  Stands x (ControlParam kind) (GivenNumber n) = v.scene.control x ≡ n
  Stands x (ControlParam kind) (GivenView z) = Unit {0}
  Stands x (TensorParam cell dims memory) (GivenNumber n) = Unit {0}
  Stands x (TensorParam cell dims memory) (GivenView z) = v.scene.views x ≡ Some z
  Stands x (WindowParam cell dims memory) (GivenNumber n) = Unit {0}
  Stands x (WindowParam cell dims memory) (GivenView z) = v.scene.views x ≡ Some z

  abbrev AllStand : List Param → List Given → Type 0
  AllStand [] gs = Unit {0}
  AllStand (p ∷ ps) [] = Unit {0}
  AllStand (p ∷ ps) (g ∷ gs) = Stands p.binder.id p.kind g × AllStand ps gs

-- ---- arguments bind nothing

module _ (x : ℕ) (e : Control) where
  mutual
    number_binders : (b : Block) (y : ℕ) → has_binder (with_number x e b) y ≡ has_binder b y
    number_binders end y = refl
    number_binders (next a b) y = ap₂ ◌||◌ (number_binders_of a y) (number_binders b y)

    number_binders_of : (a : Statement) (y : ℕ)
        → step_has_binder (number_in_statement x e a) y ≡ step_has_binder a y
    number_binders_of (If c a b) y = ap₂ ◌||◌ (number_binders a y) (number_binders b y)
    number_binders_of (For i lo hi b) y = ap (λ t. (y == i.id) || t) (number_binders b y)
    number_binders_of a y = refl

module _ (x : ℕ) (c : Condition) where
  mutual
    condition_binders : (b : Block) (y : ℕ)
        → has_binder (with_condition x c b) y ≡ has_binder b y
    condition_binders end y = refl
    condition_binders (next a b) y = ap₂ ◌||◌ (condition_binders_of a y) (condition_binders b y)

    condition_binders_of : (a : Statement) (y : ℕ)
        → step_has_binder (condition_in_statement x c a) y ≡ step_has_binder a y
    condition_binders_of (If d a b) y = ap₂ ◌||◌ (condition_binders a y) (condition_binders b y)
    condition_binders_of (For i lo hi b) y = ap (λ t. (y == i.id) || t) (condition_binders b y)
    condition_binders_of a y = refl

module _ (x : ℕ) (w : Argument) where
  mutual
    window_binders : (b : Block) (y : ℕ) → has_binder (with_window x w b) y ≡ has_binder b y
    window_binders end y = refl
    window_binders (next a b) y = ap₂ ◌||◌ (window_binders_of a y) (window_binders b y)

    window_binders_of : (a : Statement) (y : ℕ)
        → step_has_binder (window_in_statement x w a) y ≡ step_has_binder a y
    window_binders_of (If c a b) y = ap₂ ◌||◌ (window_binders a y) (window_binders b y)
    window_binders_of (For i lo hi b) y = ap (λ t. (y == i.id) || t) (window_binders b y)
    window_binders_of a y = refl

argument_binders : (x : ℕ) (kind : ParamKind) (a : Argument) (b : Block) (y : ℕ)
    → has_binder (with_argument x kind a b) y ≡ has_binder b y
argument_binders x (ControlParam kind) (ControlArg e) b y = number_binders x e b y
argument_binders x (ControlParam kind) (ConditionArg c) b y = condition_binders x c b y
argument_binders x (ControlParam kind) (Whole z) b y = refl
argument_binders x (ControlParam kind) (Window z cs) b y = refl
argument_binders x (TensorParam cell dims memory) a b y = window_binders x a b y
argument_binders x (WindowParam cell dims memory) a b y = window_binders x a b y

inlined_binders : (ps : List Param) (args : List Argument) (b : Block) (y : ℕ)
    → has_binder (inlined ps args b) y ≡ has_binder b y
inlined_binders [] args b y = refl
inlined_binders (p ∷ ps) [] b y = refl
inlined_binders (p ∷ ps) (a ∷ args) b y =
    inlined_binders ps args (with_argument p.binder.id p.kind a b) y
    ∙ argument_binders p.binder.id p.kind a b y

module _ (world : World) (params : ℕ → Bool) (s v : State) (control_else : (x : ℕ) → params x ≡ false → v.scene.control x ≡ s.scene.control x) (view_else : (x : ℕ) → params x ≡ false → v.scene.views x ≡ s.scene.views x) (same_buffers : v.scene.buffers ≡ s.scene.buffers) where
  -- the block binds no buffer that another name sees
  abbrev Clear : Block → Type 0
  Clear b = (y : ℕ) (z : Seen) → params y ≡ false → v.scene.views y ≡ Some z → has_binder b z.buffer ≡ false

  given_view : (a : Argument) (g : Given) → is_view a ≡ true → given s.scene a ≡ Some g → (z : Seen) × (g ≡ GivenView z) × (view_of s.scene a ≡ Some z)
  given_view (ControlArg e) g i k = absurd (true≢false (sym i))
  given_view (ConditionArg c) g i k = absurd (true≢false (sym i))
  given_view (Whole y) g i k = let m = map_gives (s.scene.views y) GivenView g k in (m.0, sym m.2, m.1)
  given_view (Window y coords) g i k = let m = map_gives (window s.scene y coords) GivenView g k in (m.0, sym m.2, m.1)

  one_window : (x : ℕ) (a : Argument) (z : Seen) (b : Block) (t : State) → TakesWindow params x a b → view_of s.scene a ≡ Some z → v.scene.views x ≡ Some z → run world b v ≡ Some t → run world (with_window x a b) v ≡ Some t
  one_window x a z b t (is, plain, root, names, own, unbound) there here r = if_gives (λ u. run world (with_window x a b) v ≡ Some u) (run world b v) t (window_law world x a b v (record {
    seen = z;
    name = here;
    plain = plain;
    own = own;
    root = unbound;
    window = view_kept x a plain a v.scene s.scene plain (view_else (root_in a x) root) (λ y e. control_else y (names y e).0) ∙ there;
    variables = λ y e. (names y e).1;
  })) r

  bound_same : (x : ℕ) (e : Control) → v.scene.control x ≡ number v.scene e → bound_number x e v ≡ v
  bound_same x e k = ap (λ f. record v { scene = record v.scene { control = f } }) (fun_ext (λ y. go y (y == x) refl))
    where
      go : (y : ℕ) (t : Bool) → (y == x) ≡ t → cond t (number v.scene e) (v.scene.control y) ≡ v.scene.control y
      go y false i = refl
      go y true i = sym k ∙ ap v.scene.control (sym (eqb-true y x i))

  one_number : (x : ℕ) (e : Control) (b : Block) (t : State) → is_steady e ≡ true → catches x e b ≡ false → KeepsStrides e (has_binder b) v → v.scene.control x ≡ number v.scene e → run world b v ≡ Some t → (u : State) × (run world (with_number x e b) v ≡ Some u) × SameEnd t u
  one_number x e b t steady free keeps here r =
      let m = map_gives (run world (with_number x e b) v) (bound_number x e) t (sym (steady_substitution world x e b v steady free keeps) ∙ ap (run world b) (bound_same x e here) ∙ r) in
      (m.0, m.1, subst (λ z. SameEnd z m.0) m.2 (record { cells = refl; fields = refl }))

  truth_set : (t : Bool) → is_set (truth t) ≡ t
  truth_set true = refl
  truth_set false = refl

  one_argument : (x : ℕ) (kind : ParamKind) (a : Argument) (g : Given) (b : Block) (t : State) → Clear b → Takes params x kind a b → given s.scene a ≡ Some g → Stands v x kind g → run world b v ≡ Some t → (u : State) × (run world (with_argument x kind a b) v ≡ Some u) × SameEnd t u
  one_argument x (ControlParam kind) (ControlArg e) g b t clear (steady, free, names, strides) k h r =
      let same : number v.scene e ≡ number s.scene e = steady_same e v.scene s.scene steady (λ y i. control_else y (names y i)) (λ y i l. strides_same y v.scene s.scene (view_else y (strides y i).0) (λ z q. ap (λ f. f z.buffer) same_buffers) l) in
      let here : v.scene.control x ≡ number s.scene e = subst (Stands v x (ControlParam kind)) (sym (some_injective (GivenNumber (number s.scene e)) g k)) h in
      one_number x e b t steady free (λ y i. ((strides y i).1, λ z q. clear y z (strides y i).0 q)) (here ∙ sym same) r
  one_argument x (ControlParam kind) (ConditionArg c) g b t clear (steady, own, names, strides) k h r =
      let same : holds v.scene c ≡ holds s.scene c = condition_steady v.scene s.scene c steady (λ y i. control_else y (names y i).0) (λ y i l. strides_same y v.scene s.scene (view_else y (strides y i).0) (λ z q. ap (λ f. f z.buffer) same_buffers) l) in
      let here : v.scene.control x ≡ truth (holds s.scene c) = subst (Stands v x (ControlParam kind)) (sym (some_injective (GivenNumber (truth (holds s.scene c))) g k)) h in
      (t, sym (steady_flag_law world x c b v steady own (λ y i. (names y i).1) (λ y i. ((strides y i).1, λ z q. clear y z (strides y i).0 q)) (ap is_set here ∙ truth_set (holds s.scene c) ∙ sym same)) ∙ r, record { cells = refl; fields = refl })
  one_argument x (ControlParam kind) (Whole y) g b t clear take k h r = absurd take
  one_argument x (ControlParam kind) (Window y coords) g b t clear take k h r = absurd take
  one_argument x (TensorParam cell dims memory) a g b t clear take k h r =
      let z = given_view a g take.0 k in
      (t, one_window x a z.0 b t take z.2 (subst (Stands v x (TensorParam cell dims memory)) z.1 h) r, record { cells = refl; fields = refl })
  one_argument x (WindowParam cell dims memory) a g b t clear take k h r =
      let z = given_view a g take.0 k in
      (t, one_window x a z.0 b t take z.2 (subst (Stands v x (WindowParam cell dims memory)) z.1 h) r, record { cells = refl; fields = refl })

  all_arguments : (ps : List Param) (args : List Argument) (gs : List Given) (b : Block) (t : State) → Clear b → TakesAll params ps args b → all_given s.scene args ≡ Some gs → AllStand v ps gs → run world b v ≡ Some t → (u : State) × (run world (inlined ps args b) v ≡ Some u) × SameEnd t u
  all_arguments [] args gs b t clear take k h r = (t, r, record { cells = refl; fields = refl })
  all_arguments (p ∷ ps) [] gs b t clear take k h r = (t, r, record { cells = refl; fields = refl })
  all_arguments (p ∷ ps) (a ∷ args) [] b t clear take k h r =
      let m = then_gives (given s.scene a) (λ g. option_map (λ gs. g ∷ gs) (all_given s.scene args)) [] k in
      let n = map_gives (all_given s.scene args) (λ gs. m.0 ∷ gs) [] m.2 in
      absurd (not_empty n.2)
    where
      not_empty : {A : Type 0} {x : A} {l : List A} → (x ∷ l) ≡ [] → ⊥
      not_empty e = cc
  all_arguments (p ∷ ps) (a ∷ args) (g ∷ gs) b t clear take k h r =
      let m = then_gives (given s.scene a) (λ g. option_map (λ gs. g ∷ gs) (all_given s.scene args)) (g ∷ gs) k in
      let n = map_gives (all_given s.scene args) (λ gs. m.0 ∷ gs) (g ∷ gs) m.2 in
      let one = one_argument p.binder.id p.kind a g b t clear take.0 (m.1 ∙ ap Some (first n.2)) h.0 r in
      let rest = all_arguments ps args gs (with_argument p.binder.id p.kind a b) one.0 (λ y z i q. argument_binders p.binder.id p.kind a b z.buffer ∙ clear y z i q) take.1 (n.1 ∙ ap Some (second n.2)) h.1 one.1 in
      (rest.0, rest.1, record { cells = one.2.cells ∙ rest.2.cells; fields = one.2.fields ∙ rest.2.fields })
    where
      first : {A : Type 0} {x y : A} {l m : List A} → (x ∷ l) ≡ (y ∷ m) → x ≡ y
      first e = cc

      second : {A : Type 0} {x y : A} {l m : List A} → (x ∷ l) ≡ (y ∷ m) → l ≡ m
      second e = cc

module _ (v : State) where
  one_stands : (x : ℕ) (kind : ParamKind) (g : Given) (control : ℕ → ℤ) (views : ℕ → Option Seen) → v.scene.control x ≡ bind_control x kind g control x → v.scene.views x ≡ bind_view x kind g views x → Stands v x kind g
  one_stands x (ControlParam kind) (GivenNumber n) control views h k = h ∙ updated_here control x n
  one_stands x (ControlParam kind) (GivenView z) control views h k = tt
  one_stands x (TensorParam cell dims memory) (GivenNumber n) control views h k = tt
  one_stands x (TensorParam cell dims memory) (GivenView z) control views h k = k ∙ updated_here views x (Some z)
  one_stands x (WindowParam cell dims memory) (GivenNumber n) control views h k = tt
  one_stands x (WindowParam cell dims memory) (GivenView z) control views h k = k ∙ updated_here views x (Some z)

  all_stand : (ps : List Param) (gs : List Given) (control : ℕ → ℤ) (views : ℕ → Option Seen) → AreDistinct ps → ((x : ℕ) → is_buffer_of x ps ≡ true → v.scene.control x ≡ bind_controls ps gs control x) → ((x : ℕ) → is_buffer_of x ps ≡ true → v.scene.views x ≡ bind_views ps gs views x) → AllStand v ps gs
  all_stand [] gs control views d h k = tt
  all_stand (p ∷ ps) [] control views d h k = tt
  all_stand (p ∷ ps) (g ∷ gs) control views d h k =
      let here : is_buffer_of p.binder.id (p ∷ ps) ≡ true = ap (λ t. t || is_buffer_of p.binder.id ps) (eq-eqb p.binder.id p.binder.id refl) in (
        one_stands p.binder.id p.kind g control views (h p.binder.id here ∙ controls_else ps gs (bind_control p.binder.id p.kind g control) p.binder.id d.0) (k p.binder.id here ∙ views_else ps gs (bind_view p.binder.id p.kind g views) p.binder.id d.0),
        all_stand ps gs (bind_control p.binder.id p.kind g control) (bind_view p.binder.id p.kind g views) d.1 (λ x i. h x (later x (x == p.binder.id) i)) (λ x i. k x (later x (x == p.binder.id) i)),
      )
    where
      later : (x : ℕ) (t : Bool) → is_buffer_of x ps ≡ true → (t || is_buffer_of x ps) ≡ true
      later x true e = refl
      later x false e = e

-- ---- names after a run

not_top : (a : Statement) (y : ℕ) → step_has_binder a y ≡ false → binds a y ≡ false
not_top (Assign x is e) y k = refl
not_top (Reduce x is e) y k = refl
not_top (Config f a) y k = refl
not_top Pass y k = refl
not_top (If c a b) y k = refl
not_top (For i lo hi b) y k = refl
not_top (Alloc x cell dims memory) y k = k
not_top (View v x coords) y k = k
not_top (Call n args) y k = refl

run_names : (world : World) (b : Block) (s t : State) (y : ℕ) → has_binder b y ≡ false → run world b s ≡ Some t → IsSameName y s t
run_names world end s t y k e = subst (IsSameName y s) (some_injective s t e) (name_same y s)
run_names world (next a b) s t y k e =
    let m = then_gives (step world a s) (run world b) t e in
    let q = or_parts (step_has_binder a y) (has_binder b y) k in
    name_on y s m.0 t (if_gives (λ u. (x : ℕ) → binds a x ≡ false → IsSameName x s u) (step world a s) m.0 (step_names world a s) m.1 y (not_top a y q.0)) (run_names world b m.0 t y q.1 m.2)

-- ---- the operator

module _ (world above : World) (q : Procedure) (args : List Argument) (own : ℕ → Bool) (wider : IsWider above world) (u : State) (sound : IsSound u) (unbound : (x : ℕ) → own x ≡ true → IsUnbound u x) (may : (gs : List Given) → all_given u.scene args ≡ Some gs → MayRunInPlace (not_own own) above q gs u) (take : TakesAll (is_param q) q.params args q.body) (others : (x : ℕ) → own x ≡ false → (is_param q x ≡ false) × (has_binder (inlined q.params args q.body) x ≡ false)) (gone : mentions (is_param q) (inlined q.params args q.body) ≡ false) where
  abbrev new : Block
  new = inlined q.params args q.body

  param_own : (x : ℕ) → is_param q x ≡ true → own x ≡ true
  param_own x k = go (own x) refl
    where
      go : (t : Bool) → own x ≡ t → t ≡ true
      go true e = refl
      go false e = absurd (true≢false (sym k ∙ (others x e).0))

  seen_other : (x : ℕ) (z : Seen) → u.scene.views x ≡ Some z → own z.buffer ≡ false
  seen_other x z e = go (own z.buffer) refl
    where
      go : (t : Bool) → own z.buffer ≡ t → t ≡ false
      go false k = refl
      go true k = absurd (true≢false (sym (subst IsSome (unbound z.buffer k).buffers (sound.seen x z e))))

  not_param : (b : ℕ) → own b ≡ false → is_param q b ≡ false
  not_param b k = (others b k).0

  -- the parameters' names do not matter where nothing mentions them
  same_unbound : (gs : List Given) → SameBut (is_param q) (on_scene (bound q.params gs) u) u
  same_unbound gs = record {
    control = λ x k. controls_else q.params gs u.scene.control x k;
    views = λ x k. views_else q.params gs u.scene.views x k;
    buffers = λ x k. refl;
    fields = refl;
    cells = λ x k. refl;
    seen = λ x z k e. not_param z.buffer (seen_other x z (sym (views_else q.params gs u.scene.views x k) ∙ e));
  }

  kept_refined : (o : Option Shape) (f g : List ℤ → Value) → f ≡ g → (at : List ℤ) → IsRefinedBy (kept o f at) (g at)
  kept_refined None f g e at = tt
  kept_refined (Some shape) f g e at = subst (λ h. IsRefinedBy (f at) (h at)) e (refined_same (f at))

  -- the state after the call, and after the inlined block
  ends : (t v d : State) → SameEnd t v → SameBut (is_param q) v d → run world new u ≡ Some d → RefinedBut own (left u t) d
  ends t v d same alike j = record {
    control = λ x k. (run_names world new u d x (others x k).1 j).control;
    buffers = λ x k. (run_names world new u d x (others x k).1 j).buffers;
    views = λ x k. (run_names world new u d x (others x k).1 j).views;
    fields = same.fields ∙ alike.fields;
    cells = λ x k. kept_refined (u.scene.buffers x) (t.cells x) (d.cells x) (ap (λ c. c x) same.cells ∙ alike.cells x (not_param x k));
    seen = λ x z k e. seen_other x z e;
  }

  -- the other way: a cell that the block leaves in a buffer that is not there holds nothing
  kept_back : (o : Option Shape) (f g : List ℤ → Value) → f ≡ g → ((at : List ℤ) → o ≡ None → f at ≡ Undefined) → (at : List ℤ) → IsRefinedBy (f at) (kept o g at)
  kept_back None f g e none at = subst (λ z. IsRefinedBy z Undefined) (sym (none at refl)) tt
  kept_back (Some shape) f g e none at = subst (λ h. IsRefinedBy (f at) (h at)) e (refined_same (f at))

  ends_back : (t v d : State) → SameEnd t v → SameBut (is_param q) v d → run world new u ≡ Some d → RefinedBut own d (left u t)
  ends_back t v d same alike j =
      let names : (x : ℕ) → own x ≡ false → IsSameName x u d = λ x k. run_names world new u d x (others x k).1 j in
      let after : IsSound d = if_gives IsSound (run world new u) d (run_sound world new u sound) j in
      record {
        control = λ x k. sym (names x k).control;
        buffers = λ x k. sym (names x k).buffers;
        views = λ x k. sym (names x k).views;
        fields = sym (same.fields ∙ alike.fields);
        cells = λ x k. kept_back (u.scene.buffers x) (d.cells x) (t.cells x) (sym (ap (λ c. c x) same.cells ∙ alike.cells x (not_param x k))) (λ at e. after.tidy x (sym (names x k).buffers ∙ e) at);
        seen = λ x z k e. seen_other x z ((names x k).views ∙ e);
      }

  -- what the call and the inlined block end in
  record Ends (a d : State) : Type 0 where
    inner : State
    inside : State
    call : left u inner ≡ a
    same : SameEnd inner inside
    alike : SameBut (is_param q) inside d

  runs : (a d : State) → call_to (Some (callee_in above q)) args u ≡ Some a → run world new u ≡ Some d → Ends a d
  runs a d i j =
      let callee : Callee = callee_in above q in
      let made = where_parts (keeps_apart callee u.scene args) (copied_call callee args u) a i in
      let m = then_gives (all_given u.scene args) (λ gs. then_do (entered q.params gs u) (λ inner. option_map (returned callee gs u) (run_asserted callee inner))) a made.1 in
      let passed : all_apart callee.writes q.params m.0 ≡ true = ap (given_all_apart callee.writes q.params) (sym m.1) ∙ made.0 in
      let n = then_gives (entered q.params m.0 u) (λ inner. option_map (returned callee m.0 u) (run_asserted callee inner)) a m.2 in
      let r = map_gives (run_asserted callee n.0) (returned callee m.0 u) a n.2 in
      let done : run above q.body n.0 ≡ Some r.0 = where_gives (all_hold n.0.scene q.asserts) (run above q.body n.0) r.0 r.1 in
      let v : State = on_scene (bound q.params m.0) u in
      let place = map_gives (run above q.body v) (left u) a (sym (call_in_place (not_own own) above q args m.0 u n.0 (may m.0 m.1) passed m.1 n.1) ∙ ap (option_map (returned callee m.0 u)) done ∙ ap Some r.2) in
      let wide = if_gives (λ z. run world q.body v ≡ Some z) (run above q.body v) place.0 (wider_law above world q.body v wider) place.1 in
      let stand = all_stand v q.params m.0 u.scene.control u.scene.views (may m.0 m.1).distinct (λ x k. refl) (λ x k. refl) in
      let inside = all_arguments world (is_param q) u v (controls_else q.params m.0 u.scene.control) (views_else q.params m.0 u.scene.views) refl q.params args m.0 q.body place.0 (λ y z i e. sym (inlined_binders q.params args q.body z.buffer) ∙ (others z.buffer (seen_other y z (sym (views_else q.params m.0 u.scene.views y i) ∙ e))).1) take m.1 stand wide in
      record { inner = place.0; inside = inside.0; call = place.2; same = inside.2; alike = both_some (SameBut (is_param q)) (run world new v) (run world new u) inside.0 d inside.1 j (run_alike (is_param q) world new gone v u (same_unbound m.0)) }

  there : (a d : State) → call_to (Some (callee_in above q)) args u ≡ Some a → run world new u ≡ Some d → RefinedBut own a d
  there a d i j = let e = runs a d i j in subst (λ z. RefinedBut own z d) e.call (ends e.inner e.inside d e.same e.alike j)

  back : (a d : State) → call_to (Some (callee_in above q)) args u ≡ Some a → run world new u ≡ Some d → RefinedBut own d a
  back a d i j = let e = runs a d i j in subst (RefinedBut own d) e.call (ends_back e.inner e.inside d e.same e.alike j)

called : (world : World) (k : ℕ) (args : List Argument) (c : Callee) (u a : State)
    → ((s : State) → call_to (world.callees k) args s ≡ call_to (Some c) args s)
    → run world (next (Call k args) end) u ≡ Some a → call_to (Some c) args u ≡ Some a
called world k args c u a e i = sym (e u) ∙ sym (then_some (call_to (world.callees k) args u)) ∙ i

pub inline_refines : InlineRefines
inline_refines kinds ps p q c k args above own was may =
    let world = unit_world kinds ps in
    let old : Block = next (Call k args) end in
    let new : Block = inlined q.params args q.body in
    context_law kinds ps own c old new p (record p { body = fill c new }) was refl may.rest (λ s u good come.
    let unbound : (x : ℕ) → own x ≡ true → IsUnbound u x = λ x e. place_unbound world p old c s u good come x (may.free x e) in
    record {
      fresh = λ x e. (unbound x e).buffers;
      runs = λ a d i j. there world above q args own may.wider u (place_sound world p old c s u good come) unbound (may.call s u good come) may.takes may.others may.gone a d (called world k args (callee_in above q) u a may.callee i) j;
    })

pub replace_refines : ReplaceRefines
replace_refines kinds ps p q c k args above own was may =
    let world = unit_world kinds ps in
    let old : Block = inlined q.params args q.body in
    let new : Block = next (Call k args) end in
    context_law kinds ps own c old new p (record p { body = fill c new }) was refl may.rest (λ s u good come.
    let unbound : (x : ℕ) → own x ≡ true → IsUnbound u x = λ x e. place_unbound world p old c s u good come x (may.free x e) in
    record {
      fresh = λ x e. (unbound x e).buffers;
      runs = λ a d i j. back world above q args own may.wider u (place_sound world p old c s u good come) unbound (may.call s u good come) may.takes may.others may.gone d a (called world k args (callee_in above q) u d may.callee j) i;
    })
