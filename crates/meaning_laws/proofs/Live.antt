-- Runs do not see fields that are not live.
use Rattle.std.proofs.Common.{◌≡◌, ℕ, ℤ, pos, neg_ℤ, ◌+ℤ◌, ◌-ℤ◌, ◌*ℤ◌, ◌==◌, int_lt, int_le, Bool, true, false, cond, ◌&&◌, ◌||◌, List, [], ◌∷◌, Option, Some, None, option_map, refl, sym, ap, ap₂, ◌∙◌, subst, eq-eqb}
use Rattle.std.proofs.Math.Path.{fun_ext}
use Rattle.std.specs.Ordering.{int_eq}
use Rattle.std.specs.Int.{int_div_euclid, int_rem_euclid}
use Rattle.exo_tree.specs.Tree.{Cell, Control, Lit, Var, Field, StrideOf, Neg, Add, Sub, Mul, Div, Mod, Condition, True, False, Flag, FieldFlag, Lt, Le, Gt, Ge, Eq, And, Or, Datum, Const, Read, Negated, Relu, Plus, Minus, Times, Select, Coord, At, Span, Argument, ControlArg, ConditionArg, Whole, Window, Statement, Assign, Reduce, Config, Pass, If, For, Alloc, View, Call, Block, end, next}
use Rattle.exo_meaning.specs.Value.{Value, Undefined, stored_as, on_one, on_two, on_four, relu, selected}
use Rattle.exo_meaning.specs.Scene.{is_set, Shape, Seen, Side, Point, Range, Scene, then_do, number, numbers, holds, stride_at, where_true, window, narrowed, cell_at, is_below, updated}
use Rattle.exo_meaning.specs.State.{State, Place, place, held, changed, put, value, left, scoped, on_scene, with_control, with_field, with_view, with_contents, with_buffer}
use Rattle.exo_meaning.specs.Calls.{truth, suits, all_positive}
use Rattle.exo_meaning.specs.Run.{World, run, step, argument_number, turn, turns, turns_of, range, count, choose, tensor, allocate}
use Rattle.exo_meaning.specs.Refines.{Both}
use Rattle.exo_meaning.proofs.Both.{both_then, both_map}
use Rattle.meaning_laws.specs.Live.{read_by_control, read_by_controls, read_by_condition, read_by_datum, read_by_coords, read_by_argument, live, live_step, refield, Agree, SameLive, CallsForget, RunsForget}
use Rattle.meaning_laws.proofs.Facts.{or_left, or_right}

pub same_live : (alive : ℕ → Bool) (s : State) → SameLive alive s s
same_live alive s = record { fields = s.scene.fields; agree = λ f k. refl; same = refl }

pub fewer : (some more : ℕ → Bool) → ((f : ℕ) → some f ≡ true → more f ≡ true) → (g h : ℕ → ℤ) → Agree more g h → Agree some g h
fewer some more k g h a f i = a f (k f i)

module _ (g : ℕ → ℤ) (scene : Scene) where
  abbrev pub other : Scene
  other = record scene { fields = g }

  abbrev pub Knows : (ℕ → Bool) → Type 0
  Knows reads = Agree reads scene.fields g

  abbrev pub left_of : (a b : ℕ → Bool) → Knows (λ f. a f || b f) → Knows a
  left_of a b h f k = h f (or_left (a f) (b f) k)

  abbrev pub right_of : (a b : ℕ → Bool) → Knows (λ f. a f || b f) → Knows b
  right_of a b h f k = h f (or_right (a f) (b f) k)

  pub number_live : (a : Control) → Knows (λ f. read_by_control f a) → number other a ≡ number scene a
  number_live (Lit n) h = refl
  number_live (Var x) h = refl
  number_live (Field x) h = sym (h x (eq-eqb x x refl))
  number_live (StrideOf x k) h = go (scene.views x)
    where
      go : (o : Option Seen) → stride_at other o k ≡ stride_at scene o k
      go None = refl
      go (Some seen) = refl
  number_live (Neg a) h = ap neg_ℤ (number_live a h)
  number_live (Add a b) h = ap₂ ◌+ℤ◌ (number_live a (left_of (λ f. read_by_control f a) (λ f. read_by_control f b) h)) (number_live b (right_of (λ f. read_by_control f a) (λ f. read_by_control f b) h))
  number_live (Sub a b) h = ap₂ ◌-ℤ◌ (number_live a (left_of (λ f. read_by_control f a) (λ f. read_by_control f b) h)) (number_live b (right_of (λ f. read_by_control f a) (λ f. read_by_control f b) h))
  number_live (Mul a b) h = ap₂ ◌*ℤ◌ (number_live a (left_of (λ f. read_by_control f a) (λ f. read_by_control f b) h)) (number_live b (right_of (λ f. read_by_control f a) (λ f. read_by_control f b) h))
  number_live (Div a c) h = ap (λ n. int_div_euclid n c) (number_live a h)
  number_live (Mod a c) h = ap (λ n. int_rem_euclid n c) (number_live a h)

  pub numbers_live : (as' : List Control) → Knows (λ f. read_by_controls f as') → numbers other as' ≡ numbers scene as'
  numbers_live [] h = refl
  numbers_live (a ∷ as') h = ap₂ ◌∷◌ (number_live a (left_of (λ f. read_by_control f a) (λ f. read_by_controls f as') h)) (numbers_live as' (right_of (λ f. read_by_control f a) (λ f. read_by_controls f as') h))

  pub two_live : {A : Type 0} (k : ℤ → ℤ → A) (a b : Control) → Knows (λ f. read_by_control f a || read_by_control f b) → k (number other a) (number other b) ≡ k (number scene a) (number scene b)
  two_live k a b h = ap₂ k (number_live a (left_of (λ f. read_by_control f a) (λ f. read_by_control f b) h)) (number_live b (right_of (λ f. read_by_control f a) (λ f. read_by_control f b) h))

  pub holds_live : (c : Condition) → Knows (λ f. read_by_condition f c) → holds other c ≡ holds scene c
  holds_live True h = refl
  holds_live False h = refl
  holds_live (Flag x) h = refl
  holds_live (FieldFlag x) h = ap is_set (sym (h x (eq-eqb x x refl)))
  holds_live (Lt a b) h = two_live int_lt a b h
  holds_live (Le a b) h = two_live int_le a b h
  holds_live (Gt a b) h = two_live (λ m n. int_lt n m) a b h
  holds_live (Ge a b) h = two_live (λ m n. int_le n m) a b h
  holds_live (Eq a b) h = two_live int_eq a b h
  holds_live (And c d) h = ap₂ ◌&&◌ (holds_live c (left_of (λ f. read_by_condition f c) (λ f. read_by_condition f d) h)) (holds_live d (right_of (λ f. read_by_condition f c) (λ f. read_by_condition f d) h))
  holds_live (Or c d) h = ap₂ ◌||◌ (holds_live c (left_of (λ f. read_by_condition f c) (λ f. read_by_condition f d) h)) (holds_live d (right_of (λ f. read_by_condition f c) (λ f. read_by_condition f d) h))

  pub narrowed_live : (sides : List Side) (coords : List Coord) → Knows (λ f. read_by_coords f coords) → narrowed other sides coords ≡ narrowed scene sides coords
  narrowed_live [] [] h = refl
  narrowed_live [] (c ∷ cs) h = refl
  narrowed_live (Point p ∷ sides) cs h = ap (option_map (λ rest. Point p ∷ rest)) (narrowed_live sides cs h)
  narrowed_live (Range lo n ∷ sides) [] h = refl
  narrowed_live (Range lo n ∷ sides) (At a ∷ cs) h =
      ap₂ (λ j o. where_true (is_below j n) (option_map (λ rest. Point (lo +ℤ j) ∷ rest) o)) (number_live a (left_of (λ f. read_by_control f a) (λ f. read_by_coords f cs) h)) (narrowed_live sides cs (right_of (λ f. read_by_control f a) (λ f. read_by_coords f cs) h))
  narrowed_live (Range lo n ∷ sides) (Span a b ∷ cs) h =
      let r = right_of (λ f. read_by_control f a) (λ f. read_by_control f b || read_by_coords f cs) h in
      ap (λ j. where_true (int_le (pos 0) j && int_lt j (number other b) && int_le (number other b) n) (option_map (λ rest. Range (lo +ℤ j) (number other b -ℤ j) ∷ rest) (narrowed other sides cs))) (number_live a (left_of (λ f. read_by_control f a) (λ f. read_by_control f b || read_by_coords f cs) h))
      ∙ ap₂ (λ j o. where_true (int_le (pos 0) (number scene a) && int_lt (number scene a) j && int_le j n) (option_map (λ rest. Range (lo +ℤ number scene a) (j -ℤ number scene a) ∷ rest) o)) (number_live b (left_of (λ f. read_by_control f b) (λ f. read_by_coords f cs) r)) (narrowed_live sides cs (right_of (λ f. read_by_control f b) (λ f. read_by_coords f cs) r))

  pub window_live : (x : ℕ) (coords : List Coord) → Knows (λ f. read_by_coords f coords) → window other x coords ≡ window scene x coords
  window_live x coords h = ap (then_do (scene.views x)) (fun_ext (λ seen. ap (option_map (λ sides. record { buffer = seen.buffer; sides = sides })) (narrowed_live seen.sides coords h)))

  pub place_live : (x : ℕ) (is : List Control) → Knows (λ f. read_by_controls f is) → place other x is ≡ place scene x is
  place_live x is h = ap (λ js. then_do (scene.views x) (λ seen. option_map (λ at. record { buffer = seen.buffer; at = at }) (cell_at seen.sides js))) (numbers_live is h)

  pub argument_live : (a : Argument) → Knows (λ f. read_by_argument f a) → argument_number other a ≡ argument_number scene a
  argument_live (ControlArg a) h = ap Some (number_live a h)
  argument_live (ConditionArg c) h = ap (λ t. Some (truth t)) (holds_live c h)
  argument_live (Whole x) h = refl
  argument_live (Window x coords) h = refl

module _ (g : ℕ → ℤ) (s : State) where
  value_live : (d : Datum) → Agree (λ f. read_by_datum f d) s.scene.fields g → value (refield g s) d ≡ value s d
  value_live (Const n) h = refl
  value_live (Read x is) h = ap (option_map (held s.cells)) (place_live g s.scene x is h)
  value_live (Negated a) h = ap (option_map (on_one (λ m. pos 0 -ℤ m))) (value_live a h)
  value_live (Relu a) h = ap (option_map (on_one relu)) (value_live a h)
  value_live (Plus a b) h = ap₂ (λ o q. then_do o (λ u. option_map (on_two ◌+ℤ◌ u) q)) (value_live a (left_of g s.scene (λ f. read_by_datum f a) (λ f. read_by_datum f b) h)) (value_live b (right_of g s.scene (λ f. read_by_datum f a) (λ f. read_by_datum f b) h))
  value_live (Minus a b) h = ap₂ (λ o q. then_do o (λ u. option_map (on_two ◌-ℤ◌ u) q)) (value_live a (left_of g s.scene (λ f. read_by_datum f a) (λ f. read_by_datum f b) h)) (value_live b (right_of g s.scene (λ f. read_by_datum f a) (λ f. read_by_datum f b) h))
  value_live (Times a b) h = ap₂ (λ o q. then_do o (λ u. option_map (on_two ◌*ℤ◌ u) q)) (value_live a (left_of g s.scene (λ f. read_by_datum f a) (λ f. read_by_datum f b) h)) (value_live b (right_of g s.scene (λ f. read_by_datum f a) (λ f. read_by_datum f b) h))
  value_live (Select a b c d) h =
      let p = right_of g s.scene (λ f. read_by_datum f a) (λ f. read_by_datum f b || (read_by_datum f c || read_by_datum f d)) h in
      let q = right_of g s.scene (λ f. read_by_datum f b) (λ f. read_by_datum f c || read_by_datum f d) p in
      ap₂ (λ o w. then_do o (λ x. then_do w (λ v. then_do (value (refield g s) c) (λ y. option_map (on_four selected x v y) (value (refield g s) d))))) (value_live a (left_of g s.scene (λ f. read_by_datum f a) (λ f. read_by_datum f b || (read_by_datum f c || read_by_datum f d)) h)) (value_live b (left_of g s.scene (λ f. read_by_datum f b) (λ f. read_by_datum f c || read_by_datum f d) p))
      ∙ ap₂ (λ o w. then_do (value s a) (λ x. then_do (value s b) (λ v. then_do o (λ y. option_map (on_four selected x v y) w)))) (value_live c (left_of g s.scene (λ f. read_by_datum f c) (λ f. read_by_datum f d) q)) (value_live d (right_of g s.scene (λ f. read_by_datum f c) (λ f. read_by_datum f d) q))

  module _ (out : ℕ → Bool) where
    store_live : (x : ℕ) (is : List Control) (d : Datum) (f : Value → Value → Value) → Agree (λ z. (read_by_controls z is || read_by_datum z d) || out z) s.scene.fields g → Both (SameLive out) (then_do (place s.scene x is) (λ p. then_do (value s d) (λ v. put s (f v) p))) (then_do (place (refield g s).scene x is) (λ p. then_do (value (refield g s) d) (λ v. put (refield g s) (f v) p)))
    store_live x is d f h =
        let reads = left_of g s.scene (λ z. read_by_controls z is || read_by_datum z d) out h in
        let k = right_of g s.scene (λ z. read_by_controls z is || read_by_datum z d) out h in
        subst (λ o. Both (SameLive out) (then_do (place s.scene x is) (λ p. then_do (value s d) (λ v. put s (f v) p))) (then_do o (λ p. then_do (value (refield g s) d) (λ v. put (refield g s) (f v) p)))) (sym (place_live g s.scene x is (left_of g s.scene (λ z. read_by_controls z is) (λ z. read_by_datum z d) reads)))
        (subst (λ o. Both (SameLive out) (then_do (place s.scene x is) (λ p. then_do (value s d) (λ v. put s (f v) p))) (then_do (place s.scene x is) (λ p. then_do o (λ v. put (refield g s) (f v) p)))) (sym (value_live d (right_of g s.scene (λ z. read_by_controls z is) (λ z. read_by_datum z d) reads)))
        (go k (place s.scene x is) (value s d)))
      where
        inner : Agree out s.scene.fields g → (v : Value) (p : Place) (o : Option Shape) → Both (SameLive out) (option_map (λ shape. record s { cells = changed s.cells p (λ old. stored_as shape.cell (f v old)) }) o) (option_map (λ shape. record (refield g s) { cells = changed s.cells p (λ old. stored_as shape.cell (f v old)) }) o)
        inner k v p None = tt
        inner k v p (Some shape) = record { fields = g; agree = k; same = refl }

        go : Agree out s.scene.fields g → (o : Option Place) (q : Option Value) → Both (SameLive out) (then_do o (λ p. then_do q (λ v. put s (f v) p))) (then_do o (λ p. then_do q (λ v. put (refield g s) (f v) p)))
        go k None q = tt
        go k (Some p) None = tt
        go k (Some p) (Some v) = inner k v p (s.scene.buffers p.buffer)

-- ---- single statements

configured : (world : World) (z : ℕ) (s : State) (g : ℕ → ℤ) (out : ℕ → Bool) → Agree (λ f. cond (f == z) false (out f)) s.scene.fields g → (o : Option ℤ) → Both (SameLive out) (then_do o (λ n. where_true (suits (world.kinds z) n) (Some (on_scene (with_field z n) s)))) (then_do o (λ n. where_true (suits (world.kinds z) n) (Some (on_scene (with_field z n) (refield g s)))))
configured world z s g out h None = tt
configured world z s g out h (Some n) = go (suits (world.kinds z) n)
  where
    agree : (f : ℕ) (t : Bool) → (f == z) ≡ t → out f ≡ true → cond t n (s.scene.fields f) ≡ cond t n (g f)
    agree f true e k = refl
    agree f false e k = h f (ap (λ t. cond t false (out f)) e ∙ k)

    go : (t : Bool) → Both (SameLive out) (where_true t (Some (on_scene (with_field z n) s))) (where_true t (Some (on_scene (with_field z n) (refield g s))))
    go true = record { fields = updated g z n; agree = λ f k. agree f (f == z) refl k; same = refl }
    go false = tt

allocated : (x : ℕ) (cell : Cell) (dims : List ℤ) (s : State) (g : ℕ → ℤ) (out : ℕ → Bool) → Agree out s.scene.fields g → (t : Bool) → Both (SameLive out) (where_true t (Some (with_contents x (λ at. Undefined) (on_scene (with_buffer x (tensor cell dims)) s)))) (where_true t (Some (with_contents x (λ at. Undefined) (on_scene (with_buffer x (tensor cell dims)) (refield g s)))))
allocated x cell dims s g out h true = record { fields = g; agree = h; same = refl }
allocated x cell dims s g out h false = tt

viewed : (w : ℕ) (s : State) (g : ℕ → ℤ) (out : ℕ → Bool) → Agree out s.scene.fields g → (o : Option Seen) → Both (SameLive out) (then_do o (λ seen. Some (on_scene (with_view w seen) s))) (then_do o (λ seen. Some (on_scene (with_view w seen) (refield g s))))
viewed w s g out h None = tt
viewed w s g out h (Some seen) = record { fields = g; agree = h; same = refl }

-- ---- in a row

module _ (out : ℕ → Bool) where
  -- what is done in the same way from states that agree in live fields
  abbrev Forgets : (ℕ → Bool) → (State → Option State) → Type 0
  Forgets before run' = (s : State) (g : ℕ → ℤ) → Agree before s.scene.fields g → Both (SameLive out) (run' s) (run' (refield g s))

  then_forgets : (before : ℕ → Bool) (o p : Option State) (k : State → Option State) → Both (SameLive before) o p → Forgets before k → Both (SameLive out) (then_do o k) (then_do p k)
  then_forgets before o p k h j = both_then (SameLive before) (SameLive out) o p k k h (λ a b c. subst (λ z. Both (SameLive out) (k a) (k z)) (sym c.same) (j a c.fields c.agree))

  left_live : (s : State) (g : ℕ → ℤ) (o p : Option State) → Both (SameLive out) o p → Both (SameLive out) (option_map (left s) o) (option_map (left (refield g s)) p)
  left_live s g o p h = both_map (SameLive out) (SameLive out) o p (left s) (left (refield g s)) h (λ a b c. record { fields = c.fields; agree = c.agree; same = ap (left (refield g s)) c.same })

  turn_forgets : (i : ℕ) (body : State → Option State) (before : ℕ → Bool) → Forgets before body → (n : ℤ) → Forgets before (turn i body n)
  turn_forgets i body before k n s g h = left_live s g (body (on_scene (with_control i n) s)) (body (on_scene (with_control i n) (refield g s))) (k (on_scene (with_control i n) s) g h)

  turns_forget : (i : ℕ) (body : State → Option State) → Forgets out body → (ns : List ℤ) → Forgets out (turns (turn i body) ns)
  turns_forget i body k [] s g h = record { fields = g; agree = h; same = refl }
  turns_forget i body k (n ∷ ns) s g h = then_forgets out (turn i body n s) (turn i body n (refield g s)) (turns (turn i body) ns) (turn_forgets i body out k n s g h) (turns_forget i body k ns)

pub weaken : (some more : ℕ → Bool) → ((f : ℕ) → some f ≡ true → more f ≡ true) → (s t : State) → SameLive more s t → SameLive some s t
weaken some more k s t h = record { fields = h.fields; agree = fewer some more k s.scene.fields h.fields h.agree; same = h.same }

pub both_weaken : (some more : ℕ → Bool) → ((f : ℕ) → some f ≡ true → more f ≡ true) → (o p : Option State) → Both (SameLive more) o p → Both (SameLive some) o p
both_weaken some more k None None h = tt
both_weaken some more k None (Some b) h = h
both_weaken some more k (Some a) None h = h
both_weaken some more k (Some a) (Some b) h = weaken some more k a b h

chosen : (a b : State → Option State) (out : ℕ → Bool) (s : State) (g : ℕ → ℤ) → Both (SameLive out) (a s) (a (refield g s)) → Both (SameLive out) (b s) (b (refield g s)) → (t : Bool) → Both (SameLive out) (scoped (choose t a b) s) (scoped (choose t a b) (refield g s))
chosen a b out s g h k true = left_live out s g (a s) (a (refield g s)) h
chosen a b out s g h k false = left_live out s g (b s) (b (refield g s)) k

-- ---- trees

module _ (world : World) (calls : ℕ → ℕ → Bool → Bool) (forget : CallsForget world calls) where
  -- live at the head of a loop
  abbrev pub head : Block → (ℕ → Bool) → ℕ → Bool
  head b out f = out f || live calls f b false

  -- what is live before the body, if the head is behind it, is live at the head
  pub head_closed : (b : Block) (out : ℕ → Bool) (f : ℕ) → live calls f b (head b out f) ≡ true → head b out f ≡ true
  head_closed b out f h = go (head b out f) refl h
    where
      go : (t : Bool) → head b out f ≡ t → live calls f b t ≡ true → head b out f ≡ true
      go true e h = e
      go false e h = or_right (out f) (live calls f b false) h

  mutual
    pub run_forgets : (b : Block) (out : ℕ → Bool) → Forgets out (λ f. live calls f b (out f)) (run world b)
    run_forgets end out = λ s g h. record { fields = g; agree = h; same = refl }
    run_forgets (next a b) out = λ s g h. then_forgets out (λ f. live calls f b (out f)) (step world a s) (step world a (refield g s)) (run world b) (step_forgets a (λ f. live calls f b (out f)) s g h) (run_forgets b out)

    pub step_forgets : (a : Statement) (out : ℕ → Bool) → Forgets out (λ f. live_step calls f a (out f)) (step world a)
    step_forgets (Assign x is e) out = λ s g h. store_live g s out x is e (λ v old. v) h
    step_forgets (Reduce x is e) out = λ s g h. store_live g s out x is e (λ v old. on_two ◌+ℤ◌ old v) h
    step_forgets (Config z a) out = λ s g h.
        subst (λ o. Both (SameLive out) (step world (Config z a) s) (then_do o (λ n. where_true (suits (world.kinds z) n) (Some (on_scene (with_field z n) (refield g s)))))) (sym (argument_live g s.scene a (left_of g s.scene (λ f. read_by_argument f a) (λ f. cond (f == z) false (out f)) h)))
        (configured world z s g out (right_of g s.scene (λ f. read_by_argument f a) (λ f. cond (f == z) false (out f)) h) (argument_number s.scene a))
    step_forgets Pass out = λ s g h. record { fields = g; agree = h; same = refl }
    step_forgets (If c a b) out = λ s g h.
        let rest = right_of g s.scene (λ f. read_by_condition f c) (λ f. live calls f a (out f) || live calls f b (out f)) h in
        subst (λ t. Both (SameLive out) (step world (If c a b) s) (scoped (choose t (run world a) (run world b)) (refield g s))) (sym (holds_live g s.scene c (left_of g s.scene (λ f. read_by_condition f c) (λ f. live calls f a (out f) || live calls f b (out f)) h)))
        (chosen (run world a) (run world b) out s g (run_forgets a out s g (left_of g s.scene (λ f. live calls f a (out f)) (λ f. live calls f b (out f)) rest)) (run_forgets b out s g (right_of g s.scene (λ f. live calls f a (out f)) (λ f. live calls f b (out f)) rest)) (holds s.scene c))
    step_forgets (For i lo hi b) out = λ s g h.
        let bounds = left_of g s.scene (λ f. read_by_control f lo || read_by_control f hi) (head b out) h in
        let rest = right_of g s.scene (λ f. read_by_control f lo || read_by_control f hi) (head b out) h in
        subst (λ ns. Both (SameLive out) (step world (For i lo hi b) s) (turns (turn i.id (run world b)) ns (refield g s))) (sym (two_live g s.scene (λ m n. range m (count (n -ℤ m))) lo hi bounds))
        (both_weaken out (head b out) (λ f k. or_left (out f) (live calls f b false) k) (turns (turn i.id (run world b)) (turns_of s.scene lo hi) s) (turns (turn i.id (run world b)) (turns_of s.scene lo hi) (refield g s))
        (turns_forget (head b out) i.id (run world b) (λ t k j. run_forgets b (head b out) t k (fewer (λ f. live calls f b (head b out f)) (head b out) (head_closed b out) t.scene.fields k j)) (turns_of s.scene lo hi) s g rest))
    step_forgets (Alloc x cell dims memory) out = λ s g h.
        subst (λ ds. Both (SameLive out) (step world (Alloc x cell dims memory) s) (allocate x.id cell ds (refield g s))) (sym (numbers_live g s.scene dims (left_of g s.scene (λ f. read_by_controls f dims) out h)))
        (allocated x.id cell (numbers s.scene dims) s g out (right_of g s.scene (λ f. read_by_controls f dims) out h) (all_positive (numbers s.scene dims)))
    step_forgets (View w x coords) out = λ s g h.
        subst (λ o. Both (SameLive out) (step world (View w x coords) s) (then_do o (λ seen. Some (on_scene (with_view w.id seen) (refield g s))))) (sym (window_live g s.scene x coords (left_of g s.scene (λ f. read_by_coords f coords) out h)))
        (viewed w.id s g out (right_of g s.scene (λ f. read_by_coords f coords) out h) (window s.scene x coords))
    step_forgets (Call k args) out = λ s g h. forget k args out s g h

pub runs_forget : RunsForget
runs_forget world calls forget b out s g h = run_forgets world calls forget b out s g h
