-- A run of a block with an expression, which may hold strides, in the place of a variable.
use Rattle.std.proofs.Common.{◌≡◌, ℕ, ℤ, pos, neg_ℤ, ◌+ℤ◌, ◌-ℤ◌, ◌*ℤ◌, ◌==◌, int_lt, int_le, Bool, true, false, cond, ◌&&◌, ◌||◌, List, [], ◌∷◌, Option, Some, None, option_map, refl, sym, ap, ap₂, ◌∙◌, true≢false, eqb-true, eq-eqb}
use Rattle.std.proofs.Math.Path.{fun_ext}
use Rattle.std.specs.Ordering.{int_eq}
use Rattle.std.specs.Int.{int_div_euclid, int_rem_euclid}
use Rattle.exo_tree.specs.Tree.{Cell, Control, Lit, Var, Field, StrideOf, Neg, Add, Sub, Mul, Div, Mod, Condition, True, False, Flag, FieldFlag, Lt, Le, Gt, Ge, Eq, And, Or, Datum, Const, Read, Negated, Relu, Plus, Minus, Times, Select, Coord, At, Span, Argument, ControlArg, ConditionArg, Whole, Window, Statement, Assign, Reduce, Config, Pass, If, For, Alloc, View, Call, Block, end, next}
use Rattle.exo_meaning.specs.Value.{Value, Undefined, stored_as, on_one, on_two, on_four, relu, selected}
use Rattle.exo_meaning.specs.Scene.{is_set, Shape, Seen, Side, Point, Range, Scene, then_do, number, numbers, holds, stride_at, where_true, window, narrowed, cell_at, updated, is_below}
use Rattle.exo_meaning.specs.State.{State, Place, place, held, changed, put, value, left, scoped, on_scene, with_control, with_field, with_view, with_contents, with_buffer}
use Rattle.exo_meaning.specs.Run.{World, run, step, argument_number, turn, turns, turns_of, range, count, choose, call_to, tensor, allocate}
use Rattle.exo_meaning.specs.Calls.{keeps_apart, copied_call, given_all_apart, Callee, Given, GivenNumber, GivenView, given, all_given, suits, all_positive, truth, entered, returned, run_asserted, copy_in}
use Rattle.exo_meaning.proofs.Frame.{or_parts, updated_other}
use Rattle.meaning_laws.specs.Substitute.{is_plain, has_variable, in_control, in_controls, in_condition, in_datum, in_coords, in_argument, in_arguments, in_statement, in_block, bound, has_flag, argument_has_flag, arguments_have_flag, step_catches, catches, SubstitutionLaw}
use Rattle.std.proofs.Common.{get_or}
use Rattle.exo_meaning.specs.Scene.{strides_of, whole}
use Rattle.meaning_laws.specs.Scoped.{has_binder, step_has_binder}
use Rattle.meaning_laws.specs.Sound.{binds, IsSameName}
use Rattle.meaning_laws.proofs.Names.{if_gives, step_names, turn_names}
use Rattle.inplace_laws.specs.Steady.{is_steady, has_stride, KeepsStrides, SteadySubstitutionLaw}

pub and_parts : (a b : Bool) → (a && b) ≡ true → (a ≡ true) × (b ≡ true)
and_parts true b h = (refl, h)
and_parts false b h = absurd (true≢false (sym h))

or_left : (a b : Bool) → a ≡ true → (a || b) ≡ true
or_left a b k = ap (λ z. z || b) k

or_right : (a b : Bool) → b ≡ true → (a || b) ≡ true
or_right true b k = refl
or_right false b k = k

-- a stride is the same where the name and its buffer are
pub strides_same : (y : ℕ) (s t : Scene) → s.views y ≡ t.views y
    → ((seen : Seen) → s.views y ≡ Some seen → s.buffers seen.buffer ≡ t.buffers seen.buffer)
    → (k : ℕ) → stride_at s (s.views y) k ≡ stride_at t (t.views y) k
strides_same y s t h buffers k =
    go (s.views y) refl ∙ ap (λ o. stride_at t o k) h
  where
    go : (o : Option Seen) → s.views y ≡ o → stride_at s o k ≡ stride_at t o k
    go None r = refl
    go (Some seen) r =
        ap (λ (b : Option Shape). get_or (elim b [
          | None ↦ []
          | Some shape ↦ strides_of seen.sides shape.strides
        ]) k (pos 0)) (buffers seen r)

-- a steady expression depends on its variables and strides alone
pub steady_same : (e : Control) (s t : Scene) → is_steady e ≡ true
    → ((x : ℕ) → has_variable e x ≡ true → s.control x ≡ t.control x)
    → ((x : ℕ) → has_stride e x ≡ true → (k : ℕ)
    → stride_at s (s.views x) k ≡ stride_at t (t.views x) k)
    → number s e ≡ number t e
steady_same (Lit n) s t p h l = refl
steady_same (Var x) s t p h l = h x (eq-eqb x x refl)
steady_same (Field f) s t p h l = absurd (true≢false (sym p))
steady_same (StrideOf x k) s t p h l = l x (eq-eqb x x refl) k
steady_same (Neg a) s t p h l = ap neg_ℤ (steady_same a s t p h l)
steady_same (Add a b) s t p h l =
    let q = and_parts (is_steady a) (is_steady b) p in
    ap₂ ◌+ℤ◌ (steady_same a s t q.0
    (λ x k. h x (or_left (has_variable a x) (has_variable b x) k))
    (λ x k. l x (or_left (has_stride a x) (has_stride b x) k)))
    (steady_same b s t q.1
    (λ x k. h x (or_right (has_variable a x) (has_variable b x) k))
    (λ x k. l x (or_right (has_stride a x) (has_stride b x) k)))
steady_same (Sub a b) s t p h l =
    let q = and_parts (is_steady a) (is_steady b) p in
    ap₂ ◌-ℤ◌ (steady_same a s t q.0
    (λ x k. h x (or_left (has_variable a x) (has_variable b x) k))
    (λ x k. l x (or_left (has_stride a x) (has_stride b x) k)))
    (steady_same b s t q.1
    (λ x k. h x (or_right (has_variable a x) (has_variable b x) k))
    (λ x k. l x (or_right (has_stride a x) (has_stride b x) k)))
steady_same (Mul a b) s t p h l =
    let q = and_parts (is_steady a) (is_steady b) p in
    ap₂ ◌*ℤ◌ (steady_same a s t q.0
    (λ x k. h x (or_left (has_variable a x) (has_variable b x) k))
    (λ x k. l x (or_left (has_stride a x) (has_stride b x) k)))
    (steady_same b s t q.1
    (λ x k. h x (or_right (has_variable a x) (has_variable b x) k))
    (λ x k. l x (or_right (has_stride a x) (has_stride b x) k)))
steady_same (Div a c) s t p h l = ap (λ n. int_div_euclid n c) (steady_same a s t p h l)
steady_same (Mod a c) s t p h l = ap (λ n. int_rem_euclid n c) (steady_same a s t p h l)

module _ (i : ℕ) (e : Control) (steady : is_steady e ≡ true) where
  module _ (scene : Scene) where
    abbrev with : Scene
    with = with_control i (number scene e) scene

    number_in : (a : Control) → number with a ≡ number scene (in_control i e a)
    number_in (Lit n) = refl
    number_in (Var x) = go (x == i)
      where
        go : (t : Bool) → cond t (number scene e) (scene.control x) ≡ number scene (cond t e (Var x))
        go true = refl
        go false = refl
    number_in (Field f) = refl
    number_in (StrideOf x k) = go (scene.views x)
      where
        go : (o : Option Seen) → stride_at with o k ≡ stride_at scene o k
        go None = refl
        go (Some seen) = refl
    number_in (Neg a) = ap neg_ℤ (number_in a)
    number_in (Add a b) = ap₂ ◌+ℤ◌ (number_in a) (number_in b)
    number_in (Sub a b) = ap₂ ◌-ℤ◌ (number_in a) (number_in b)
    number_in (Mul a b) = ap₂ ◌*ℤ◌ (number_in a) (number_in b)
    number_in (Div a c) = ap (λ n. int_div_euclid n c) (number_in a)
    number_in (Mod a c) = ap (λ n. int_rem_euclid n c) (number_in a)

    numbers_in : (as' : List Control) → numbers with as' ≡ numbers scene (in_controls i e as')
    numbers_in [] = refl
    numbers_in (a ∷ as') = ap₂ ◌∷◌ (number_in a) (numbers_in as')

    flag_in : (x : ℕ) → (x == i) ≡ false → with.control x ≡ scene.control x
    flag_in x k = ap (λ t. cond t (number scene e) (scene.control x)) k

    holds_in : (c : Condition) → has_flag i c ≡ false → holds with c ≡ holds scene (in_condition i e c)
    holds_in True k = refl
    holds_in False k = refl
    holds_in (Flag x) k = ap is_set (flag_in x k)
    holds_in (FieldFlag f) k = refl
    holds_in (Lt a b) k = ap₂ int_lt (number_in a) (number_in b)
    holds_in (Le a b) k = ap₂ int_le (number_in a) (number_in b)
    holds_in (Gt a b) k = ap₂ int_lt (number_in b) (number_in a)
    holds_in (Ge a b) k = ap₂ int_le (number_in b) (number_in a)
    holds_in (Eq a b) k = ap₂ int_eq (number_in a) (number_in b)
    holds_in (And c d) k = let p = or_parts (has_flag i c) (has_flag i d) k in ap₂ ◌&&◌ (holds_in c p.0) (holds_in d p.1)
    holds_in (Or c d) k = let p = or_parts (has_flag i c) (has_flag i d) k in ap₂ ◌||◌ (holds_in c p.0) (holds_in d p.1)

    narrowed_in : (sides : List Side) (coords : List Coord) → narrowed with sides coords ≡ narrowed scene sides (in_coords i e coords)
    narrowed_in [] [] = refl
    narrowed_in [] (At a ∷ cs) = refl
    narrowed_in [] (Span a b ∷ cs) = refl
    narrowed_in (Point p ∷ sides) cs = ap (option_map (λ rest. Point p ∷ rest)) (narrowed_in sides cs)
    narrowed_in (Range lo n ∷ sides) [] = refl
    narrowed_in (Range lo n ∷ sides) (At a ∷ cs) = ap₂ (λ j o. where_true (is_below j n) (option_map (λ rest. Point (lo +ℤ j) ∷ rest) o)) (number_in a) (narrowed_in sides cs)
    narrowed_in (Range lo n ∷ sides) (Span a b ∷ cs) =
        ap (λ j. where_true (int_le (pos 0) j && int_lt j (number with b) && int_le (number with b) n) (option_map (λ rest. Range (lo +ℤ j) (number with b -ℤ j) ∷ rest) (narrowed with sides cs))) (number_in a)
        ∙ ap₂ (λ j o. where_true (int_le (pos 0) (number scene (in_control i e a)) && int_lt (number scene (in_control i e a)) j && int_le j n) (option_map (λ rest. Range (lo +ℤ number scene (in_control i e a)) (j -ℤ number scene (in_control i e a)) ∷ rest) o)) (number_in b) (narrowed_in sides cs)

    window_in : (x : ℕ) (coords : List Coord) → window with x coords ≡ window scene x (in_coords i e coords)
    window_in x coords = ap (then_do (scene.views x)) (fun_ext (λ seen. ap (option_map (λ sides. record { buffer = seen.buffer; sides = sides })) (narrowed_in seen.sides coords)))

    place_in : (x : ℕ) (is : List Control) → place with x is ≡ place scene x (in_controls i e is)
    place_in x is = ap (λ js. then_do (scene.views x) (λ seen. option_map (λ at. record { buffer = seen.buffer; at = at }) (cell_at seen.sides js))) (numbers_in is)

  value_in : (s : State) (d : Datum) → value (bound i e s) d ≡ value s (in_datum i e d)
  value_in s (Const n) = refl
  value_in s (Read x is) = ap (option_map (held s.cells)) (place_in s.scene x is)
  value_in s (Negated a) = ap (option_map (on_one (λ m. pos 0 -ℤ m))) (value_in s a)
  value_in s (Relu a) = ap (option_map (on_one relu)) (value_in s a)
  value_in s (Plus a b) = ap₂ (λ o q. then_do o (λ u. option_map (on_two ◌+ℤ◌ u) q)) (value_in s a) (value_in s b)
  value_in s (Minus a b) = ap₂ (λ o q. then_do o (λ u. option_map (on_two ◌-ℤ◌ u) q)) (value_in s a) (value_in s b)
  value_in s (Times a b) = ap₂ (λ o q. then_do o (λ u. option_map (on_two ◌*ℤ◌ u) q)) (value_in s a) (value_in s b)
  value_in s (Select a b c d) =
      ap₂ (λ o q. then_do o (λ x. then_do q (λ v. then_do (value (bound i e s) c) (λ y. option_map (on_four selected x v y) (value (bound i e s) d))))) (value_in s a) (value_in s b)
      ∙ ap₂ (λ o q. then_do (value s (in_datum i e a)) (λ x. then_do (value s (in_datum i e b)) (λ v. then_do o (λ y. option_map (on_four selected x v y) q)))) (value_in s c) (value_in s d)

  -- the number of e is the same where all names are
  record SameNames (s t : State) : Type 0 where
    control : t.scene.control ≡ s.scene.control
    views : t.scene.views ≡ s.scene.views
    buffers : t.scene.buffers ≡ s.scene.buffers

  bound_same : (s t : State) → SameNames s t → number t.scene e ≡ number s.scene e
  bound_same s t h = steady_same e t.scene s.scene steady (λ x k. ap (λ f. f x) h.control)
      (λ x k l. strides_same x t.scene s.scene (ap (λ f. f x) h.views)
      (λ seen r. ap (λ f. f seen.buffer) h.buffers) l)

  again_by : (s t : State) → number t.scene e ≡ number s.scene e
      → on_scene (with_control i (number s.scene e)) t ≡ bound i e t
  again_by s t h = ap (λ n. on_scene (with_control i n) t) (sym h)

  again : (s t : State) → SameNames s t
      → on_scene (with_control i (number s.scene e)) t ≡ bound i e t
  again s t h = again_by s t (bound_same s t h)

  abbrev Keeps : (ℕ → Bool) → State → Type 0
  Keeps = KeepsStrides e

  store_in : (s : State) (x : ℕ) (is : List Control) (d : Datum) (f : Value → Value → Value) → then_do (place (bound i e s).scene x is) (λ p. then_do (value (bound i e s) d) (λ v. put (bound i e s) (f v) p)) ≡ option_map (bound i e) (then_do (place s.scene x (in_controls i e is)) (λ p. then_do (value s (in_datum i e d)) (λ v. put s (f v) p)))
  store_in s x is d f = ap₂ (λ o q. then_do o (λ p. then_do q (λ v. put (bound i e s) (f v) p))) (place_in s.scene x is) (value_in s d) ∙ go (place s.scene x (in_controls i e is)) (value s (in_datum i e d))
    where
      inner : (v : Value) (p : Place) (o : Option Shape) → option_map (λ shape. record (bound i e s) { cells = changed s.cells p (λ old. stored_as shape.cell (f v old)) }) o ≡ option_map (bound i e) (option_map (λ shape. record s { cells = changed s.cells p (λ old. stored_as shape.cell (f v old)) }) o)
      inner v p None = refl
      inner v p (Some shape) = ap Some (again s (record s { cells = changed s.cells p (λ old. stored_as shape.cell (f v old)) }) (record { control = refl; views = refl; buffers = refl }))

      go : (o : Option Place) (q : Option Value) → then_do o (λ p. then_do q (λ v. put (bound i e s) (f v) p)) ≡ option_map (bound i e) (then_do o (λ p. then_do q (λ v. put s (f v) p)))
      go None q = refl
      go (Some p) None = refl
      go (Some p) (Some v) = inner v p (s.scene.buffers p.buffer)

  -- ---- calls

  given_in : (scene : Scene) (a : Argument) → argument_has_flag i a ≡ false → given (with scene) a ≡ given scene (in_argument i e a)
  given_in scene (ControlArg a) k = ap (λ n. Some (GivenNumber n)) (number_in scene a)
  given_in scene (ConditionArg c) k = ap (λ t. Some (GivenNumber (truth t))) (holds_in scene c k)
  given_in scene (Whole x) k = refl
  given_in scene (Window x coords) k = ap (option_map GivenView) (window_in scene x coords)

  all_given_in : (scene : Scene) (args : List Argument) → arguments_have_flag i args ≡ false → all_given (with scene) args ≡ all_given scene (in_arguments i e args)
  all_given_in scene [] k = refl
  all_given_in scene (a ∷ args) k = let p = or_parts (argument_has_flag i a) (arguments_have_flag i args) k in ap₂ (λ o q. then_do o (λ g. option_map (λ gs. g ∷ gs) q)) (given_in scene a p.0) (all_given_in scene args p.1)

  copy_in_in : (s : State) (x : ℕ) (cell : Cell) (dims : List ℤ) (g : Given) (inner : State) → copy_in (bound i e s) x cell dims g inner ≡ copy_in s x cell dims g inner
  copy_in_in s x cell dims (GivenNumber n) inner = refl
  copy_in_in s x cell dims (GivenView seen) inner = refl

  call_in : (o : Option Callee) (args : List Argument) (s : State) → arguments_have_flag i args ≡ false → call_to o args (bound i e s) ≡ option_map (bound i e) (call_to o (in_arguments i e args) s)
  call_in None args s k = refl
  call_in (Some callee) args s k =
      ap (λ o. where_true (given_all_apart callee.writes callee.procedure.params o) (then_do o (λ gs. then_do (entered callee.procedure.params gs (bound i e s)) (λ inner. option_map (returned callee gs (bound i e s)) (run_asserted callee inner))))) (all_given_in s.scene args k)
      ∙ where_map (keeps_apart callee s.scene (in_arguments i e args)) _ (copied_call callee (in_arguments i e args) s) (by_given (all_given s.scene (in_arguments i e args)))
    where
      where_map : (t : Bool) (o r : Option State) → o ≡ option_map (bound i e) r → where_true t o ≡ option_map (bound i e) (where_true t r)
      where_map true o r h = h
      where_map false o r h = refl

      by_run : (gs : List Given) (o : Option State) → option_map (returned callee gs (bound i e s)) o ≡ option_map (bound i e) (option_map (returned callee gs s) o)
      by_run gs None = refl
      by_run gs (Some done) = ap Some (again s (returned callee gs s done) (record { control = refl; views = refl; buffers = refl }))

      by_entered : (gs : List Given) (o : Option State) → then_do o (λ inner. option_map (returned callee gs (bound i e s)) (run_asserted callee inner)) ≡ option_map (bound i e) (then_do o (λ inner. option_map (returned callee gs s) (run_asserted callee inner)))
      by_entered gs None = refl
      by_entered gs (Some inner) = by_run gs (run_asserted callee inner)

      by_given : (o : Option (List Given)) → then_do o (λ gs. then_do (entered callee.procedure.params gs (bound i e s)) (λ inner. option_map (returned callee gs (bound i e s)) (run_asserted callee inner))) ≡ option_map (bound i e) (then_do o (λ gs. then_do (entered callee.procedure.params gs s) (λ inner. option_map (returned callee gs s) (run_asserted callee inner))))
      by_given None = refl
      by_given (Some gs) = by_entered gs (entered callee.procedure.params gs s)

  -- ---- trees

  -- in states of which G is so
  abbrev Binds : (State → Type 0) → (State → Option State) → (State → Option State) → Type 0
  Binds G f g = (s : State) → G s → f (bound i e s) ≡ option_map (bound i e) (g s)

  then_in : (o : Option State) (f g : State → Option State)
      → ((t : State) → o ≡ Some t → f (bound i e t) ≡ option_map (bound i e) (g t))
      → then_do (option_map (bound i e) o) f ≡ option_map (bound i e) (then_do o g)
  then_in None f g h = refl
  then_in (Some t) f g h = h t refl

  -- what stays where names see what they saw
  seen_on : (own : ℕ → Bool) (s t : State)
      → ((y : ℕ) → has_stride e y ≡ true → s.scene.views y ≡ t.scene.views y)
      → Keeps own s → Keeps own t
  seen_on own s t h k y l =
      let it = k y l in (it.0, λ seen r. it.1 seen (h y l ∙ r))

  left_in : (s : State) (o : Option State) → option_map (left (bound i e s)) (option_map (bound i e) o) ≡ option_map (bound i e) (option_map (left s) o)
  left_in s None = refl
  left_in s (Some t) = ap Some (again s (left s t) (record { control = refl; views = refl; buffers = refl }))

  -- a loop that binds neither i nor a variable of e
  module _ (x : ℕ) (other : (x == i) ≡ false) (apart : has_variable e x ≡ false) where
    inside_in : (n : ℤ) (s : State) → on_scene (with_control x n) (bound i e s) ≡ bound i e (on_scene (with_control x n) s)
    inside_in n s = ap (λ f. record { scene = record s.scene { control = f }; cells = s.cells }) (swap (number s.scene e)) ∙ ap (λ m. on_scene (with_control i m) (on_scene (with_control x n) s)) same
      where
        swap : (m : ℤ) → updated (updated s.scene.control i m) x n ≡ updated (updated s.scene.control x n) i m
        swap m = fun_ext (λ y. go m y (y == x) (y == i) (eqb-true y x) (eqb-true y i))
          where
            go : (m : ℤ) (y : ℕ) (a b : Bool) → (a ≡ true → y ≡ x) → (b ≡ true → y ≡ i) → cond a n (cond b m (s.scene.control y)) ≡ cond b m (cond a n (s.scene.control y))
            go m y true true k l = absurd (true≢false (sym (eq-eqb x i (sym (k refl) ∙ l refl)) ∙ other))
            go m y true false k l = refl
            go m y false true k l = refl
            go m y false false k l = refl

        same : number s.scene e ≡ number (on_scene (with_control x n) s).scene e
        same = steady_same e s.scene (on_scene (with_control x n) s).scene steady (λ y k. sym (updated_other s.scene.control x n y (apart_from y (y == x) refl k))) strides
          where
            apart_from : (y : ℕ) (t : Bool) → (y == x) ≡ t → has_variable e y ≡ true → (y == x) ≡ false
            apart_from y true q k = absurd (true≢false (sym k ∙ ap (has_variable e) (eqb-true y x q) ∙ apart))
            apart_from y false q k = q

            strides : (y : ℕ) → has_stride e y ≡ true → (k : ℕ)
                → stride_at s.scene (s.scene.views y) k
                ≡ stride_at (on_scene (with_control x n) s).scene (s.scene.views y) k
            strides y h k = strides_same y s.scene (on_scene (with_control x n) s).scene refl
                (λ seen r. refl) k

    turn_in : (own : ℕ → Bool) (f g : State → Option State) → Binds (Keeps own) f g → (n : ℤ)
        → Binds (Keeps own) (turn x f n) (turn x g n)
    turn_in own f g h n s k =
        ap (λ t. option_map (left (bound i e s)) (f t)) (inside_in n s)
        ∙ ap (option_map (left (bound i e s))) (h (on_scene (with_control x n) s) k)
        ∙ left_in s (g (on_scene (with_control x n) s))

    turns_in : (own : ℕ → Bool) (f g : State → Option State) → Binds (Keeps own) f g
        → (ns : List ℤ) → Binds (Keeps own) (turns (turn x f) ns) (turns (turn x g) ns)
    turns_in own f g h [] s k = refl
    turns_in own f g h (n ∷ ns) s k =
        ap (λ o. then_do o (turns (turn x f) ns)) (turn_in own f g h n s k)
        ∙ then_in (turn x g n s) (turns (turn x f) ns) (turns (turn x g) ns)
        (λ t r. turns_in own f g h ns t (seen_on own s t
        (λ y l. (if_gives (λ u. (z : ℕ) → IsSameName z s u) (turn x g n s) t (turn_names x g n s) r
        y).views) k))

  choose_in : (t : Bool) (a a' b b' : State → Option State) (s : State)
      → a (bound i e s) ≡ option_map (bound i e) (a' s)
      → b (bound i e s) ≡ option_map (bound i e) (b' s)
      → choose t a b (bound i e s) ≡ option_map (bound i e) (choose t a' b' s)
  choose_in true a a' b b' s h k = h
  choose_in false a a' b b' s h k = k

  argument_in : (scene : Scene) (a : Argument) → argument_has_flag i a ≡ false → argument_number (with scene) a ≡ argument_number scene (in_argument i e a)
  argument_in scene (ControlArg a) k = ap Some (number_in scene a)
  argument_in scene (ConditionArg c) k = ap (λ t. Some (truth t)) (holds_in scene c k)
  argument_in scene (Whole x) k = refl
  argument_in scene (Window x coords) k = refl

  configure_in : (world : World) (f : ℕ) (s : State) (o : Option ℤ) → then_do o (λ n. where_true (suits (world.kinds f) n) (Some (on_scene (with_field f n) (bound i e s)))) ≡ option_map (bound i e) (then_do o (λ n. where_true (suits (world.kinds f) n) (Some (on_scene (with_field f n) s))))
  configure_in world f s None = refl
  configure_in world f s (Some n) = go (suits (world.kinds f) n)
    where
      go : (t : Bool) → where_true t (Some (on_scene (with_field f n) (bound i e s))) ≡ option_map (bound i e) (where_true t (Some (on_scene (with_field f n) s)))
      go false = refl
      go true = ap Some (again s (on_scene (with_field f n) s) (record { control = refl; views = refl; buffers = refl }))

  allocate_in : (x : ℕ) (cell : Cell) (dims : List ℤ) (s : State) → Keeps (λ y. y == x) s
      → allocate x cell dims (bound i e s) ≡ option_map (bound i e) (allocate x cell dims s)
  allocate_in x cell dims s apart = go (all_positive dims)
    where
      made : State
      made = with_contents x (λ at. Undefined) (on_scene (with_buffer x (tensor cell dims)) s)

      same : number made.scene e ≡ number s.scene e
      same = steady_same e made.scene s.scene steady (λ y k. refl) (λ y h k. sym
          (strides_same y s.scene made.scene
          (sym (updated_other s.scene.views x (Some (record { buffer = x; sides = whole dims })) y (apart y h).0))
          (λ seen r. sym (updated_other s.scene.buffers x (Some (tensor cell dims)) seen.buffer ((apart y h).1 seen r))) k))

      go : (t : Bool) → where_true t (Some (with_contents x (λ at. Undefined) (on_scene (with_buffer x (tensor cell dims)) (bound i e s)))) ≡ option_map (bound i e) (where_true t (Some (with_contents x (λ at. Undefined) (on_scene (with_buffer x (tensor cell dims)) s))))
      go false = refl
      go true = ap Some (again_by s made same)

  view_in : (w : ℕ) (s : State) (o : Option Seen) → Keeps (λ y. y == w) s → then_do o (λ seen. Some (on_scene (with_view w seen) (bound i e s))) ≡ option_map (bound i e) (then_do o (λ seen. Some (on_scene (with_view w seen) s)))
  view_in w s None apart = refl
  view_in w s (Some seen) apart = ap Some (again_by s (on_scene (with_view w seen) s)
      (steady_same e (on_scene (with_view w seen) s).scene s.scene steady (λ y k. refl)
      (λ y h k. sym (strides_same y s.scene (on_scene (with_view w seen) s).scene
      (sym (updated_other s.scene.views w (Some seen) y (apart y h).0)) (λ other r. refl) k))))

  -- of two lists of binders
  parts : (s : State) (f g : ℕ → Bool) → Keeps (λ y. f y || g y) s → Keeps f s × Keeps g s
  parts s f g k = (
    λ y h. let it = k y h in (
      (or_parts (f y) (g y) it.0).0,
      λ seen r. (or_parts (f seen.buffer) (g seen.buffer) (it.1 seen r)).0,
    ),
    λ y h. let it = k y h in (
      (or_parts (f y) (g y) it.0).1,
      λ seen r. (or_parts (f seen.buffer) (g seen.buffer) (it.1 seen r)).1,
    ),
  )

  unbound : (a : Statement) (y : ℕ) → step_has_binder a y ≡ false
      → binds (in_statement i e a) y ≡ false
  unbound (Alloc x cell dims memory) y h = h
  unbound (View w x cs) y h = h
  unbound a y h = refl

  later : (world : World) (a : Statement) (own : ℕ → Bool) (s t : State)
      → step world (in_statement i e a) s ≡ Some t → Keeps (step_has_binder a) s → Keeps own s
      → Keeps own t
  later world a own s t r first rest = seen_on own s t
      (λ y h. (if_gives (λ u. (z : ℕ) → binds (in_statement i e a) z ≡ false → IsSameName z s u)
      (step world (in_statement i e a) s) t (step_names world (in_statement i e a) s) r y
      (unbound a y (first y h).0)).views) rest

  module _ (world : World) where
    mutual
      run_in : (b : Block) → catches i e b ≡ false
          → Binds (Keeps (has_binder b)) (run world b) (run world (in_block i e b))
      run_in end k = λ s g. refl
      run_in (next a b) k = λ s g.
          let p = or_parts (step_catches i e a) (catches i e b) k in
          let q = parts s (step_has_binder a) (has_binder b) g in
          ap (λ o. then_do o (run world b)) (step_in a p.0 s q.0)
          ∙ then_in (step world (in_statement i e a) s) (run world b) (run world (in_block i e b))
          (λ t r. run_in b p.1 t (later world a (has_binder b) s t r q.0 q.1))

      step_in : (a : Statement) → step_catches i e a ≡ false
          → Binds (Keeps (step_has_binder a)) (step world a) (step world (in_statement i e a))
      step_in (Assign x is d) k = λ s g. store_in s x is d (λ v old. v)
      step_in (Reduce x is d) k = λ s g. store_in s x is d (λ v old. on_two ◌+ℤ◌ old v)
      step_in (Config f a) k = λ s g. ap (λ o. then_do o (λ n. where_true (suits (world.kinds f) n) (Some (on_scene (with_field f n) (bound i e s))))) (argument_in s.scene a k) ∙ configure_in world f s (argument_number s.scene (in_argument i e a))
      step_in Pass k = λ s g. refl
      step_in (If c a b) k = λ s g.
          let p = or_parts (has_flag i c) (catches i e a || catches i e b) k in
          let q = or_parts (catches i e a) (catches i e b) p.1 in
          let h = parts s (has_binder a) (has_binder b) g in
          ap (λ t. scoped (choose t (run world a) (run world b)) (bound i e s)) (holds_in s.scene c p.0)
          ∙ ap (option_map (left (bound i e s))) (choose_in (holds s.scene (in_condition i e c)) (run world a) (run world (in_block i e a)) (run world b) (run world (in_block i e b)) s (run_in a q.0 s h.0) (run_in b q.1 s h.1))
          ∙ left_in s (choose (holds s.scene (in_condition i e c)) (run world (in_block i e a)) (run world (in_block i e b)) s)
      step_in (For x lo hi b) k = λ s g.
          let p = or_parts (x.id == i) (has_variable e x.id || catches i e b) k in
          let q = or_parts (has_variable e x.id) (catches i e b) p.1 in
          let h = parts s (λ y. y == x.id) (has_binder b) g in
          ap₂ (λ m n. turns (turn x.id (run world b)) (range m (count (n -ℤ m))) (bound i e s)) (number_in s.scene lo) (number_in s.scene hi)
          ∙ turns_in x.id p.0 q.0 (has_binder b) (run world b) (run world (in_block i e b)) (run_in b q.1) (turns_of s.scene (in_control i e lo) (in_control i e hi)) s h.1
      step_in (Alloc x cell dims memory) k = λ s g. ap (λ ds. allocate x.id cell ds (bound i e s)) (numbers_in s.scene dims) ∙ allocate_in x.id cell (numbers s.scene (in_controls i e dims)) s g
      step_in (View w x coords) k = λ s g. ap (λ o. then_do o (λ seen. Some (on_scene (with_view w.id seen) (bound i e s)))) (window_in s.scene x coords) ∙ view_in w.id s (window s.scene x (in_coords i e coords)) g
      step_in (Call n args) k = λ s g. call_in (world.callees n) args s k

pub steady_substitution : SteadySubstitutionLaw
steady_substitution world i e b s steady free keeps = run_in i e steady world b free s keeps

-- ---- a plain expression has no strides

pub plain_is_steady : (e : Control) → is_plain e ≡ true → is_steady e ≡ true
plain_is_steady (Lit n) p = refl
plain_is_steady (Var x) p = refl
plain_is_steady (Field f) p = p
plain_is_steady (StrideOf x k) p = refl
plain_is_steady (Neg a) p = plain_is_steady a p
plain_is_steady (Add a b) p =
    let q = and_parts (is_plain a) (is_plain b) p in
    ap₂ ◌&&◌ (plain_is_steady a q.0) (plain_is_steady b q.1)
plain_is_steady (Sub a b) p =
    let q = and_parts (is_plain a) (is_plain b) p in
    ap₂ ◌&&◌ (plain_is_steady a q.0) (plain_is_steady b q.1)
plain_is_steady (Mul a b) p =
    let q = and_parts (is_plain a) (is_plain b) p in
    ap₂ ◌&&◌ (plain_is_steady a q.0) (plain_is_steady b q.1)
plain_is_steady (Div a c) p = plain_is_steady a p
plain_is_steady (Mod a c) p = plain_is_steady a p

pub plain_has_none : (e : Control) (y : ℕ) → is_plain e ≡ true → has_stride e y ≡ false
plain_has_none (Lit n) y p = refl
plain_has_none (Var x) y p = refl
plain_has_none (Field f) y p = refl
plain_has_none (StrideOf x k) y p = absurd (true≢false (sym p))
plain_has_none (Neg a) y p = plain_has_none a y p
plain_has_none (Add a b) y p =
    let q = and_parts (is_plain a) (is_plain b) p in
    ap₂ ◌||◌ (plain_has_none a y q.0) (plain_has_none b y q.1)
plain_has_none (Sub a b) y p =
    let q = and_parts (is_plain a) (is_plain b) p in
    ap₂ ◌||◌ (plain_has_none a y q.0) (plain_has_none b y q.1)
plain_has_none (Mul a b) y p =
    let q = and_parts (is_plain a) (is_plain b) p in
    ap₂ ◌||◌ (plain_has_none a y q.0) (plain_has_none b y q.1)
plain_has_none (Div a c) y p = plain_has_none a y p
plain_has_none (Mod a c) y p = plain_has_none a y p

-- so the law of plain expressions is one of these
pub plain_substitution : SubstitutionLaw
plain_substitution world i e b s plain free =
    steady_substitution world i e b s (plain_is_steady e plain) free
    (λ y h. absurd (true≢false (sym h ∙ plain_has_none e y plain)))
