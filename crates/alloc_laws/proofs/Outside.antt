-- Uses of a buffer at a point outside of it fault, so the point may be another.
use Rattle.std.proofs.Common.{◌≡◌, ◌==◌, ℕ, ℤ, pos, ◌+ℤ◌, ◌-ℤ◌, ◌*ℤ◌, ◌||◌, Bool, true, false, cond}
use Rattle.std.proofs.Common.{List, [], ◌∷◌, Option, Some, None, option_map, refl, sym, ap, ap₂}
use Rattle.std.proofs.Common.{◌∙◌, subst}
use Rattle.exo_tree.specs.Tree.{Control, Lit, Var, Field, StrideOf, Neg, Add, Sub, Mul, Div, Mod}
use Rattle.exo_tree.specs.Tree.{Condition, True, False, Flag, FieldFlag, Lt, Le, Gt, Ge, Eq, And}
use Rattle.exo_tree.specs.Tree.{Or}
use Rattle.exo_tree.specs.Tree.{Datum, Const, Read, Negated, Relu, Plus, Minus, Times, Select}
use Rattle.exo_tree.specs.Tree.{Coord, At, Span, Argument, ControlArg, ConditionArg, Whole, Window}
use Rattle.exo_tree.specs.Tree.{Statement, Assign, Reduce, Config, Pass, If, For, Alloc, View, Call}
use Rattle.exo_tree.specs.Tree.{Block, end, next}
use Rattle.exo_meaning.specs.Value.{Value, on_one, on_two, on_four, relu, selected}
use Rattle.exo_meaning.specs.Scene.{Point, Seen, Scene, then_do, number, numbers, holds}
use Rattle.exo_meaning.specs.Scene.{narrowed, window, cell_at, is_below, where_true}
use Rattle.exo_meaning.specs.State.{State, place, held, put, value, on_scene, with_control}
use Rattle.exo_meaning.specs.State.{with_field, left, scoped}
use Rattle.exo_meaning.specs.Calls.{Callee, Given, GivenNumber, GivenView, given, all_given, truth}
use Rattle.exo_meaning.specs.Calls.{suits, entered, returned, run_asserted, given_all_apart}
use Rattle.exo_meaning.specs.Run.{World, run, step, argument_number, call_to, turn, turns, turns_of}
use Rattle.exo_meaning.specs.Run.{choose}
use Rattle.exo_meaning.proofs.Frame.{or_parts}
use Rattle.meaning_laws.specs.Scoped.{has_binder, step_has_binder}
use Rattle.meaning_laws.specs.Sound.{IsSameName, binds}
use Rattle.meaning_laws.specs.Substitute.{is_plain, has_variable}
use Rattle.meaning_laws.proofs.Apart.{binds_less}
use Rattle.meaning_laws.proofs.Names.{if_gives, step_names, turn_names}
use Rattle.meaning_laws.proofs.Substitute.{plain_same}
use Rattle.inplace_laws.specs.Windows.{shifted, joined_coords, nth_span, to_name, coords_at}
use Rattle.inplace_laws.specs.Windows.{in_control}
use Rattle.inplace_laws.specs.Windows.{in_controls, in_condition, in_datum, in_coords, in_argument}
use Rattle.inplace_laws.specs.Windows.{in_arguments, in_statement, in_block}
use Rattle.alloc_laws.specs.Outside.{IsOutside, OutsideLaw}
use Rattle.inplace_laws.proofs.Windows.{Goes, goes_same, goes_then, goes_map}

-- what goes somewhere goes there from what is the same
goes_from : {A : Type 0} (o p q : Option A) → o ≡ p → Goes p q → Goes o q
goes_from o p q e h = subst (λ z. Goes z q) (sym e) h

module _ (x : ℕ) (e f : Control) where
  abbrev t : Argument
  t = Window x (At e ∷ [])

  abbrev v : Argument
  v = Window x (At f ∷ [])

  -- ---- control expressions do not show the point

  pub control : (c : Control) → in_control x t c ≡ in_control x v c
  control (Lit n) = refl
  control (Var y) = refl
  control (Field g) = refl
  control (StrideOf y k) = by (y == x)
    where
      by : (q : Bool) → StrideOf (cond q x y) (nth_span (cond q (At e ∷ []) []) k)
          ≡ StrideOf (cond q x y) (nth_span (cond q (At f ∷ []) []) k)
      by true = refl
      by false = refl
  control (Neg a) = ap Neg (control a)
  control (Add a b) = ap₂ Add (control a) (control b)
  control (Sub a b) = ap₂ Sub (control a) (control b)
  control (Mul a b) = ap₂ Mul (control a) (control b)
  control (Div a c) = ap (λ z. Div z c) (control a)
  control (Mod a c) = ap (λ z. Mod z c) (control a)

  pub controls : (es : List Control) → in_controls x t es ≡ in_controls x v es
  controls [] = refl
  controls (a ∷ es) = ap₂ ◌∷◌ (control a) (controls es)

  pub condition : (c : Condition) → in_condition x t c ≡ in_condition x v c
  condition True = refl
  condition False = refl
  condition (Flag y) = refl
  condition (FieldFlag g) = refl
  condition (Lt a b) = ap₂ Lt (control a) (control b)
  condition (Le a b) = ap₂ Le (control a) (control b)
  condition (Gt a b) = ap₂ Gt (control a) (control b)
  condition (Ge a b) = ap₂ Ge (control a) (control b)
  condition (Eq a b) = ap₂ Eq (control a) (control b)
  condition (And c d) = ap₂ And (condition c) (condition d)
  condition (Or c d) = ap₂ Or (condition c) (condition d)

  pub coords : (ds : List Coord) → in_coords x t ds ≡ in_coords x v ds
  coords [] = refl
  coords (At a ∷ ds) = ap₂ (λ z zs. At z ∷ zs) (control a) (coords ds)
  coords (Span a b ∷ ds) =
      ap₂ (λ z zs. Span z (in_control x t b) ∷ zs) (control a) (coords ds)
      ∙ ap (λ z. Span (in_control x v a) z ∷ in_coords x v ds) (control b)

  -- ---- a scene in which the point is outside

  module _ (scene : Scene) (o : IsOutside x e scene) where
    no_place : (is : List Control) → place scene x (e ∷ is) ≡ None
    no_place is =
        ap (λ z. then_do z (λ (seen : Seen). option_map (λ at. record { buffer = seen.buffer; at = at })
        (cell_at seen.sides (numbers scene (e ∷ is))))) o.name
        ∙ ap (λ q. option_map (λ at. record { buffer = o.buffer; at = at }) (where_true q
        (option_map (λ at. (o.lo +ℤ number scene e) ∷ at) (cell_at o.sides (numbers scene is))))) o.out

    no_window : (ds : List Coord) → window scene x (At e ∷ ds) ≡ None
    no_window ds =
        ap (λ z. then_do z (λ (seen : Seen). option_map (λ sides. record {
          buffer = seen.buffer;
          sides = sides;
        }) (narrowed scene seen.sides (At e ∷ ds)))) o.name
        ∙ ap (λ q. option_map (λ sides. record { buffer = o.buffer; sides = sides }) (where_true q
        (option_map (λ sides. Point (o.lo +ℤ number scene e) ∷ sides) (narrowed scene o.sides ds)))) o.out

    place_goes : (y : ℕ) (is : List Control)
        → Goes (place scene (to_name x t y) (shifted (coords_at x t y) (in_controls x t is)))
        (place scene (to_name x v y) (shifted (coords_at x v y) (in_controls x v is)))
    place_goes y is =
        subst (λ js. Goes (place scene (to_name x t y) (shifted (coords_at x t y) js))
        (place scene (to_name x v y) (shifted (coords_at x v y) (in_controls x v is))))
        (sym (controls is)) (by (y == x))
      where
        by : (q : Bool) → Goes
            (place scene (cond q x y) (shifted (cond q (At e ∷ []) []) (in_controls x v is)))
            (place scene (cond q x y) (shifted (cond q (At f ∷ []) []) (in_controls x v is)))
        by true = goes_from _ None _ (no_place (in_controls x v is)) tt
        by false = goes_same _

    window_goes : (y : ℕ) (ds : List Coord)
        → Goes (window scene (to_name x t y) (joined_coords (coords_at x t y) (in_coords x t ds)))
        (window scene (to_name x v y) (joined_coords (coords_at x v y) (in_coords x v ds)))
    window_goes y ds =
        subst (λ js. Goes (window scene (to_name x t y) (joined_coords (coords_at x t y) js))
        (window scene (to_name x v y) (joined_coords (coords_at x v y) (in_coords x v ds))))
        (sym (coords ds)) (by (y == x))
      where
        by : (q : Bool) → Goes
            (window scene (cond q x y) (joined_coords (cond q (At e ∷ []) []) (in_coords x v ds)))
            (window scene (cond q x y) (joined_coords (cond q (At f ∷ []) []) (in_coords x v ds)))
        by true = goes_from _ None _ (no_window (in_coords x v ds)) tt
        by false = goes_same _

    given_goes : (g : Argument)
        → Goes (given scene (in_argument x t g)) (given scene (in_argument x v g))
    given_goes (ControlArg a) = ap (λ z. Some (GivenNumber (number scene z))) (sym (control a))
    given_goes (ConditionArg c) =
        ap (λ z. Some (GivenNumber (truth (holds scene z)))) (sym (condition c))
    given_goes (Whole y) = by (y == x)
      where
        by : (q : Bool) → Goes (given scene (cond q t (Whole y))) (given scene (cond q v (Whole y)))
        by true = goes_from _ None _ (ap (option_map GivenView) (no_window [])) tt
        by false = goes_same _
    given_goes (Window y ds) = goes_map _ _ GivenView (window_goes y ds)

    all_given_goes : (gs : List Argument)
        → Goes (all_given scene (in_arguments x t gs)) (all_given scene (in_arguments x v gs))
    all_given_goes [] = refl
    all_given_goes (g ∷ gs) =
        goes_then _ _ _ _ (given_goes g) (λ z k. goes_map _ _ (λ zs. z ∷ zs) (all_given_goes gs))

    number_goes : (g : Argument)
        → Goes (argument_number scene (in_argument x t g)) (argument_number scene (in_argument x v g))
    number_goes (ControlArg a) = ap (λ z. Some (number scene z)) (sym (control a))
    number_goes (ConditionArg c) = ap (λ z. Some (truth (holds scene z))) (sym (condition c))
    number_goes (Whole y) = by (y == x)
      where
        by : (q : Bool) → Goes (argument_number scene (cond q t (Whole y)))
            (argument_number scene (cond q v (Whole y)))
        by true = tt
        by false = tt
    number_goes (Window y ds) = tt

  -- ---- states

  module _ (s : State) (o : IsOutside x e s.scene) where
    value_goes : (d : Datum) → Goes (value s (in_datum x t d)) (value s (in_datum x v d))
    value_goes (Const n) = refl
    value_goes (Read y is) = goes_map _ _ (held s.cells) (place_goes s.scene o y is)
    value_goes (Negated a) = goes_map _ _ (on_one (λ m. pos 0 -ℤ m)) (value_goes a)
    value_goes (Relu a) = goes_map _ _ (on_one relu) (value_goes a)
    value_goes (Plus a b) =
        goes_then _ _ _ _ (value_goes a) (λ u i. goes_map _ _ (on_two ◌+ℤ◌ u) (value_goes b))
    value_goes (Minus a b) =
        goes_then _ _ _ _ (value_goes a) (λ u i. goes_map _ _ (on_two ◌-ℤ◌ u) (value_goes b))
    value_goes (Times a b) =
        goes_then _ _ _ _ (value_goes a) (λ u i. goes_map _ _ (on_two ◌*ℤ◌ u) (value_goes b))
    value_goes (Select a b c d) =
        goes_then _ _ _ _ (value_goes a) (λ z i. goes_then _ _ _ _ (value_goes b) (λ w j.
        goes_then _ _ _ _ (value_goes c) (λ y k. goes_map _ _ (on_four selected z w y) (value_goes d))))

    store_goes : (y : ℕ) (is : List Control) (d : Datum) (g : Value → Value → Value)
        → Goes (then_do (place s.scene (to_name x t y) (shifted (coords_at x t y) (in_controls x t is)))
        (λ p. then_do (value s (in_datum x t d)) (λ w. put s (g w) p)))
        (then_do (place s.scene (to_name x v y) (shifted (coords_at x v y) (in_controls x v is)))
        (λ p. then_do (value s (in_datum x v d)) (λ w. put s (g w) p)))
    store_goes y is d g =
        goes_then _ _ _ _ (place_goes s.scene o y is) (λ p i.
        goes_then _ _ _ _ (value_goes d) (λ w j. goes_same (put s (g w) p)))

    -- the call, by what is given for its arguments
    abbrev called : Callee → Option (List Given) → Option State
    called c gs =
        where_true (given_all_apart c.writes c.procedure.params gs) (then_do gs (λ ns.
        then_do (entered c.procedure.params ns s) (λ inner.
        option_map (returned c ns s) (run_asserted c inner))))

    called_goes : (c : Callee) (p q : Option (List Given)) → Goes p q
        → Goes (called c p) (called c q)
    called_goes c None q k = tt
    called_goes c (Some ns) q k =
        subst (λ r. Goes (called c (Some ns)) (called c r)) (sym k) (goes_same (called c (Some ns)))

    call_goes : (c : Option Callee) (gs : List Argument)
        → Goes (call_to c (in_arguments x t gs) s) (call_to c (in_arguments x v gs) s)
    call_goes None gs = tt
    call_goes (Some c) gs =
        called_goes c (all_given s.scene (in_arguments x t gs)) (all_given s.scene (in_arguments x v gs))
        (all_given_goes s.scene o gs)

  -- ---- trees

  module _ (plain : is_plain e ≡ true) where
    pub record Ready (bound : ℕ → Bool) (s : State) : Type 0 where
      pub out : IsOutside x e s.scene
      pub own : bound x ≡ false
      pub variables : (y : ℕ) → has_variable e y ≡ true → bound y ≡ false

    fewer : (g h : ℕ → Bool) (s : State) → ((y : ℕ) → g y ≡ false → h y ≡ false) → Ready g s
        → Ready h s
    fewer g h s k r =
        record { out = r.out; own = k x r.own; variables = λ y i. k y (r.variables y i) }

    left_bound : (g h : ℕ → Bool) (s : State) → Ready (λ y. g y || h y) s → Ready g s
    left_bound g h s r = fewer (λ y. g y || h y) g s (λ y i. (or_parts (g y) (h y) i).0) r

    right_bound : (g h : ℕ → Bool) (s : State) → Ready (λ y. g y || h y) s → Ready h s
    right_bound g h s r = fewer (λ y. g y || h y) h s (λ y i. (or_parts (g y) (h y) i).1) r

    moved : (bound : ℕ → Bool) (s u : State) → ((y : ℕ) → bound y ≡ false → IsSameName y s u)
        → Ready bound s → Ready bound u
    moved bound s u k r = record {
      out = record {
        buffer = r.out.buffer;
        lo = r.out.lo;
        size = r.out.size;
        sides = r.out.sides;
        name = sym (k x r.own).views ∙ r.out.name;
        out =
            ap (λ n. is_below n r.out.size)
            (sym (plain_same e s.scene u.scene plain (λ y i. (k y (r.variables y i)).control)))
            ∙ r.out.out;
      };
      own = r.own;
      variables = r.variables;
    }

    abbrev GoesOn : (ℕ → Bool) → (State → Option State) → (State → Option State) → Type 0
    GoesOn bound g h = (s : State) → Ready bound s → Goes (g s) (h s)

    turn_goes : (i : ℕ) (bound : ℕ → Bool) (g h : State → Option State) (n : ℤ) → GoesOn bound g h
        → GoesOn (λ y. (y == i) || bound y) (turn i g n) (turn i h n)
    turn_goes i bound g h n k s r =
        let u = on_scene (with_control i n) s in
        goes_map (g u) (h u) (left s) (k u
        (right_bound (λ y. y == i) bound u
        (moved (λ y. (y == i) || bound y) s u (λ y j. record {
          control = sym (ap (λ q. cond q n (s.scene.control y)) (or_parts (y == i) (bound y) j).0);
          buffers = refl;
          views = refl;
        }) r)))

    turns_go : (i : ℕ) (bound : ℕ → Bool) (g h : State → Option State) (ns : List ℤ)
        → GoesOn bound g h
        → GoesOn (λ y. (y == i) || bound y) (turns (turn i g) ns) (turns (turn i h) ns)
    turns_go i bound g h [] k s r = refl
    turns_go i bound g h (n ∷ ns) k s r =
        goes_then (turn i g n s) (turn i h n s) (turns (turn i g) ns) (turns (turn i h) ns)
        (turn_goes i bound g h n k s r) (λ u j.
        turns_go i bound g h ns k u (moved (λ y. (y == i) || bound y) s u (λ y d.
        if_gives (λ u. (y : ℕ) → IsSameName y s u) (turn i g n s) u (turn_names i g n s) j y) r))

    choose_goes : (q : Bool) (bound : ℕ → Bool) (g h g' h' : State → Option State)
        → GoesOn bound g h → GoesOn bound g' h' → GoesOn bound (choose q g g') (choose q h h')
    choose_goes true bound g h g' h' k l = k
    choose_goes false bound g h g' h' k l = l

    binds_same : (a : Statement) (y : ℕ) → binds a y ≡ false → binds (in_statement x t a) y ≡ false
    binds_same (Assign z is d) y h = h
    binds_same (Reduce z is d) y h = h
    binds_same (Config g a) y h = h
    binds_same Pass y h = h
    binds_same (If c a b) y h = h
    binds_same (For i lo hi b) y h = h
    binds_same (Alloc z cell dims memory) y h = h
    binds_same (View w z ds) y h = h
    binds_same (Call k gs) y h = h

    module _ (world : World) where
      mutual
        pub run_goes : (b : Block)
            → GoesOn (has_binder b) (run world (in_block x t b)) (run world (in_block x v b))
        run_goes end = λ s r. refl
        run_goes (next a b) = λ s r.
            goes_then (step world (in_statement x t a) s) (step world (in_statement x v a) s)
            (run world (in_block x t b)) (run world (in_block x v b))
            (step_goes a s (left_bound (step_has_binder a) (has_binder b) s r)) (λ u i.
            run_goes b u (right_bound (step_has_binder a) (has_binder b) u
            (moved (λ y. step_has_binder a y || has_binder b y) s u (λ y d.
            if_gives (λ u. (z : ℕ) → binds (in_statement x t a) z ≡ false → IsSameName z s u)
            (step world (in_statement x t a) s) u (step_names world (in_statement x t a) s) i y
            (binds_same a y (binds_less a y (or_parts (step_has_binder a y) (has_binder b y) d).0))) r)))

        step_goes : (a : Statement)
            → GoesOn (step_has_binder a) (step world (in_statement x t a)) (step world (in_statement x v a))
        step_goes (Assign y is d) = λ s r. store_goes s r.out y is d (λ w old. w)
        step_goes (Reduce y is d) = λ s r. store_goes s r.out y is d (λ w old. on_two ◌+ℤ◌ old w)
        step_goes (Config g a) = λ s r.
            goes_then _ _ _ _ (number_goes s.scene r.out a) (λ n i.
            goes_same (where_true (suits (world.kinds g) n) (Some (on_scene (with_field g n) s))))
        step_goes Pass = λ s r. refl
        step_goes (If c a b) = λ s r.
            subst (λ z. Goes (scoped (choose (holds s.scene z) (run world (in_block x t a)) (run world (in_block x t b))) s)
            (step world (If (in_condition x v c) (in_block x v a) (in_block x v b)) s)) (sym (condition c))
            (goes_map _ _ (left s)
            (choose_goes (holds s.scene (in_condition x v c)) (λ y. has_binder a y || has_binder b y)
            (run world (in_block x t a)) (run world (in_block x v a)) (run world (in_block x t b))
            (run world (in_block x v b)) (λ u k. run_goes a u (left_bound (has_binder a) (has_binder b) u k))
            (λ u k. run_goes b u (right_bound (has_binder a) (has_binder b) u k)) s r))
        step_goes (For i lo hi b) = λ s r.
            subst (λ (z : Control × Control). Goes (turns (turn i.id (run world (in_block x t b))) (turns_of s.scene z.0 z.1) s)
            (step world (For i (in_control x v lo) (in_control x v hi) (in_block x v b)) s))
            (sym (ap₂ (λ l h. (l, h)) (control lo) (control hi)))
            (turns_go i.id (has_binder b) (run world (in_block x t b)) (run world (in_block x v b))
            (turns_of s.scene (in_control x v lo) (in_control x v hi)) (run_goes b) s r)
        step_goes (Alloc y cell dims memory) = λ s r.
            subst (λ ds. Goes (step world (Alloc y cell ds memory) s)
            (step world (Alloc y cell (in_controls x v dims) memory) s)) (sym (controls dims)) (goes_same _)
        step_goes (View w y ds) = λ s r.
            goes_then _ _ _ _ (window_goes s.scene r.out y ds) (λ z i. refl)
        step_goes (Call k gs) = λ s r. call_goes s r.out (world.callees k) gs

pub outside_law : OutsideLaw
outside_law world x e f b s plain out own variables =
    run_goes x e f plain world b s (record { out = out; own = own; variables = variables })
