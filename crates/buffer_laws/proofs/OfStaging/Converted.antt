-- A block in which a buffer stands for a window of a name.
use Rattle.std.proofs.Common.{◌≡◌, ℕ, ℤ, ◌+ℤ◌, ◌-ℤ◌, ◌*ℤ◌, pos, int_le, int_lt, ◌==◌, ◌||◌, ◌&&◌}
use Rattle.std.proofs.Common.{Bool, true, false, cond, List, [], ◌∷◌, Option, Some, None}
use Rattle.std.proofs.Common.{option_map}
use Rattle.std.proofs.Common.{refl, sym, ap, ap₂, ◌∙◌, subst, eqb-true, eq-eqb, arith}
use Rattle.std.proofs.lemmas.Int.{ints}
use Rattle.exo_tree.specs.Tree.{Control, Lit, Var, Field, StrideOf, Neg, Add, Sub, Mul, Div, Mod}
use Rattle.exo_tree.specs.Tree.{Condition, True, False, Flag, FieldFlag, Lt, Le, Gt, Ge, Eq, And}
use Rattle.exo_tree.specs.Tree.{Or}
use Rattle.exo_tree.specs.Tree.{Coord, At, Span, Datum, Const, Read, Negated, Relu, Plus, Minus}
use Rattle.exo_tree.specs.Tree.{Times, Select, Argument, ControlArg, ConditionArg, Whole, Window}
use Rattle.exo_tree.specs.Tree.{Statement, Assign, Reduce, Config, Pass, If, For, Alloc, View, Call}
use Rattle.exo_tree.specs.Tree.{Block, end, next}
use Rattle.exo_tree.specs.Context.{Context, Here, After, InLoop, InThen, InElse, fill}
use Rattle.exo_meaning.specs.Value.{Value, on_two, on_one, on_four, relu, selected}
use Rattle.exo_meaning.specs.Scene.{Side, Point, Range, Seen, Scene, then_do, number, numbers}
use Rattle.exo_meaning.specs.Scene.{holds}
use Rattle.exo_meaning.specs.Scene.{narrowed, window, cell_at, is_below, where_true}
use Rattle.exo_meaning.specs.State.{State, Place, place, held, put, value, on_scene, with_control}
use Rattle.exo_meaning.specs.State.{with_field, with_view}
use Rattle.exo_meaning.specs.Calls.{given_all_apart}
use Rattle.exo_meaning.specs.Calls.{Callee, GivenNumber, GivenView, given, all_given, truth, suits}
use Rattle.exo_meaning.specs.Calls.{entered, returned, run_asserted}
use Rattle.exo_meaning.specs.Run.{World, run, step, argument_number, turn, turns_of, call_to}
use Rattle.exo_meaning.specs.Unseen.{in_control as control_mentions}
use Rattle.exo_meaning.specs.Unseen.{in_controls as controls_mention}
use Rattle.exo_meaning.specs.Unseen.{in_condition as condition_mentions, in_datum as datum_mentions}
use Rattle.exo_meaning.specs.Unseen.{in_coords as coords_mention, in_argument as argument_mentions}
use Rattle.exo_meaning.specs.Unseen.{in_arguments as arguments_mention, in_block as mentions}
use Rattle.exo_meaning.specs.Unseen.{in_statement as statement_mentions}
use Rattle.exo_meaning.proofs.Frame.{or_parts}
use Rattle.exo_meaning.proofs.Compose.{then_cong}
use Rattle.meaning_laws.specs.Context.{ComesTo, ComesToTurn}
use Rattle.inplace_laws.specs.Along.{SameAlong, both_end, both_next, SameThere, at_once}
use Rattle.inplace_laws.specs.Along.{in_branches}
use Rattle.inplace_laws.specs.Along.{in_turns}
use Rattle.inplace_laws.specs.Windows.{shifted, joined_coords, nth_span, to_name}
use Rattle.inplace_laws.specs.Windows.{coords_at as spots_of, in_control as control_with}
use Rattle.inplace_laws.specs.Windows.{in_controls as controls_with, in_condition as condition_with}
use Rattle.inplace_laws.specs.Windows.{in_datum as datum_with, in_coords as coords_with}
use Rattle.inplace_laws.specs.Windows.{in_argument as argument_with, in_block as block_with}
use Rattle.inplace_laws.specs.Windows.{in_arguments as arguments_with}
use Rattle.inplace_laws.specs.Windows.{in_statement as statement_with}
use Rattle.inplace_laws.proofs.Along.{along_law}
use Rattle.buffer_laws.specs.Staging.Converted.{indices_on, coords_on, name_on}
use Rattle.buffer_laws.specs.Staging.Converted.{converted_datum, converted_argument, converted_arguments}
use Rattle.buffer_laws.specs.Staging.Converted.{converted_statement, converted, IndicesFit, CoordsFit}
use Rattle.buffer_laws.specs.Staging.Converted.{IndicesAt, CoordsAt, DatumFits, ArgumentFits, ArgumentsFit}
use Rattle.buffer_laws.specs.Staging.Converted.{StatementFits, FitsAlong, FitsWithin, FitsLaw}
use Rattle.buffer_laws.specs.Staging.Converted.{ConvertedAlong, ConvertedLaw}

-- ---- coordinates with the same numbers

module _ (scene : Scene) where
  abbrev SameCoords : List Coord → List Coord → Type 0
  SameCoords [] [] = Unit {0}
  SameCoords [] (d ∷ ds) = ⊥
  SameCoords (c ∷ cs) [] = ⊥
  SameCoords (At e ∷ cs) (At f ∷ ds) = (number scene e ≡ number scene f) × SameCoords cs ds
  SameCoords (At e ∷ cs) (Span f g ∷ ds) = ⊥
  SameCoords (Span e f ∷ cs) (At g ∷ ds) = ⊥
  SameCoords (Span e f ∷ cs) (Span g h ∷ ds) =
      (number scene e ≡ number scene g) × (number scene f ≡ number scene h) × SameCoords cs ds

  narrowed_same : (sides : List Side) (cs ds : List Coord) → SameCoords cs ds
      → narrowed scene sides cs ≡ narrowed scene sides ds
  narrowed_same [] [] [] h = refl
  narrowed_same [] [] (d ∷ ds) h = absurd h
  narrowed_same [] (c ∷ cs) [] h = absurd h
  narrowed_same [] (c ∷ cs) (d ∷ ds) h = refl
  narrowed_same (Point p ∷ sides) cs ds h =
      ap (option_map (λ rest. Point p ∷ rest)) (narrowed_same sides cs ds h)
  narrowed_same (Range lo n ∷ sides) [] [] h = refl
  narrowed_same (Range lo n ∷ sides) [] (d ∷ ds) h = absurd h
  narrowed_same (Range lo n ∷ sides) (c ∷ cs) [] h = absurd h
  narrowed_same (Range lo n ∷ sides) (At e ∷ cs) (At f ∷ ds) h =
      ap₂ (λ i o. where_true (is_below i n) (option_map (λ rest. Point (lo +ℤ i) ∷ rest) o))
      h.0 (narrowed_same sides cs ds h.1)
  narrowed_same (Range lo n ∷ sides) (At e ∷ cs) (Span f g ∷ ds) h = absurd h
  narrowed_same (Range lo n ∷ sides) (Span e f ∷ cs) (At g ∷ ds) h = absurd h
  narrowed_same (Range lo n ∷ sides) (Span e f ∷ cs) (Span g k ∷ ds) h =
      ap (λ i. where_true (int_le (pos 0) i && int_lt i (number scene f)
      && int_le (number scene f) n) (option_map (λ rest. Range (lo +ℤ i)
      (number scene f -ℤ i) ∷ rest) (narrowed scene sides cs))) h.0
      ∙ ap₂ (λ j o. where_true (int_le (pos 0) (number scene g) && int_lt (number scene g) j
      && int_le j n) (option_map (λ rest. Range (lo +ℤ number scene g)
      (j -ℤ number scene g) ∷ rest) o)) h.1 (narrowed_same sides cs ds h.2)

  window_same : (y : ℕ) (cs ds : List Coord) → SameCoords cs ds
      → window scene y cs ≡ window scene y ds
  window_same y cs ds h = then_cong (scene.views y)
      (λ z. option_map (seen_on z.buffer) (narrowed scene z.sides cs))
      (λ z. option_map (seen_on z.buffer) (narrowed scene z.sides ds))
      (λ z. ap (option_map (seen_on z.buffer)) (narrowed_same z.sides cs ds h))
    where
      seen_on : ℕ → List Side → Seen
      seen_on b sides = record { buffer = b; sides = sides }

-- ---- trees that do not use a

module _ (a x : ℕ) (coords : List Coord) where
  abbrev t : Argument
  t = Window x coords

  abbrev new : ℕ → Bool
  new y = y == a

  pub control_same : (e : Control) → control_mentions new e ≡ false → control_with a t e ≡ e
  control_same (Lit n) h = refl
  control_same (Var y) h = refl
  control_same (Field f) h = refl
  control_same (StrideOf y k) h =
      ap (λ r. StrideOf (cond r x y) (nth_span (cond r coords []) k)) h
  control_same (Neg e) h = ap Neg (control_same e h)
  control_same (Add e f) h = let p = or_parts (control_mentions new e) (control_mentions new f) h in
      ap₂ Add (control_same e p.0) (control_same f p.1)
  control_same (Sub e f) h = let p = or_parts (control_mentions new e) (control_mentions new f) h in
      ap₂ Sub (control_same e p.0) (control_same f p.1)
  control_same (Mul e f) h = let p = or_parts (control_mentions new e) (control_mentions new f) h in
      ap₂ Mul (control_same e p.0) (control_same f p.1)
  control_same (Div e c) h = ap (λ z. Div z c) (control_same e h)
  control_same (Mod e c) h = ap (λ z. Mod z c) (control_same e h)

  pub controls_same : (is : List Control) → controls_mention new is ≡ false
      → controls_with a t is ≡ is
  controls_same [] h = refl
  controls_same (e ∷ is) h =
      let p = or_parts (control_mentions new e) (controls_mention new is) h in
      ap₂ ◌∷◌ (control_same e p.0) (controls_same is p.1)

  two_same : (f : Control → Control → Condition) (d e : Control)
      → (control_mentions new d || control_mentions new e) ≡ false
      → f (control_with a t d) (control_with a t e) ≡ f d e
  two_same f d e h = let p = or_parts (control_mentions new d) (control_mentions new e) h in
      ap₂ f (control_same d p.0) (control_same e p.1)

  pub condition_same : (c : Condition) → condition_mentions new c ≡ false → condition_with a t c ≡ c
  condition_same True h = refl
  condition_same False h = refl
  condition_same (Flag y) h = refl
  condition_same (FieldFlag f) h = refl
  condition_same (Lt d e) h = two_same Lt d e h
  condition_same (Le d e) h = two_same Le d e h
  condition_same (Gt d e) h = two_same Gt d e h
  condition_same (Ge d e) h = two_same Ge d e h
  condition_same (Eq d e) h = two_same Eq d e h
  condition_same (And c d) h =
      let p = or_parts (condition_mentions new c) (condition_mentions new d) h in
      ap₂ And (condition_same c p.0) (condition_same d p.1)
  condition_same (Or c d) h =
      let p = or_parts (condition_mentions new c) (condition_mentions new d) h in
      ap₂ Or (condition_same c p.0) (condition_same d p.1)

  pub coords_same : (ds : List Coord) → coords_mention new ds ≡ false → coords_with a t ds ≡ ds
  coords_same [] h = refl
  coords_same (At e ∷ ds) h =
      let p = or_parts (control_mentions new e) (coords_mention new ds) h in
      ap₂ (λ f cs. At f ∷ cs) (control_same e p.0) (coords_same ds p.1)
  coords_same (Span e f ∷ ds) h =
      let p = or_parts (control_mentions new e) (control_mentions new f || coords_mention new ds)
      h in
      let q = or_parts (control_mentions new f) (coords_mention new ds) p.1 in
      ap₂ (λ g cs. Span g (control_with a t f) ∷ cs) (control_same e p.0) (coords_same ds q.1)
      ∙ ap (λ g. Span e g ∷ ds) (control_same f q.0)

  -- ---- indices and coordinates, there and back

  back : (m n : ℤ) → m +ℤ (n -ℤ m) ≡ n
  back m n = omega (arith, ints)

  module _ (scene : Scene) where
    under : (u e : Control) → control_mentions new u ≡ false → control_mentions new e ≡ false
        → number scene (Add u (Sub (control_with a t e) (control_with a t u))) ≡ number scene e
    under u e h k =
        ap₂ (λ (p q : Control). number scene u +ℤ (number scene p -ℤ number scene q))
        (control_same e k) (control_same u h)
        ∙ back (number scene u) (number scene e)

    numbers_back : (cs : List Coord) (is : List Control) → coords_mention new cs ≡ false
        → controls_mention new is ≡ false → IndicesFit scene cs is
        → numbers scene (shifted cs (controls_with a t (indices_on cs is))) ≡ numbers scene is
    numbers_back [] [] h k fit = refl
    numbers_back [] (e ∷ is) h k fit = absurd fit
    numbers_back (At u ∷ cs) [] h k fit = absurd fit
    numbers_back (Span u v ∷ cs) [] h k fit = absurd fit
    numbers_back (At u ∷ cs) (e ∷ is) h k fit =
        let p = or_parts (control_mentions new u) (coords_mention new cs) h in
        let q = or_parts (control_mentions new e) (controls_mention new is) k in
        ap₂ ◌∷◌ (sym fit.0) (numbers_back cs is p.1 q.1 fit.1)
    numbers_back (Span u v ∷ cs) (e ∷ is) h k fit =
        let p = or_parts (control_mentions new u)
        (control_mentions new v || coords_mention new cs) h in
        let o = or_parts (control_mentions new v) (coords_mention new cs) p.1 in
        let q = or_parts (control_mentions new e) (controls_mention new is) k in
        ap₂ ◌∷◌ (under u e p.0 q.0) (numbers_back cs is o.1 q.1 fit)

    coords_back : (cs ds : List Coord) → coords_mention new cs ≡ false
        → coords_mention new ds ≡ false → CoordsFit scene cs ds
        → SameCoords scene (joined_coords cs (coords_with a t (coords_on cs ds))) ds
    coords_back [] [] h k fit = tt
    coords_back [] (d ∷ ds) h k fit = absurd fit
    coords_back (At u ∷ cs) [] h k fit = absurd fit
    coords_back (Span u v ∷ cs) [] h k fit = absurd fit
    coords_back (At u ∷ cs) (At e ∷ ds) h k fit =
        let p = or_parts (control_mentions new u) (coords_mention new cs) h in
        let q = or_parts (control_mentions new e) (coords_mention new ds) k in
        (sym fit.0, coords_back cs ds p.1 q.1 fit.1)
    coords_back (At u ∷ cs) (Span e f ∷ ds) h k fit = absurd fit
    coords_back (Span u v ∷ cs) (At e ∷ ds) h k fit =
        let p = or_parts (control_mentions new u)
        (control_mentions new v || coords_mention new cs) h in
        let o = or_parts (control_mentions new v) (coords_mention new cs) p.1 in
        let q = or_parts (control_mentions new e) (coords_mention new ds) k in
        (under u e p.0 q.0, coords_back cs ds o.1 q.1 fit)
    coords_back (Span u v ∷ cs) (Span e f ∷ ds) h k fit =
        let p = or_parts (control_mentions new u)
        (control_mentions new v || coords_mention new cs) h in
        let o = or_parts (control_mentions new v) (coords_mention new cs) p.1 in
        let q = or_parts (control_mentions new e)
        (control_mentions new f || coords_mention new ds) k in
        let r = or_parts (control_mentions new f) (coords_mention new ds) q.1 in
        (under u e p.0 q.0, under u f p.0 r.0, coords_back cs ds o.1 r.1 fit)

  -- ---- places, windows and values, there and back

  module _ (spots : coords_mention new coords ≡ false) where
    module _ (scene : Scene) where
      abbrev place_by : ℕ → List ℤ → Option Place
      place_by y ns = then_do (scene.views y) (λ z. option_map
          (λ at. record { buffer = z.buffer; at = at }) (cell_at z.sides ns))

      abbrev place_of : Bool → ℕ → List Control → Option Place
      place_of b y is = place scene (to_name a t (cond b a y))
          (shifted (spots_of a t (cond b a y)) (controls_with a t (cond b (indices_on coords is)
          is)))

      place_back : (y : ℕ) (is : List Control) → new y ≡ false → controls_mention new is ≡ false
          → IndicesAt x coords scene y is → place_of (y == x) y is ≡ place scene y is
      place_back y is other unused fit = go (y == x) refl
        where
          go : (b : Bool) → (y == x) ≡ b → place_of b y is ≡ place scene y is
          go true e =
              ap (λ r. place scene (cond r x a) (shifted (cond r coords [])
              (controls_with a t (indices_on coords is)))) (eq-eqb a a refl)
              ∙ ap (place_by x) (numbers_back scene coords is spots unused (fit e))
              ∙ ap (λ z. place scene z is) (sym (eqb-true y x e))
          go false e =
              ap (λ r. place scene (cond r x y) (shifted (cond r coords []) (controls_with a t is)))
              other
              ∙ ap (place scene y) (controls_same is unused)

      abbrev window_of : Bool → ℕ → List Coord → Option Seen
      window_of b y ds = window scene (to_name a t (cond b a y))
          (joined_coords (spots_of a t (cond b a y)) (coords_with a t (cond b (coords_on coords ds)
          ds)))

      window_back : (y : ℕ) (ds : List Coord) → new y ≡ false → coords_mention new ds ≡ false
          → CoordsAt x coords scene y ds → window_of (y == x) y ds ≡ window scene y ds
      window_back y ds other unused fit = go (y == x) refl
        where
          go : (b : Bool) → (y == x) ≡ b → window_of b y ds ≡ window scene y ds
          go true e =
              ap (λ r. window scene (cond r x a) (joined_coords (cond r coords [])
              (coords_with a t (coords_on coords ds)))) (eq-eqb a a refl)
              ∙ window_same scene x
              (joined_coords coords (coords_with a t (coords_on coords ds))) ds
              (coords_back scene coords ds spots unused (fit e))
              ∙ ap (λ z. window scene z ds) (sym (eqb-true y x e))
          go false e =
              ap (λ r. window scene (cond r x y) (joined_coords (cond r coords [])
              (coords_with a t ds))) other
              ∙ ap (window scene y) (coords_same ds unused)

      number_back : (g : Argument) → argument_mentions new g ≡ false
          → argument_number scene (argument_with a t (converted_argument a x coords g))
          ≡ argument_number scene g
      number_back (ControlArg e) h = ap (λ z. Some (number scene z)) (control_same e h)
      number_back (ConditionArg c) h = ap (λ z. Some (truth (holds scene z))) (condition_same c h)
      number_back (Whole y) h = go (name_on a x coords y == a)
        where
          go : (b : Bool)
              → argument_number scene (cond b t (Whole (name_on a x coords y))) ≡ None
          go true = refl
          go false = refl
      number_back (Window y ds) h = refl

      given_back : (g : Argument) → argument_mentions new g ≡ false
          → ArgumentFits x coords scene g
          → given scene (argument_with a t (converted_argument a x coords g)) ≡ given scene g
      given_back (ControlArg e) h fit = ap (λ z. Some (GivenNumber (number scene z)))
          (control_same e h)
      given_back (ConditionArg c) h fit = ap (λ z. Some (GivenNumber (truth (holds scene z))))
          (condition_same c h)
      given_back (Whole y) h fit = go (y == x) refl
        where
          go : (b : Bool) → (y == x) ≡ b
              → given scene (cond (cond b a y == a) t (Whole (cond b a y)))
              ≡ option_map GivenView (scene.views y)
          go true e =
              ap (λ r. given scene (cond r t (Whole a))) (eq-eqb a a refl)
              ∙ ap (option_map GivenView) (fit e)
              ∙ ap (λ z. option_map GivenView (scene.views z)) (sym (eqb-true y x e))
          go false e = ap (λ r. given scene (cond r t (Whole y))) h
      given_back (Window y ds) h fit =
          let p = or_parts (new y) (coords_mention new ds) h in
          ap (option_map GivenView) (window_back y ds p.0 p.1 fit)

      all_back : (gs : List Argument) → arguments_mention new gs ≡ false
          → ArgumentsFit x coords scene gs
          → all_given scene (arguments_with a t (converted_arguments a x coords gs))
          ≡ all_given scene gs
      all_back [] h fit = refl
      all_back (g ∷ gs) h fit =
          let p = or_parts (argument_mentions new g) (arguments_mention new gs) h in
          ap₂ (λ o r. then_do o (λ z. option_map (λ zs. z ∷ zs) r)) (given_back g p.0 fit.0)
          (all_back gs p.1 fit.1)

    module _ (s : State) where
      value_back : (d : Datum) → datum_mentions new d ≡ false → DatumFits x coords s.scene d
          → value s (datum_with a t (converted_datum a x coords d)) ≡ value s d
      value_back (Const n) h fit = refl
      value_back (Read y is) h fit =
          let p = or_parts (new y) (controls_mention new is) h in
          ap (option_map (held s.cells)) (place_back s.scene y is p.0 p.1 fit)
      value_back (Negated d) h fit =
          ap (option_map (on_one (λ m. pos 0 -ℤ m))) (value_back d h fit)
      value_back (Relu d) h fit = ap (option_map (on_one relu)) (value_back d h fit)
      value_back (Plus d e) h fit =
          let p = or_parts (datum_mentions new d) (datum_mentions new e) h in
          ap₂ (λ m n. then_do m (λ u. option_map (on_two ◌+ℤ◌ u) n)) (value_back d p.0 fit.0)
          (value_back e p.1 fit.1)
      value_back (Minus d e) h fit =
          let p = or_parts (datum_mentions new d) (datum_mentions new e) h in
          ap₂ (λ m n. then_do m (λ u. option_map (on_two ◌-ℤ◌ u) n)) (value_back d p.0 fit.0)
          (value_back e p.1 fit.1)
      value_back (Times d e) h fit =
          let p = or_parts (datum_mentions new d) (datum_mentions new e) h in
          ap₂ (λ m n. then_do m (λ u. option_map (on_two ◌*ℤ◌ u) n)) (value_back d p.0 fit.0)
          (value_back e p.1 fit.1)
      value_back (Select d e f g) h fit =
          let p = or_parts (datum_mentions new d) _ h in
          let q = or_parts (datum_mentions new e) _ p.1 in
          let r = or_parts (datum_mentions new f) (datum_mentions new g) q.1 in
          ap₂ (λ (m n : Option Value). then_do m (λ u. then_do n (λ v.
          then_do (value s (datum_with a t (converted_datum a x coords f))) (λ w.
          option_map (on_four selected u v w)
          (value s (datum_with a t (converted_datum a x coords g)))))))
          (value_back d p.0 fit.0) (value_back e q.0 fit.1)
          ∙ ap₂ (λ (m n : Option Value). then_do (value s d) (λ u. then_do (value s e) (λ v.
          then_do m (λ w. option_map (on_four selected u v w) n))))
          (value_back f r.0 fit.2) (value_back g r.1 fit.3)

    -- ---- statements

    calls_same : (o : Option Callee) (gs hs : List Argument) (s : State)
        → all_given s.scene gs ≡ all_given s.scene hs → call_to o gs s ≡ call_to o hs s
    calls_same None gs hs s e = refl
    calls_same (Some callee) gs hs s e =
        ap (λ z. where_true (given_all_apart callee.writes callee.procedure.params z)
        (then_do z (λ ns. then_do (entered callee.procedure.params ns s) (λ inner.
        option_map (returned callee ns s) (run_asserted callee inner))))) e

    module _ (world : World) where
      abbrev Fits : Block → State → Type 0
      Fits = FitsWithin world x coords

      mutual
        along : (b : Block) (s : State) → mentions new b ≡ false → Fits b s
            → SameAlong world b (block_with a t (converted a x coords b)) s
        along end s h fit = both_end
        along (next d b) s h fit =
            let p = or_parts (statement_mentions new d) (mentions new b) h in
            both_next (there d b s p.0 fit) (λ u e. along b u p.1
            (λ c f v same come. fit (After d c) f v (ap (next d) same) (u, e, come)))

        there : (d : Statement) (rest : Block) (s : State) → statement_mentions new d ≡ false
            → Fits (next d rest) s
            → SameThere world d (statement_with a t (converted_statement a x coords d)) s
        there (Assign y is d) rest s h fit =
            let p = or_parts (new y) (controls_mention new is || datum_mentions new d) h in
            let q = or_parts (controls_mention new is) (datum_mentions new d) p.1 in
            let here = fit (Here rest) (Assign y is d) s refl refl in
            at_once (sym (ap₂ (λ (o : Option Place) (r : Option Value). then_do o (λ z.
            then_do r (λ v. put s (λ old. v) z)))
            (place_back s.scene y is p.0 q.0 here.0) (value_back s d q.1 here.1)))
        there (Reduce y is d) rest s h fit =
            let p = or_parts (new y) (controls_mention new is || datum_mentions new d) h in
            let q = or_parts (controls_mention new is) (datum_mentions new d) p.1 in
            let here = fit (Here rest) (Reduce y is d) s refl refl in
            at_once (sym (ap₂ (λ (o : Option Place) (r : Option Value). then_do o (λ z.
            then_do r (λ v. put s (λ old. on_two ◌+ℤ◌ old v) z)))
            (place_back s.scene y is p.0 q.0 here.0) (value_back s d q.1 here.1)))
        there (Config f g) rest s h fit =
            at_once (sym (ap (λ o. then_do o (λ n. where_true (suits (world.kinds f) n)
            (Some (on_scene (with_field f n) s)))) (number_back s.scene g h)))
        there Pass rest s h fit = at_once refl
        there (If c b d) rest s h fit =
            let p = or_parts (condition_mentions new c) (mentions new b || mentions new d) h in
            let q = or_parts (mentions new b) (mentions new d) p.1 in
            in_branches (ap (holds s.scene) (sym (condition_same c p.0)))
            (λ i. along b s q.0 (λ k f v same come. fit (InThen c k d rest) f v
            (ap (λ z. next (If c z d) rest) same) (i, come)))
            (λ i. along d s q.1 (λ k f v same come. fit (InElse c b k rest) f v
            (ap (λ z. next (If c b z) rest) same) (i, come)))
        there (For i lo hi b) rest s h fit =
            let p = or_parts (new i.id) _ h in
            let q = or_parts (control_mentions new lo) _ p.1 in
            let r = or_parts (control_mentions new hi) (mentions new b) q.1 in
            in_turns (ap (number s.scene) (sym (control_same lo q.0)))
            (ap (number s.scene) (sym (control_same hi r.0)))
            (λ n u come. along b (on_scene (with_control i.id n) u) r.1
            (λ k f v same z. fit (InLoop i lo hi k rest) f v
            (ap (λ w. next (For i lo hi w) rest) same) (
              n,
              u,
              subst (λ w. ComesToTurn (turn i.id (run world w)) (turns_of s.scene lo hi) s
                  n u) same come,
              z,
            )))
        there (Alloc y cell dims memory) rest s h fit =
            at_once (ap (λ ds. step world (Alloc y cell ds memory) s)
            (sym (controls_same dims (or_parts (new y.id) (controls_mention new dims) h).1)))
        there (View w y ds) rest s h fit =
            let p = or_parts (new w.id) (new y || coords_mention new ds) h in
            let q = or_parts (new y) (coords_mention new ds) p.1 in
            at_once (sym (ap (λ o. then_do o (λ z. Some (on_scene (with_view w.id z) s)))
            (window_back s.scene y ds q.0 q.1 (fit (Here rest) (View w y ds) s refl refl))))
        there (Call k gs) rest s h fit =
            at_once (sym (calls_same (world.callees k)
            (arguments_with a t (converted_arguments a x coords gs)) gs s
            (all_back s.scene gs h (fit (Here rest) (Call k gs) s refl refl))))

-- ---- what the accesses keep, by the way of the block

walked : (world : World) (x : ℕ) (coords : List Coord) (c : Context) (d : Statement) (s u : State)
    → FitsAlong world x coords (fill c (next d end)) s → ComesTo world (next d end) c s u
    → StatementFits x coords u.scene d
walked world x coords (Here rest) d s u h come =
    subst (λ (v : State). StatementFits x coords v.scene d) (sym come) h.0
walked world x coords (After e c) d s u h come =
    walked world x coords c d come.0 u (h.2 come.0 come.1) come.2
walked world x coords (InLoop i lo hi c rest) d s u h come =
    walked world x coords c d (on_scene (with_control i.id come.0) come.1) u
    (h.1 come.0 come.1 come.2) come.3
walked world x coords (InThen e c other rest) d s u h come =
    walked world x coords c d s u (h.1.0 come.0) come.1
walked world x coords (InElse e other c rest) d s u h come =
    walked world x coords c d s u (h.1.1 come.0) come.1

pub fits_law : FitsLaw
fits_law world x coords b s h c d u same come =
    walked world x coords c d s u (subst (λ z. FitsAlong world x coords z s) same h) come

pub converted_along : ConvertedAlong
converted_along world a x coords b s is fit = along a x coords is.spots world b s is.block fit

pub converted_law : ConvertedLaw
converted_law world a x coords b s is fit =
    along_law world b (block_with a (Window x coords) (converted a x coords b)) s
    (converted_along world a x coords b s is fit)
