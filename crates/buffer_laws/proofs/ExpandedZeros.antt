-- Indices of a buffer at a point, with and without a 0 that is added to them.
use Rattle.std.proofs.Common.{◌≡◌, ℕ, zero, suc, ℤ, pos, ◌+ℤ◌, ◌-ℤ◌, ◌*ℤ◌, ◌==◌, ◌&&◌}
use Rattle.std.proofs.Common.{Bool, true, false, cond, int_le, int_lt, List, [], ◌∷◌, Option, Some}
use Rattle.std.proofs.Common.{None, option_map, refl, sym, ap, ap₂, ◌∙◌, arith}
use Rattle.std.proofs.lemmas.Int.{ints}
use Rattle.exo_tree.specs.Tree.{Control, Lit, Var, Field, StrideOf, Neg, Add, Sub, Mul, Div, Mod}
use Rattle.exo_tree.specs.Tree.{Condition, True, False, Flag, FieldFlag, Lt, Le, Gt, Ge, Eq, And}
use Rattle.exo_tree.specs.Tree.{Or}
use Rattle.exo_tree.specs.Tree.{Datum, Const, Read, Negated, Relu, Plus, Minus, Times, Select}
use Rattle.exo_tree.specs.Tree.{Coord, At, Span, Argument, ControlArg, ConditionArg, Whole, Window}
use Rattle.exo_tree.specs.Tree.{Statement, Assign, Reduce, Config, Pass, If, For, Alloc, View, Call}
use Rattle.exo_tree.specs.Tree.{Block, end, next}
use Rattle.exo_meaning.specs.Value.{Value, on_one, on_two, on_four, relu, selected}
use Rattle.exo_meaning.specs.Scene.{Side, Point, Range, Seen, Scene, then_do, number, numbers, holds}
use Rattle.exo_meaning.specs.Scene.{narrowed, window, cell_at, is_below, where_true}
use Rattle.exo_meaning.specs.State.{State, Place, place, held, put, value, on_scene, with_control}
use Rattle.exo_meaning.specs.State.{with_view, with_field}
use Rattle.exo_meaning.specs.Calls.{given_all_apart}
use Rattle.exo_meaning.specs.Calls.{Callee, GivenNumber, GivenView, given, all_given, truth, suits}
use Rattle.exo_meaning.specs.Calls.{entered, returned, run_asserted}
use Rattle.exo_meaning.specs.Run.{World, step, argument_number, call_to}
use Rattle.exo_meaning.proofs.Compose.{then_cong}
use Rattle.exo_meaning.proofs.Frame.{or_parts}
use Rattle.inplace_laws.specs.Along.{SameAlong, both_end, both_next, SameThere, at_once}
use Rattle.inplace_laws.specs.Along.{in_branches, in_turns}
use Rattle.inplace_laws.specs.Windows as windows
use Rattle.buffer_laws.specs.Expanded.{any_is_whole, is_whole, passes_whole, step_passes_whole}
use Rattle.match_laws.specs.Names.{whole_of}

zero_plus : (n : ℤ) → pos 0 +ℤ n ≡ n
zero_plus n = omega (arith, ints)

whole_span : (ds : List Control) (k : ℕ) → windows.nth_span (whole_of ds) k ≡ k
whole_span [] k = refl
whole_span (d ∷ ds) zero = refl
whole_span (d ∷ ds) (suc k) = ap suc (whole_span ds k)

module _ (scene : Scene) where
  zero_numbers : (ds js : List Control)
      → numbers scene (windows.shifted (whole_of ds) js) ≡ numbers scene js
  zero_numbers [] js = refl
  zero_numbers (d ∷ ds) [] = refl
  zero_numbers (d ∷ ds) (j ∷ js) =
      ap₂ ◌∷◌ (zero_plus (number scene j)) (zero_numbers ds js)

  zero_narrowed : (sides : List Side) (ds : List Control) (cs : List Coord)
      → narrowed scene sides (windows.joined_coords (whole_of ds) cs)
      ≡ narrowed scene sides cs
  zero_narrowed sides [] cs = refl
  zero_narrowed sides (d ∷ ds) [] = refl
  zero_narrowed [] (d ∷ ds) (At c ∷ cs) = refl
  zero_narrowed [] (d ∷ ds) (Span c e ∷ cs) = refl
  zero_narrowed (Point p ∷ sides) (d ∷ ds) (At c ∷ cs) =
      ap (option_map (λ rest. Point p ∷ rest)) (zero_narrowed sides (d ∷ ds) (At c ∷ cs))
  zero_narrowed (Point p ∷ sides) (d ∷ ds) (Span c e ∷ cs) =
      ap (option_map (λ rest. Point p ∷ rest)) (zero_narrowed sides (d ∷ ds) (Span c e ∷ cs))
  zero_narrowed (Range lo n ∷ sides) (d ∷ ds) (At c ∷ cs) =
      ap₂ (λ i o. where_true (is_below i n) (option_map (λ rest. Point (lo +ℤ i) ∷ rest) o))
      (zero_plus (number scene c)) (zero_narrowed sides ds cs)
  zero_narrowed (Range lo n ∷ sides) (d ∷ ds) (Span c e ∷ cs) =
      ap₂ (λ i j. where_true (int_le (pos 0) i && int_lt i j && int_le j n)
      (option_map (λ rest. Range (lo +ℤ i) (j -ℤ i) ∷ rest)
      (narrowed scene sides (windows.joined_coords (whole_of ds) cs))))
      (zero_plus (number scene c)) (zero_plus (number scene e))
      ∙ ap (λ o. where_true (int_le (pos 0) (number scene c)
      && int_lt (number scene c) (number scene e) && int_le (number scene e) n)
      (option_map (λ rest. Range (lo +ℤ number scene c)
      (number scene e -ℤ number scene c) ∷ rest) o)) (zero_narrowed sides ds cs)

  -- with a point in front
  point_narrowed : (e : Control) (cs ds : List Coord)
      → ((sides : List Side) → narrowed scene sides cs ≡ narrowed scene sides ds)
      → (sides : List Side) → narrowed scene sides (At e ∷ cs) ≡ narrowed scene sides (At e ∷ ds)
  point_narrowed e cs ds h [] = refl
  point_narrowed e cs ds h (Point p ∷ sides) =
      ap (option_map (λ rest. Point p ∷ rest)) (point_narrowed e cs ds h sides)
  point_narrowed e cs ds h (Range lo n ∷ sides) =
      ap (λ o. where_true (is_below (number scene e) n)
      (option_map (λ rest. Point (lo +ℤ number scene e) ∷ rest) o)) (h sides)

module _ (x : ℕ) (point : Control) (dims : List Control) where
  abbrev t : Argument
  t = Window x (At point ∷ whole_of dims)

  abbrev v : Argument
  v = Window x (At point ∷ [])

  -- ---- control expressions

  control : (e : Control) → windows.in_control x t e ≡ windows.in_control x v e
  control (Lit n) = refl
  control (Var y) = refl
  control (Field f) = refl
  control (StrideOf y k) = ap (StrideOf (windows.to_name x t y)) (go (y == x))
    where
      go : (r : Bool) → windows.nth_span (cond r (At point ∷ whole_of dims) []) k
          ≡ windows.nth_span (cond r (At point ∷ []) []) k
      go true = ap suc (whole_span dims k)
      go false = refl
  control (Neg e) = ap Neg (control e)
  control (Add e f) = ap₂ Add (control e) (control f)
  control (Sub e f) = ap₂ Sub (control e) (control f)
  control (Mul e f) = ap₂ Mul (control e) (control f)
  control (Div e c) = ap (λ z. Div z c) (control e)
  control (Mod e c) = ap (λ z. Mod z c) (control e)

  controls : (es : List Control) → windows.in_controls x t es ≡ windows.in_controls x v es
  controls [] = refl
  controls (e ∷ es) = ap₂ ◌∷◌ (control e) (controls es)

  condition : (c : Condition) → windows.in_condition x t c ≡ windows.in_condition x v c
  condition True = refl
  condition False = refl
  condition (Flag y) = refl
  condition (FieldFlag f) = refl
  condition (Lt d e) = ap₂ Lt (control d) (control e)
  condition (Le d e) = ap₂ Le (control d) (control e)
  condition (Gt d e) = ap₂ Gt (control d) (control e)
  condition (Ge d e) = ap₂ Ge (control d) (control e)
  condition (Eq d e) = ap₂ Eq (control d) (control e)
  condition (And c d) = ap₂ And (condition c) (condition d)
  condition (Or c d) = ap₂ Or (condition c) (condition d)

  coords : (ds : List Coord) → windows.in_coords x t ds ≡ windows.in_coords x v ds
  coords [] = refl
  coords (At e ∷ ds) = ap₂ (λ z zs. At z ∷ zs) (control e) (coords ds)
  coords (Span e f ∷ ds) =
      ap₂ (λ z zs. Span z (windows.in_control x t f) ∷ zs) (control e) (coords ds)
      ∙ ap (λ z. Span (windows.in_control x v e) z ∷ windows.in_coords x v ds) (control f)

  -- ---- places, windows and values

  module _ (scene : Scene) where
    indices : (y : ℕ) (is : List Control)
        → numbers scene (windows.shifted (windows.coords_at x t y) (windows.in_controls x t is))
        ≡ numbers scene (windows.shifted (windows.coords_at x v y) (windows.in_controls x v is))
    indices y is =
        ap (λ js. numbers scene (windows.shifted (windows.coords_at x t y) js)) (controls is)
        ∙ go (y == x)
      where
        go : (r : Bool) → numbers scene (windows.shifted
            (cond r (At point ∷ whole_of dims) []) (windows.in_controls x v is))
            ≡ numbers scene (windows.shifted (cond r (At point ∷ []) [])
            (windows.in_controls x v is))
        go true = ap (λ ns. number scene point ∷ ns)
            (zero_numbers scene dims (windows.in_controls x v is))
        go false = refl

    place_same : (y : ℕ) (is : List Control)
        → place scene (windows.to_name x t y)
        (windows.shifted (windows.coords_at x t y) (windows.in_controls x t is))
        ≡ place scene (windows.to_name x v y)
        (windows.shifted (windows.coords_at x v y) (windows.in_controls x v is))
    place_same y is = ap (λ ns. then_do (scene.views (windows.to_name x t y)) (λ z. option_map
        (λ at. record { buffer = z.buffer; at = at }) (cell_at z.sides ns))) (indices y is)

    abbrev part_of : List Coord → Seen → Option Seen
    part_of cs z = option_map (λ sides. record { buffer = z.buffer; sides = sides })
        (narrowed scene z.sides cs)

    window_same : (y : ℕ) (ds : List Coord)
        → window scene (windows.to_name x t y)
        (windows.joined_coords (windows.coords_at x t y) (windows.in_coords x t ds))
        ≡ window scene (windows.to_name x v y)
        (windows.joined_coords (windows.coords_at x v y) (windows.in_coords x v ds))
    window_same y ds =
        ap (λ cs. window scene (windows.to_name x t y)
        (windows.joined_coords (windows.coords_at x t y) cs)) (coords ds) ∙ go (y == x)
      where
        go : (r : Bool) → window scene (windows.to_name x t y) (windows.joined_coords
            (cond r (At point ∷ whole_of dims) []) (windows.in_coords x v ds))
            ≡ window scene (windows.to_name x t y) (windows.joined_coords
            (cond r (At point ∷ []) []) (windows.in_coords x v ds))
        go true = then_cong (scene.views (windows.to_name x t y))
            (part_of (At point ∷ windows.joined_coords (whole_of dims)
            (windows.in_coords x v ds))) (part_of (At point ∷ windows.in_coords x v ds)) (λ z.
            ap (option_map (λ sides. record { buffer = z.buffer; sides = sides }))
            (point_narrowed scene point (windows.joined_coords (whole_of dims)
            (windows.in_coords x v ds)) (windows.in_coords x v ds)
            (λ sides. zero_narrowed scene sides dims (windows.in_coords x v ds)) z.sides))
        go false = refl

    number_same : (g : Argument) → argument_number scene (windows.in_argument x t g)
        ≡ argument_number scene (windows.in_argument x v g)
    number_same (ControlArg e) = ap (λ z. Some (number scene z)) (control e)
    number_same (ConditionArg c) = ap (λ z. Some (truth (holds scene z))) (condition c)
    number_same (Whole y) = go (y == x)
      where
        go : (r : Bool) → argument_number scene (cond r t (Whole y))
            ≡ argument_number scene (cond r v (Whole y))
        go true = refl
        go false = refl
    number_same (Window y ds) = refl

    given_same : (g : Argument) → is_whole x g ≡ false
        → given scene (windows.in_argument x t g) ≡ given scene (windows.in_argument x v g)
    given_same (ControlArg e) h = ap (λ z. Some (GivenNumber (number scene z))) (control e)
    given_same (ConditionArg c) h =
        ap (λ z. Some (GivenNumber (truth (holds scene z)))) (condition c)
    given_same (Whole y) h = ap (λ r. given scene (cond r t (Whole y))) h
        ∙ sym (ap (λ r. given scene (cond r v (Whole y))) h)
    given_same (Window y ds) h = ap (option_map GivenView) (window_same y ds)

    all_same : (gs : List Argument) → any_is_whole x gs ≡ false
        → all_given scene (windows.in_arguments x t gs)
        ≡ all_given scene (windows.in_arguments x v gs)
    all_same [] h = refl
    all_same (g ∷ gs) h =
        let p = or_parts (is_whole x g) (any_is_whole x gs) h in
        ap₂ (λ o r. then_do o (λ z. option_map (λ zs. z ∷ zs) r)) (given_same g p.0)
        (all_same gs p.1)

  value_same : (s : State) (d : Datum)
      → value s (windows.in_datum x t d) ≡ value s (windows.in_datum x v d)
  value_same s (Const n) = refl
  value_same s (Read y is) = ap (option_map (held s.cells)) (place_same s.scene y is)
  value_same s (Negated d) = ap (option_map (on_one (λ m. pos 0 -ℤ m))) (value_same s d)
  value_same s (Relu d) = ap (option_map (on_one relu)) (value_same s d)
  value_same s (Plus d e) = ap₂ (λ m n. then_do m (λ u. option_map (on_two ◌+ℤ◌ u) n))
      (value_same s d) (value_same s e)
  value_same s (Minus d e) = ap₂ (λ m n. then_do m (λ u. option_map (on_two ◌-ℤ◌ u) n))
      (value_same s d) (value_same s e)
  value_same s (Times d e) = ap₂ (λ m n. then_do m (λ u. option_map (on_two ◌*ℤ◌ u) n))
      (value_same s d) (value_same s e)
  value_same s (Select d e f g) =
      ap₂ (λ (m n : Option Value). then_do m (λ u. then_do n (λ w.
      then_do (value s (windows.in_datum x t f)) (λ z.
      option_map (on_four selected u w z) (value s (windows.in_datum x t g))))))
      (value_same s d) (value_same s e)
      ∙ ap₂ (λ (m n : Option Value). then_do (value s (windows.in_datum x v d)) (λ u.
      then_do (value s (windows.in_datum x v e)) (λ w.
      then_do m (λ z. option_map (on_four selected u w z) n))))
      (value_same s f) (value_same s g)

  -- ---- blocks

  calls_same : (o : Option Callee) (gs hs : List Argument) (s : State)
      → all_given s.scene gs ≡ all_given s.scene hs → call_to o gs s ≡ call_to o hs s
  calls_same None gs hs s e = refl
  calls_same (Some callee) gs hs s e =
      ap (λ z. where_true (given_all_apart callee.writes callee.procedure.params z)
      (then_do z (λ ns. then_do (entered callee.procedure.params ns s) (λ inner.
      option_map (returned callee ns s) (run_asserted callee inner))))) e

  module _ (world : World) where
    mutual
      pub along : (b : Block) (s : State) → passes_whole x b ≡ false
          → SameAlong world (windows.in_block x t b) (windows.in_block x v b) s
      along end s h = both_end
      along (next d b) s h =
          let p = or_parts (step_passes_whole x d) (passes_whole x b) h in
          both_next (there d s p.0) (λ u e. along b u p.1)

      there : (d : Statement) (s : State) → step_passes_whole x d ≡ false
          → SameThere world (windows.in_statement x t d) (windows.in_statement x v d) s
      there (Assign y is d) s h = at_once (ap₂ (λ (o : Option Place) (r : Option Value).
          then_do o (λ z. then_do r (λ w. put s (λ old. w) z)))
          (place_same s.scene y is) (value_same s d))
      there (Reduce y is d) s h = at_once (ap₂ (λ (o : Option Place) (r : Option Value).
          then_do o (λ z. then_do r (λ w. put s (λ old. on_two ◌+ℤ◌ old w) z)))
          (place_same s.scene y is) (value_same s d))
      there (Config f g) s h = at_once (ap (λ o. then_do o (λ n.
          where_true (suits (world.kinds f) n) (Some (on_scene (with_field f n) s))))
          (number_same s.scene g))
      there Pass s h = at_once refl
      there (If c b d) s h =
          let p = or_parts (passes_whole x b) (passes_whole x d) h in
          in_branches (ap (holds s.scene) (condition c)) (λ i. along b s p.0)
          (λ i. along d s p.1)
      there (For i lo hi b) s h =
          in_turns (ap (number s.scene) (control lo)) (ap (number s.scene) (control hi))
          (λ n u come. along b (on_scene (with_control i.id n) u) h)
      there (Alloc y cell ds memory) s h =
          at_once (ap (λ es. step world (Alloc y cell es memory) s) (controls ds))
      there (View w y ds) s h = at_once (ap (λ o. then_do o (λ z.
          Some (on_scene (with_view w.id z) s))) (window_same s.scene y ds))
      there (Call k gs) s h = at_once (calls_same (world.callees k)
          (windows.in_arguments x t gs) (windows.in_arguments x v gs) s (all_same s.scene gs h))
