-- Blocks whose control expressions have the same numbers wherever a run comes do the same.
use Rattle.std.proofs.Common.{◌≡◌, ◌∙◌, ℕ, ◌+ℤ◌, ◌-ℤ◌, ◌*ℤ◌, pos, int_le, int_lt, ◌&&◌, ◌||◌}
use Rattle.std.proofs.Common.{List, [], ◌∷◌, Option, Some, None, option_map, refl, sym, ap, ap₂}
use Rattle.std.proofs.Common.{subst}
use Rattle.std.specs.Ordering.{int_eq}
use Rattle.exo_tree.specs.Tree.{Control, Condition, True, False, Flag, FieldFlag, Lt, Le, Gt, Ge}
use Rattle.exo_tree.specs.Tree.{Eq, And, Or, Datum, Const, Read, Negated, Relu, Plus, Minus, Times}
use Rattle.exo_tree.specs.Tree.{Select, Coord, At, Span, Argument, ControlArg, ConditionArg, Whole}
use Rattle.exo_tree.specs.Tree.{Window, Statement, Assign, Reduce, Config, Pass, If, For, Alloc}
use Rattle.exo_tree.specs.Tree.{View, Call, Block, end, next}
use Rattle.exo_tree.specs.Context.{Here, After, InLoop, InThen, InElse}
use Rattle.exo_meaning.specs.Value.{Value, on_two, on_one, on_four, relu, selected}
use Rattle.exo_meaning.specs.Scene.{Side, Point, Range, Seen, Scene, then_do, number, numbers}
use Rattle.exo_meaning.specs.Scene.{holds}
use Rattle.exo_meaning.specs.Scene.{narrowed, window, cell_at, is_below, where_true}
use Rattle.exo_meaning.specs.State.{State, Place, place, held, put, value, on_scene, with_control}
use Rattle.exo_meaning.specs.State.{with_field, with_view}
use Rattle.exo_meaning.specs.Calls.{given_all_apart}
use Rattle.exo_meaning.specs.Calls.{Callee, GivenNumber, GivenView, given, all_given, truth, suits}
use Rattle.exo_meaning.specs.Calls.{entered, returned, run_asserted}
use Rattle.exo_meaning.specs.Run.{World, run, argument_number, turn, turns_of, call_to}
use Rattle.exo_meaning.specs.Run.{allocate}
use Rattle.meaning_laws.specs.Context.{ComesToTurn}
use Rattle.inplace_laws.specs.Along.{SameAlong, both_end, both_next, SameThere, at_once}
use Rattle.inplace_laws.specs.Along.{in_branches, in_turns}
use Rattle.match_laws.specs.Simplify.SameControls.{in_controls, in_condition, in_datum, in_coords}
use Rattle.match_laws.specs.Simplify.SameControls.{in_argument, in_arguments, in_statement, in_block}
use Rattle.match_laws.specs.Simplify.SameControls.{OfControls, OfCondition, OfDatum, OfCoords, OfArgument}
use Rattle.match_laws.specs.Simplify.SameControls.{OfArguments, OfEach, HasSameNumber}
use Rattle.match_laws.specs.Simplify.SameControls.{SameControlsAlong}

module _ (f : Control → Control) where
  module _ (scene : Scene) where
    abbrev Same : Control → Type 0
    Same = HasSameNumber f scene

    controls_same : (es : List Control) → OfControls Same es
        → numbers scene (in_controls f es) ≡ numbers scene es
    controls_same [] h = refl
    controls_same (e ∷ es) h = ap₂ ◌∷◌ h.0 (controls_same es h.1)

    condition_same : (c : Condition) → OfCondition Same c
        → holds scene (in_condition f c) ≡ holds scene c
    condition_same True h = refl
    condition_same False h = refl
    condition_same (Flag x) h = refl
    condition_same (FieldFlag g) h = refl
    condition_same (Lt a b) h = ap₂ int_lt h.0 h.1
    condition_same (Le a b) h = ap₂ int_le h.0 h.1
    condition_same (Gt a b) h = ap₂ int_lt h.1 h.0
    condition_same (Ge a b) h = ap₂ int_le h.1 h.0
    condition_same (Eq a b) h = ap₂ int_eq h.0 h.1
    condition_same (And c d) h = ap₂ ◌&&◌ (condition_same c h.0) (condition_same d h.1)
    condition_same (Or c d) h = ap₂ ◌||◌ (condition_same c h.0) (condition_same d h.1)

    narrowed_same : (sides : List Side) (cs : List Coord) → OfCoords Same cs
        → narrowed scene sides (in_coords f cs) ≡ narrowed scene sides cs
    narrowed_same [] [] h = refl
    narrowed_same [] (At a ∷ cs) h = refl
    narrowed_same [] (Span a b ∷ cs) h = refl
    narrowed_same (Point p ∷ sides) cs h =
        ap (option_map (λ rest. Point p ∷ rest)) (narrowed_same sides cs h)
    narrowed_same (Range lo n ∷ sides) [] h = refl
    narrowed_same (Range lo n ∷ sides) (At a ∷ cs) h =
        ap₂ (λ i o. where_true (is_below i n) (option_map (λ rest. Point (lo +ℤ i) ∷ rest) o))
        h.0 (narrowed_same sides cs h.1)
    narrowed_same (Range lo n ∷ sides) (Span a b ∷ cs) h =
        ap₂ (λ i o. where_true
        (int_le (pos 0) i && int_lt i (number scene (f b)) && int_le (number scene (f b)) n)
        (option_map (λ rest. Range (lo +ℤ i) (number scene (f b) -ℤ i) ∷ rest) o))
        h.0 (narrowed_same sides cs h.2)
        ∙ ap (λ j. where_true
        (int_le (pos 0) (number scene a) && int_lt (number scene a) j && int_le j n)
        (option_map (λ rest. Range (lo +ℤ number scene a) (j -ℤ number scene a) ∷ rest)
        (narrowed scene sides cs))) h.1

    place_same : (x : ℕ) (is : List Control) → OfControls Same is
        → place scene x (in_controls f is) ≡ place scene x is
    place_same x is h =
        ap (λ ns. then_do (scene.views x) (λ seen. option_map
        (λ at. record { buffer = seen.buffer; at = at }) (cell_at seen.sides ns)))
        (controls_same is h)

    abbrev sided : Seen → List Side → Seen
    sided seen sides = record { buffer = seen.buffer; sides = sides }

    abbrev window_by : List Coord → Seen → Option Seen
    window_by cs seen =
        option_map (sided seen) (narrowed scene seen.sides cs)

    window_same : (x : ℕ) (cs : List Coord) → OfCoords Same cs
        → window scene x (in_coords f cs) ≡ window scene x cs
    window_same x cs h = go (scene.views x)
      where
        go : (o : Option Seen)
            → then_do o (window_by (in_coords f cs)) ≡ then_do o (window_by cs)
        go None = refl
        go (Some seen) =
            ap (λ o. option_map (sided seen) o) (narrowed_same seen.sides cs h)

    number_same : (a : Argument) → OfArgument Same a
        → argument_number scene (in_argument f a) ≡ argument_number scene a
    number_same (ControlArg e) h = ap Some h
    number_same (ConditionArg c) h = ap (λ t. Some (truth t)) (condition_same c h)
    number_same (Whole x) h = refl
    number_same (Window x cs) h = refl

    given_same : (a : Argument) → OfArgument Same a
        → given scene (in_argument f a) ≡ given scene a
    given_same (ControlArg e) h = ap (λ n. Some (GivenNumber n)) h
    given_same (ConditionArg c) h = ap (λ t. Some (GivenNumber (truth t))) (condition_same c h)
    given_same (Whole x) h = refl
    given_same (Window x cs) h = ap (option_map GivenView) (window_same x cs h)

    all_same : (args : List Argument) → OfArguments Same args
        → all_given scene (in_arguments f args) ≡ all_given scene args
    all_same [] h = refl
    all_same (a ∷ rest) h =
        ap₂ (λ o r. then_do o (λ g. option_map (λ gs. g ∷ gs) r)) (given_same a h.0)
        (all_same rest h.1)

  value_same : (s : State) (e : Datum) → OfDatum (HasSameNumber f s.scene) e
      → value s (in_datum f e) ≡ value s e
  value_same s (Const n) h = refl
  value_same s (Read x is) h = ap (option_map (held s.cells)) (place_same s.scene x is h)
  value_same s (Negated a) h = ap (option_map (on_one (λ m. pos 0 -ℤ m))) (value_same s a h)
  value_same s (Relu a) h = ap (option_map (on_one relu)) (value_same s a h)
  value_same s (Plus a b) h =
      ap₂ (λ m n. then_do m (λ u. option_map (on_two ◌+ℤ◌ u) n)) (value_same s a h.0)
      (value_same s b h.1)
  value_same s (Minus a b) h =
      ap₂ (λ m n. then_do m (λ u. option_map (on_two ◌-ℤ◌ u) n)) (value_same s a h.0)
      (value_same s b h.1)
  value_same s (Times a b) h =
      ap₂ (λ m n. then_do m (λ u. option_map (on_two ◌*ℤ◌ u) n)) (value_same s a h.0)
      (value_same s b h.1)
  value_same s (Select a b c d) h =
      ap₂ (λ (m n : Option Value). then_do m (λ u. then_do n (λ v.
      then_do (value s (in_datum f c)) (λ w.
      option_map (on_four selected u v w) (value s (in_datum f d))))))
      (value_same s a h.0) (value_same s b h.1)
      ∙ ap₂ (λ (m n : Option Value). then_do (value s a) (λ u. then_do (value s b) (λ v.
      then_do m (λ w. option_map (on_four selected u v w) n))))
      (value_same s c h.2) (value_same s d h.3)

  calls_same : (o : Option Callee) (gs hs : List Argument) (s : State)
      → all_given s.scene gs ≡ all_given s.scene hs → call_to o gs s ≡ call_to o hs s
  calls_same None gs hs s e = refl
  calls_same (Some callee) gs hs s e =
      ap (λ z. where_true (given_all_apart callee.writes callee.procedure.params z)
      (then_do z (λ ns. then_do (entered callee.procedure.params ns s) (λ inner.
      option_map (returned callee ns s) (run_asserted callee inner))))) e

  module _ (world : World) where
    abbrev Keeps : Block → State → Type 0
    Keeps = OfEach world (HasSameNumber f)

    mutual
      along : (b : Block) (s : State) → Keeps b s → SameAlong world b (in_block f b) s
      along end s keep = both_end
      along (next d b) s keep =
          both_next (there d b s keep) (λ t e. along b t
          (λ c g v same come. keep (After d c) g v (ap (next d) same) (t, e, come)))

      there : (d : Statement) (rest : Block) (s : State) → Keeps (next d rest) s
          → SameThere world d (in_statement f d) s
      there (Assign x is e) rest s keep =
          let here = keep (Here rest) (Assign x is e) s refl refl in
          at_once (sym (ap₂ (λ (o : Option Place) (r : Option Value). then_do o (λ z.
          then_do r (λ v. put s (λ old. v) z)))
          (place_same s.scene x is here.0) (value_same s e here.1)))
      there (Reduce x is e) rest s keep =
          let here = keep (Here rest) (Reduce x is e) s refl refl in
          at_once (sym (ap₂ (λ (o : Option Place) (r : Option Value). then_do o (λ z.
          then_do r (λ v. put s (λ old. on_two ◌+ℤ◌ old v) z)))
          (place_same s.scene x is here.0) (value_same s e here.1)))
      there (Config g a) rest s keep =
          at_once (sym (ap (λ o. then_do o (λ n. where_true (suits (world.kinds g) n)
          (Some (on_scene (with_field g n) s))))
          (number_same s.scene a (keep (Here rest) (Config g a) s refl refl))))
      there Pass rest s keep = at_once refl
      there (If c a b) rest s keep =
          in_branches (sym (condition_same s.scene c (keep (Here rest) (If c a b) s refl refl)))
          (λ i. along a s (λ k g v same come. keep (InThen c k b rest) g v
          (ap (λ z. next (If c z b) rest) same) (i, come)))
          (λ i. along b s (λ k g v same come. keep (InElse c a k rest) g v
          (ap (λ z. next (If c a z) rest) same) (i, come)))
      there (For i lo hi b) rest s keep =
          let here = keep (Here rest) (For i lo hi b) s refl refl in
          in_turns (sym here.0) (sym here.1)
          (λ n u come. along b (on_scene (with_control i.id n) u)
          (λ k g v same z. keep (InLoop i lo hi k rest) g v
          (ap (λ w. next (For i lo hi w) rest) same) (
            n,
            u,
            subst (λ w. ComesToTurn (turn i.id (run world w)) (turns_of s.scene lo hi) s n u)
                same come,
            z,
          )))
      there (Alloc x cell dims memory) rest s keep =
          at_once (sym (ap (λ ns. allocate x.id cell ns s)
          (controls_same s.scene dims
          (keep (Here rest) (Alloc x cell dims memory) s refl refl))))
      there (View w x cs) rest s keep =
          at_once (sym (ap (λ o. then_do o (λ z. Some (on_scene (with_view w.id z) s)))
          (window_same s.scene x cs (keep (Here rest) (View w x cs) s refl refl))))
      there (Call k args) rest s keep =
          at_once (sym (calls_same (world.callees k) (in_arguments f args) args s
          (all_same s.scene args (keep (Here rest) (Call k args) s refl refl))))

pub same_controls_along : SameControlsAlong
same_controls_along world f b s keep = along f world b s keep
