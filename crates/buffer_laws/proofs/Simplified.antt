-- Accesses of some names with simpler indices.
use Rattle.std.proofs.Common.{◌≡◌, ℕ, pos, ◌+ℤ◌, ◌-ℤ◌, ◌*ℤ◌, int_le, int_lt, Bool, true, false}
use Rattle.std.proofs.Common.{cond, ◌&&◌, List, [], ◌∷◌, Option, Some, None, option_map, refl, sym}
use Rattle.std.proofs.Common.{ap, ap₂, ◌∙◌}
use Rattle.exo_tree.specs.Tree.{Control, Coord, At, Span, Datum, Const, Read, Negated, Relu, Plus}
use Rattle.exo_tree.specs.Tree.{Minus, Times, Select, Argument, ControlArg, ConditionArg, Whole}
use Rattle.exo_tree.specs.Tree.{Window, Statement, Assign, Reduce, Config, Pass, If, For, Alloc}
use Rattle.exo_tree.specs.Tree.{View, Call, Block, end, next}
use Rattle.exo_meaning.specs.Value.{on_one, on_two, on_four, relu, selected}
use Rattle.exo_meaning.specs.Scene.{Scene, Seen, Side, Point, Range, number, numbers, then_do}
use Rattle.exo_meaning.specs.Scene.{where_true, is_below, cell_at, narrowed, window}
use Rattle.exo_meaning.specs.State.{State, place, held, value, put, on_scene, with_view}
use Rattle.exo_meaning.specs.State.{with_control, with_field}
use Rattle.exo_meaning.specs.Calls.{given_all_apart}
use Rattle.exo_meaning.specs.Calls.{given, all_given, GivenView, Callee, entered, returned}
use Rattle.exo_meaning.specs.Calls.{run_asserted, suits}
use Rattle.exo_meaning.specs.Run.{World, step, call_to, argument_number}
use Rattle.meaning_laws.specs.Substitute.{is_plain}
use Rattle.inplace_laws.specs.Along.{SameAlong, both_end, both_next, SameThere, at_once}
use Rattle.inplace_laws.specs.Along.{in_branches, in_turns}
use Rattle.inplace_laws.proofs.Along.{along_law}
use Rattle.buffer_laws.specs.Simplified.{IsSimplifier, simpler, all_simpler, coords_simpler}
use Rattle.buffer_laws.specs.Simplified.{indices_of, window_of, simplified_datum, simplified}
use Rattle.buffer_laws.specs.Simplified.{simplified_statement, simplified_argument}
use Rattle.buffer_laws.specs.Simplified.{simplified_arguments, SimplifiedAlong, SimplifiedLaw}

module _ (simple : Control → Control) (names : ℕ → Bool) (is : IsSimplifier simple) where
  -- ---- numbers

  module _ (scene : Scene) where
    pub number_same : (e : Control) → number scene e ≡ number scene (simpler simple e)
    number_same e = go (is_plain e) refl
      where
        go : (t : Bool) → is_plain e ≡ t → number scene e ≡ number scene (cond t (simple e) e)
        go true k = sym (is e scene k)
        go false k = refl

    pub numbers_same : (es : List Control)
        → numbers scene es ≡ numbers scene (all_simpler simple es)
    numbers_same [] = refl
    numbers_same (e ∷ es) = ap₂ ◌∷◌ (number_same e) (numbers_same es)

    indices_same : (y : ℕ) (es : List Control)
        → numbers scene es ≡ numbers scene (indices_of simple names y es)
    indices_same y es = go (names y)
      where
        go : (t : Bool) → numbers scene es ≡ numbers scene (cond t (all_simpler simple es) es)
        go true = numbers_same es
        go false = refl

    narrowed_same : (sides : List Side) (cs : List Coord)
        → narrowed scene sides cs ≡ narrowed scene sides (coords_simpler simple cs)
    narrowed_same [] [] = refl
    narrowed_same [] (At e ∷ cs) = refl
    narrowed_same [] (Span e f ∷ cs) = refl
    narrowed_same (Point p ∷ sides) cs =
        ap (option_map (λ rest. Point p ∷ rest)) (narrowed_same sides cs)
    narrowed_same (Range lo n ∷ sides) [] = refl
    narrowed_same (Range lo n ∷ sides) (At e ∷ cs) =
        ap₂ (λ i o. where_true (is_below i n) (option_map (λ rest. Point (lo +ℤ i) ∷ rest) o))
        (number_same e) (narrowed_same sides cs)
    narrowed_same (Range lo n ∷ sides) (Span e f ∷ cs) =
        ap₂ (λ i o. where_true (int_le (pos 0) i && int_lt i (number scene f)
        && int_le (number scene f) n)
        (option_map (λ rest. Range (lo +ℤ i) (number scene f -ℤ i) ∷ rest) o))
        (number_same e) (narrowed_same sides cs)
        ∙ ap (λ j. where_true (int_le (pos 0) (number scene (simpler simple e))
        && int_lt (number scene (simpler simple e)) j && int_le j n)
        (option_map (λ rest. Range (lo +ℤ number scene (simpler simple e))
        (j -ℤ number scene (simpler simple e)) ∷ rest)
        (narrowed scene sides (coords_simpler simple cs)))) (number_same f)

    abbrev in_window : List Coord → Seen → Option Seen
    in_window cs seen = option_map (λ sides. record { buffer = seen.buffer; sides = sides })
        (narrowed scene seen.sides cs)

    seen_same : (o : Option Seen) (cs : List Coord)
        → then_do o (in_window cs) ≡ then_do o (in_window (coords_simpler simple cs))
    seen_same None cs = refl
    seen_same (Some seen) cs =
        ap (option_map (λ sides. record { buffer = seen.buffer; sides = sides }))
        (narrowed_same seen.sides cs)

    window_same : (y : ℕ) (cs : List Coord)
        → window scene y cs ≡ window scene y (window_of simple names y cs)
    window_same y cs = go (names y)
      where
        go : (t : Bool) → window scene y cs ≡ window scene y (cond t (coords_simpler simple cs) cs)
        go true = seen_same (scene.views y) cs
        go false = refl

    place_same : (y : ℕ) (es : List Control)
        → place scene y es ≡ place scene y (indices_of simple names y es)
    place_same y es = ap (λ js. then_do (scene.views y) (λ seen. option_map (λ at. record {
      buffer = seen.buffer;
      at = at;
    }) (cell_at seen.sides js))) (indices_same y es)

    given_same : (g : Argument)
        → given scene g ≡ given scene (simplified_argument simple names g)
    given_same (ControlArg e) = refl
    given_same (ConditionArg c) = refl
    given_same (Whole y) = refl
    given_same (Window y cs) = ap (option_map GivenView) (window_same y cs)

    number_given_same : (g : Argument)
        → argument_number scene g ≡ argument_number scene (simplified_argument simple names g)
    number_given_same (ControlArg e) = refl
    number_given_same (ConditionArg c) = refl
    number_given_same (Whole y) = refl
    number_given_same (Window y cs) = refl

    all_given_same : (gs : List Argument)
        → all_given scene gs ≡ all_given scene (simplified_arguments simple names gs)
    all_given_same [] = refl
    all_given_same (g ∷ gs) =
        ap₂ (λ o q. then_do o (λ a. option_map (λ as'. a ∷ as') q)) (given_same g)
        (all_given_same gs)

  -- ---- values

  module _ (s : State) where
    value_same : (d : Datum) → value s d ≡ value s (simplified_datum simple names d)
    value_same (Const n) = refl
    value_same (Read y es) = ap (option_map (held s.cells)) (place_same s.scene y es)
    value_same (Negated a) = ap (option_map (on_one (λ m. pos 0 -ℤ m))) (value_same a)
    value_same (Relu a) = ap (option_map (on_one relu)) (value_same a)
    value_same (Plus a b) =
        ap₂ (λ o q. then_do o (λ u. option_map (on_two ◌+ℤ◌ u) q)) (value_same a) (value_same b)
    value_same (Minus a b) =
        ap₂ (λ o q. then_do o (λ u. option_map (on_two ◌-ℤ◌ u) q)) (value_same a) (value_same b)
    value_same (Times a b) =
        ap₂ (λ o q. then_do o (λ u. option_map (on_two ◌*ℤ◌ u) q)) (value_same a) (value_same b)
    value_same (Select a b c d) =
        ap₂ (λ o w. then_do o (λ x. then_do w (λ v. then_do (value s c)
        (λ y. option_map (on_four selected x v y) (value s d))))) (value_same a) (value_same b)
        ∙ ap₂ (λ o w. then_do (value s (simplified_datum simple names a)) (λ x.
        then_do (value s (simplified_datum simple names b)) (λ v. then_do o
        (λ y. option_map (on_four selected x v y) w)))) (value_same c) (value_same d)

  -- ---- blocks

  module _ (world : World) where
    call_same : (k : ℕ) (gs : List Argument) (s : State)
        → step world (Call k gs) s ≡ step world (Call k (simplified_arguments simple names gs)) s
    call_same k gs s = go (world.callees k)
      where
        go : (o : Option Callee)
            → call_to o gs s ≡ call_to o (simplified_arguments simple names gs) s
        go None = refl
        go (Some c) = ap (λ q. where_true (given_all_apart c.writes c.procedure.params q)
            (then_do q (λ given. then_do (entered c.procedure.params given s)
            (λ inner. option_map (returned c given s) (run_asserted c inner)))))
            (all_given_same s.scene gs)

    mutual
      along : (b : Block) (s : State) → SameAlong world b (simplified simple names b) s
      along end s = both_end
      along (next a b) s = both_next (there a s) (λ t e. along b t)

      there : (a : Statement) (s : State)
          → SameThere world a (simplified_statement simple names a) s
      there (Assign y es d) s = at_once (ap₂ (λ o q. then_do o (λ p. then_do q
          (λ v. put s (λ old. v) p))) (place_same s.scene y es) (value_same s d))
      there (Reduce y es d) s = at_once (ap₂ (λ o q. then_do o (λ p. then_do q
          (λ v. put s (λ old. on_two ◌+ℤ◌ old v) p))) (place_same s.scene y es) (value_same s d))
      there (Config f g) s = at_once (ap (λ o. then_do o (λ n. where_true (suits (world.kinds f) n)
          (Some (on_scene (with_field f n) s)))) (number_given_same s.scene g))
      there Pass s = at_once refl
      there (If c b d) s = in_branches refl (λ e. along b s) (λ e. along d s)
      there (For i lo hi b) s = in_turns refl refl (λ n u come.
          along b (on_scene (with_control i.id n) u))
      there (Alloc y cell dims memory) s = at_once refl
      there (View w y cs) s = at_once (ap (λ o. then_do o (λ (seen : Seen).
          Some (on_scene (with_view w.id seen) s))) (window_same s.scene y cs))
      there (Call k gs) s = at_once (call_same k gs s)

pub simplified_along : SimplifiedAlong
simplified_along world simple names b s is = along simple names is world b s

pub simplified_law : SimplifiedLaw
simplified_law world simple names b s is =
    along_law world b (simplified simple names b) s (along simple names is world b s)
