-- Arguments without lanes are the same on both sides.
use Rattle.std.proofs.Common.{◌≡◌, ◌≤◌, ◌^◌, ℕ, zero, suc, ℤ, pos, ◌≤ℤ◌, Bool, true, false, List, [], ◌∷◌, length, Option, Some, None, option_map, refl, sym, ap, ◌∙◌, subst, arith, unsigned_abs, ⊎_elim}
use Rattle.std.proofs.lemmas.Int.{ints}
use Rattle.std.proofs.Math.Nat.{le_trans}
use Rattle.exo_tree.specs.Tree.{Cell, Kind, Control, Coord, At, Span, Argument, ControlArg, ConditionArg, Whole, Window, ParamKind, ControlParam, TensorParam, WindowParam}
use Rattle.exo_meaning.specs.Scene.{Seen, Scene, Side, Point, Range, extents, strides_of, holds, number, numbers, narrowed}
use Rattle.exo_meaning.specs.State.{State}
use Rattle.exo_meaning.specs.Calls.{Given, GivenNumber, GivenView, given, truth}
use Rattle.exo_meaning.specs.Run.{product, row_major}
use Rattle.exo_meaning.specs.Units.{spans}
use Rattle.c_unit_laws.specs.Follows.Machine.Machine.{Outcome, Done, after, Pointer, Thing}
use Rattle.c_unit_laws.specs.Follows.Machine.Machine.{IsNumber, IsArray, IsWindow, Machine}
use Rattle.c_unit_laws.specs.Follows.Machine.Machine.{all_numbers64}
use Rattle.c_unit_laws.specs.Follows.Machine.CRun.{thing_by, window_from}
use Rattle.c_lowering.specs.Made.Lowered.{Forms, actual_of, at_spans, strides_in}
use Rattle.c_unit_laws.specs.Follows.Simulation.{Ground, Follows, Layout, Matches, beginning}
use Rattle.c_unit_laws.specs.Follows.Good.{IsBufferOf, AreGoodCoords, IsGoodArgument}
use Rattle.c_unit_laws.proofs.OfFollows.Steps.{follows_none, follows_both}
use Rattle.c_unit_laws.proofs.OfFollows.Windows.{some_same, no_some, mapped, tested}
use Rattle.c_unit_laws.proofs.OfFollows.Places.{tensor_here, window_here}
use Rattle.c_unit_laws.proofs.OfFollows.Open.{open_given, open_bounded}
use Rattle.c_unit_laws.proofs.OfFollows.Tests.{test_is}
use Rattle.c_unit_laws.proofs.OfFollows.Begun.{all_extents}
use Rattle.c_unit_laws.proofs.OfFollows.Handed.{SeesPart, own, window_is, first_spot, thing_is}
use Rattle.c_unit_laws.proofs.OfFollows.Handed.{within_is}
use Rattle.c_unit_laws.proofs.OfFollows.Given.{IsPart, IsDense, IsGivenAs}
use Rattle.c_unit_laws.proofs.OfFollows.Reading.{Reads, same_spot}

-- ---- sides and extents

-- a window has as many extents as spans
pub narrowed_spans : (scene : Scene) (sides : List Side) (cs : List Coord) (result : List Side) → narrowed scene sides cs ≡ Some result → length (extents result) ≡ spans cs
narrowed_spans scene [] [] result e = ap (λ r. length (extents r)) (sym (some_same e))
narrowed_spans scene [] (c ∷ cs) result e = absurd (no_some e)
narrowed_spans scene (Point p ∷ sides) cs result e =
    let m = mapped (λ rest. Point p ∷ rest) (narrowed scene sides cs) result e in
    ap (λ r. length (extents r)) m.2 ∙ narrowed_spans scene sides cs m.0 m.1
narrowed_spans scene (Range lo n ∷ sides) [] result e = absurd (no_some e)
narrowed_spans scene (Range lo n ∷ sides) (At a ∷ cs) result e =
    let m = mapped (λ rest. Point _ ∷ rest) (narrowed scene sides cs) result (tested _ _ result e).1 in
    ap (λ r. length (extents r)) m.2 ∙ narrowed_spans scene sides cs m.0 m.1
narrowed_spans scene (Range lo n ∷ sides) (Span a b ∷ cs) result e =
    let m = mapped (λ rest. Range _ _ ∷ rest) (narrowed scene sides cs) result (tested _ _ result e).1 in
    ap (λ r. length (extents r)) m.2 ∙ ap suc (narrowed_spans scene sides cs m.0 m.1)

none_long : (ds : List ℤ) → length ds ≡ 0 → ds ≡ []
none_long [] h = refl
none_long (d ∷ ds) h = absurd (omega (arith, h))

no_strides : (sides : List Side) (ts : List ℤ) → length (extents sides) ≡ 0 → strides_of sides ts ≡ []
no_strides [] ts h = refl
no_strides (Point p ∷ sides) [] h = refl
no_strides (Point p ∷ sides) (t ∷ ts) h = no_strides sides ts h
no_strides (Range lo n ∷ sides) ts h = absurd (omega (arith, h))

-- all of a name that has no extents
narrowed_none : (scene : Scene) (sides : List Side) → length (extents sides) ≡ 0 → narrowed scene sides [] ≡ Some sides
narrowed_none scene [] h = refl
narrowed_none scene (Point p ∷ sides) h = ap (option_map (λ rest. Point p ∷ rest)) (narrowed_none scene sides h)
narrowed_none scene (Range lo n ∷ sides) h = absurd (omega (arith, h))

pub numbers_length : (scene : Scene) (es : List Control) → length (numbers scene es) ≡ length es
numbers_length scene [] = refl
numbers_length scene (e ∷ es) = ap suc (numbers_length scene es)

truth_small : (t : Bool) → unsigned_abs (truth t) ≤ 1
truth_small true = omega arith
truth_small false = omega arith

module _ (Few : Type 0) (g : Ground) (forms : Forms) (most : ℕ → ℕ) (root : ℕ → ℕ) (layout : Layout) (s : State) (m : Machine) (match : Matches g forms most root layout s m) (from : Option Thing → ℤ → Outcome Pointer) (seen_as : Thing → Thing) (function : Bool) (reads : Reads from seen_as function) where
  abbrev pub Same : ℕ → ParamKind → Given → Thing → Type 0
  Same bound kind v t = IsGivenAs layout s.scene bound kind v (seen_as t)

  -- ---- numbers

  pub control_follows : (bound : ℕ) (kind : Kind) (a : Argument) → IsGoodArgument g.declared forms most bound function (ControlParam kind) a → Follows Few (Same bound (ControlParam kind)) (given s.scene a) (thing_by from m.setting (actual_of g.naming forms (ControlParam kind) a))
  control_follows bound kind (ControlArg a) h =
      follows_both Few (Same bound (ControlParam kind)) _ _ (GivenNumber (number s.scene a)) (IsNumber (number s.scene a)) refl
      (open_given g.naming forms most layout s.scene m.setting match.names match.placed g.declared match.fields a h.0.0 h.0.1)
      (reads.number_is (number s.scene a), le_trans (open_bounded g.naming forms most layout s.scene m.setting match.names match.placed g.declared match.fields a h.0.0) h.1)
  control_follows bound kind (ConditionArg c) h =
      follows_both Few (Same bound (ControlParam kind)) _ _ (GivenNumber (truth (holds s.scene c))) (IsNumber (truth (holds s.scene c))) refl
      (ap (λ o. after o (λ b. Done (IsNumber (truth b)))) (test_is g.naming g.declared forms most layout s.scene m.setting match.names match.placed match.fields c h.0))
      (reads.number_is (truth (holds s.scene c)), le_trans (truth_small (holds s.scene c)) h.1)
  control_follows bound kind (Whole x) h = absurd h
  control_follows bound kind (Window x coords) h = absurd h

  -- ---- parts of buffers

  module _ (x : ℕ) (cell : Cell) (cs : List Coord) (h : IsBufferOf forms x cell (length cs)) (good : AreGoodCoords forms most cs) where
    abbrev part_of : SeesPart g.naming forms s.scene m.setting x cell
    part_of = own g.naming forms most layout s.scene m.setting match.names match.placed root match.roots Few x cell cs h good

    abbrev seen_on : List Side → Seen
    seen_on sides = record { buffer = part_of.seen.buffer; sides = sides }

    view_is : given s.scene (Window x cs) ≡ option_map (λ sides. GivenView (seen_on sides)) (narrowed s.scene part_of.seen.sides cs)
    view_is = ap (option_map GivenView) (window_is g.naming forms most layout s.scene m.setting match.names match.placed root match.roots Few x cell cs h good) ∙ twice (narrowed s.scene part_of.seen.sides cs)
      where
        twice : (o : Option (List Side)) → option_map GivenView (option_map seen_on o) ≡ option_map (λ sides. GivenView (seen_on sides)) o
        twice None = refl
        twice (Some sides) = refl

    module _ (sides : List Side) (e : narrowed s.scene part_of.seen.sides cs ≡ Some sides) where
      abbrev part_here : IsPart s.scene cell (seen_on sides)
      part_here = record {
        shape = part_of.shape;
        buffer = part_of.buffer;
        within = within_is g.naming forms most layout s.scene m.setting match.names match.placed root match.roots Few x cell cs h good sides e;
        cell_is = part_of.cell_is;
      }

      abbrev first : Pointer
      first = beginning layout part_of.shape (seen_on sides)

      spot_here : thing_by from m.setting (actual_of g.naming forms (TensorParam cell [] 0) (Window x cs)) ≡ Done (IsArray first)
      spot_here =
          ap (λ o. after o (λ p. Done (IsArray p)))
          (same_spot Few g forms most root layout s m match from seen_as function reads x cell (length cs) h _ ∙ first_spot g.naming forms most layout s.scene m.setting match.names match.placed root match.roots Few x cell cs h good sides e)

      dense_here : length (extents sides) ≡ 0 → IsDense layout s.scene cell (seen_on sides) (seen_as (IsArray first))
      dense_here none =
          let empty = none_long (extents sides) none in
          record {
            part = part_here;
            rows = no_strides sides part_of.shape.strides none ∙ ap row_major (sym empty);
            few = subst (λ ds. product ds ≤ℤ pos (2 ^ 48)) (sym empty) (omega (arith, ints));
            thing = reads.array_is first;
          }

      window_here_is : thing_by from m.setting (actual_of g.naming forms (WindowParam cell [] 0) (Window x cs)) ≡ Done (IsWindow first (strides_of sides part_of.shape.strides))
      window_here_is =
          let texts = at_spans cs (strides_in g.naming x (forms x)) in
          ap (λ o. after o (λ p. after (all_numbers64 m.setting texts) (window_from (length texts) cell m.setting.objects p))) (same_spot Few g forms most root layout s m match from seen_as function reads x cell (length cs) h _)
          ∙ thing_is g.naming forms most layout s.scene m.setting match.names match.placed root match.roots Few x cell cs h good sides e

    pub point_follows : (bound memory : ℕ) → spans cs ≡ 0 → Follows Few (Same bound (TensorParam cell [] memory)) (given s.scene (Window x cs)) (thing_by from m.setting (actual_of g.naming forms (TensorParam cell [] memory) (Window x cs)))
    point_follows bound memory none = go (narrowed s.scene part_of.seen.sides cs) refl
      where
        go : (o : Option (List Side)) → narrowed s.scene part_of.seen.sides cs ≡ o → Follows Few (Same bound (TensorParam cell [] memory)) (given s.scene (Window x cs)) (thing_by from m.setting (actual_of g.naming forms (TensorParam cell [] memory) (Window x cs)))
        go None e = follows_none Few (Same bound (TensorParam cell [] memory)) _ _ (view_is ∙ ap (option_map (λ sides. GivenView (seen_on sides))) e)
        go (Some sides) e = follows_both Few (Same bound (TensorParam cell [] memory)) _ _ (GivenView (seen_on sides)) (IsArray (first sides e)) (view_is ∙ ap (option_map (λ sides. GivenView (seen_on sides))) e) (spot_here sides e) (dense_here sides e (narrowed_spans s.scene part_of.seen.sides cs sides e ∙ none))

    pub window_follows : (bound memory : ℕ) (ds : List Control) → spans cs ≡ length ds → Follows Few (Same bound (WindowParam cell ds memory)) (given s.scene (Window x cs)) (thing_by from m.setting (actual_of g.naming forms (WindowParam cell ds memory) (Window x cs)))
    window_follows bound memory ds rank = go (narrowed s.scene part_of.seen.sides cs) refl
      where
        go : (o : Option (List Side)) → narrowed s.scene part_of.seen.sides cs ≡ o → Follows Few (Same bound (WindowParam cell ds memory)) (given s.scene (Window x cs)) (thing_by from m.setting (actual_of g.naming forms (WindowParam cell ds memory) (Window x cs)))
        go None e = follows_none Few (Same bound (WindowParam cell ds memory)) _ _ (view_is ∙ ap (option_map (λ sides. GivenView (seen_on sides))) e)
        go (Some sides) e =
            let strides = strides_of sides part_of.shape.strides in
            follows_both Few (Same bound (WindowParam cell ds memory)) _ _ (GivenView (seen_on sides)) (IsWindow (first sides e) strides) (view_is ∙ ap (option_map (λ sides. GivenView (seen_on sides))) e) (window_here_is sides e)
            (record { part = part_here sides e; thing = reads.window_is (first sides e) strides }, narrowed_spans s.scene part_of.seen.sides cs sides e ∙ rank)

  -- ---- all of a buffer of no dimensions

  seen_rank : (x : ℕ) (cell : Cell) (rank : ℕ) → IsBufferOf forms x cell rank → (z : Seen) → s.scene.views x ≡ Some z → length (extents z.sides) ≡ rank
  seen_rank x cell rank h z k =
      ⊎_elim
      (λ w. let a = window_here g.naming forms most layout s.scene m.setting match.names x cell rank w.0 in ap (λ v. length (extents v.sides)) (some_same (sym k ∙ a.view)) ∙ a.rank_is)
      (λ t. let a = tensor_here g.naming forms most layout s.scene m.setting match.names x cell t.0 zero t.1 in
      ap (λ v. length (extents v.sides)) (some_same (sym k ∙ a.view)) ∙ ap (λ l. length l) (all_extents a.extents) ∙ ap (λ l. length l) (sym (a.numbers_are s.scene refl)) ∙ numbers_length s.scene t.0 ∙ t.2)
      h

  pub cell_follows : (bound memory : ℕ) (x : ℕ) (cell : Cell) → IsBufferOf forms x cell 0 → Follows Few (Same bound (TensorParam cell [] memory)) (given s.scene (Whole x)) (thing_by from m.setting (actual_of g.naming forms (TensorParam cell [] memory) (Whole x)))
  cell_follows bound memory x cell h =
      let p = part_of x cell [] h tt in
      let none = seen_rank x cell 0 h p.seen p.view in
      let e = narrowed_none s.scene p.seen.sides none in
      follows_both Few (Same bound (TensorParam cell [] memory)) _ _ (GivenView p.seen) (IsArray (first x cell [] h tt p.seen.sides e)) (ap (option_map GivenView) p.view) (spot_here x cell [] h tt p.seen.sides e) (dense_here x cell [] h tt p.seen.sides e none)
