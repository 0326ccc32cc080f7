-- An input on which the staged calls run as the calls do.
use Rattle.std.proofs.Common.{◌≡◌, ◌==◌, ◌||◌, ℕ, ℤ, pos, Bool, true, false, true≢false, cond}
use Rattle.std.proofs.Common.{[], ◌∷◌, Option, Some, None, IsSome, option_map, refl, sym, subst}
use Rattle.std.specs.Int.{int_wrap}
use Rattle.exo_tree.specs.Tree.{I32, Block}
use Rattle.exo_meaning.specs.Value.{Value, Number, Undefined, wrap}
use Rattle.exo_meaning.specs.Scene.{Shape, Seen, Range, whole}
use Rattle.exo_meaning.specs.State.{State, on_scene, with_view}
use Rattle.exo_meaning.specs.Inputs.{IsAdmissible, FitsCell, run_procedure}
use Rattle.exo_meaning.specs.Run.{run, tensor}
use Rattle.exo_meaning.proofs.Windows.{one_value}
use Rattle.buffer_laws.specs.Staging.Converted.{converted}
use Rattle.buffer_laws.specs.Staging.Whole.{MayConvert}
use Rattle.buffer_laws.proofs.OfStaging.Converted.{fits_law}
use Rattle.buffer_laws.specs.StageMem.{asked_of_statement}
use Rattle.buffer_laws.specs.Stride.OnView.{AllHold}
use Rattle.buffer_laws.proofs.OfStride.Along.{each_within}
use Rattle.buffer_laws.proofs.OfStride.PassedExamples.{world, p_of, setting, adding, copying, middle, x_sides}
use Rattle.buffer_laws.proofs.OfStride.PassedExamples.{staged_of, read_of, summed_of}
use Rattle.buffer_laws.proofs.OfStride.ViewedRuns.{on_view_law}

abbrev eight : Shape
eight = tensor I32 (pos 8 ∷ [])

abbrev all_of : ℕ → Seen
all_of y = record { buffer = y; sides = whole (pos 8 ∷ []) }

-- x holds 5, z holds 3
abbrev is_there : ℕ → Bool
is_there y = (y == 0) || (y == 1)

abbrev input : State
input = record {
  scene = record {
    control = λ y. pos 0;
    buffers = λ b. cond (is_there b) (Some eight) None;
    views = λ y. cond (is_there y) (Some (all_of y)) None;
    fields = λ f. pos 0;
  };
  cells = λ b at. cond (is_there b) (Number (cond (b == 0) (pos 5) (pos 3))) Undefined;
}

five_fits : wrap I32 (pos 5) ≡ pos 5
unfolding int_wrap
five_fits = refl

three_fits : wrap I32 (pos 3) ≡ pos 3
unfolding int_wrap
three_fits = refl

none_some : (shape : Shape) → Some shape ≡ None → ⊥
none_some shape e = cc

tidy : (r : Bool) (v : Value) → cond {A = Option Shape} r (Some eight) None ≡ None
    → cond r v Undefined ≡ Undefined
tidy true v e = absurd (none_some eight e)
tidy false v e = refl

good_input : (b : Block) → IsAdmissible world (p_of b) input
good_input b = record {
  arguments = ((refl, refl), ((refl, refl), tt));
  no_others = λ y e. others y (y == 0) (y == 1) e;
  cells = λ b shape e at. fits (is_there b) (b == 0) shape e;
  tidy = λ b e at. tidy (is_there b) _ e;
  fields = λ f. tt;
  asserts = refl;
}
  where
    others : (y : ℕ) (p q : Bool) → (p || (q || false)) ≡ false
        → (pos 0 ≡ pos 0) × (cond {A = Option Shape} (p || q) (Some eight) None ≡ None)
        × (cond {A = Option Seen} (p || q) (Some (all_of y)) None ≡ None)
    others y true q e = absurd (true≢false e)
    others y false true e = absurd (true≢false e)
    others y false false e = (refl, refl, refl)

    value_fits : (q : Bool) → FitsCell I32 (Number (cond q (pos 5) (pos 3)))
    value_fits true = five_fits
    value_fits false = three_fits

    fits : (r q : Bool) (shape : Shape)
        → cond {A = Option Shape} r (Some eight) None ≡ Some shape
        → FitsCell shape.cell (cond r (Number (cond q (pos 5) (pos 3))) Undefined)
    fits true q shape e = subst (λ (z : Shape). FitsCell z.cell (Number (cond q (pos 5) (pos 3))))
        (one_value eight shape e) (value_fits q)
    fits false q shape e = tt

abbrev cell_of : ℕ → ℤ → Block → Option Value
cell_of y n b = option_map (λ (s : State). s.cells y (n ∷ []))
    (run_procedure world (p_of b) input)

-- x[3] is set to 7; or 7 is added to it; or it is put into z[0]
setting_runs : cell_of 0 (pos 3) setting ≡ Some (Number (pos 7))
unfolding int_wrap
setting_runs = refl

staged_setting_runs : cell_of 0 (pos 3) (staged_of setting) ≡ Some (Number (pos 7))
unfolding int_wrap
staged_setting_runs = refl

others_are_copied_back : cell_of 0 (pos 5) (staged_of setting) ≡ Some (Number (pos 5))
unfolding int_wrap
others_are_copied_back = refl

adding_runs : cell_of 0 (pos 3) adding ≡ Some (Number (pos 12))
unfolding int_wrap
adding_runs = refl

staged_adding_runs : cell_of 0 (pos 3) (summed_of adding) ≡ Some (Number (pos 12))
unfolding int_wrap
staged_adding_runs = refl

zero_is_added : cell_of 0 (pos 5) (summed_of adding) ≡ Some (Number (pos 5))
unfolding int_wrap
zero_is_added = refl

copying_runs : cell_of 1 (pos 0) copying ≡ Some (Number (pos 5))
unfolding int_wrap
copying_runs = refl

staged_copying_runs : cell_of 1 (pos 0) (read_of copying) ≡ Some (Number (pos 5))
unfolding int_wrap
staged_copying_runs = refl

-- ---- on a view of the window

abbrev seen : Seen
seen = record { buffer = 0; sides = Range (pos 2) (pos 4) ∷ [] }

may_convert : MayConvert world 2 0 seen middle setting input
may_convert = record {
  sound = record {
    tidy = λ b e at. tidy (is_there b) _ e;
    seen = λ y z e. there y z (y == 0) (y == 1) refl refl e;
  };
  unbound = record { control = refl; buffers = refl; views = refl };
  window = refl;
  new = record { block = refl; spots = refl };
  fit = fits_law world 0 middle setting input (((λ e. tt), tt), tt, λ v e. tt);
  between = record {
    own = refl;
    name = refl;
    root = refl;
    plain = refl;
    variables = λ y e. absurd (true≢false (sym e));
  };
}
  where
    still : (y : ℕ) (p q : Bool) → (y == 0) ≡ p → (y == 1) ≡ q → (p || q) ≡ true
        → IsSome (input.scene.buffers y)
    still y p q i j k = subst (λ r. IsSome (cond {A = Option Shape} r (Some eight) None))
        (sym (two (y == 0) (y == 1) p q i j k)) refl
      where
        two : (m n p q : Bool) → m ≡ p → n ≡ q → (p || q) ≡ true → (m || n) ≡ true
        two m n p q i j k = subst (λ r. (r || n) ≡ true) (sym i)
            (subst (λ r. (p || r) ≡ true) (sym j) k)

    there : (y : ℕ) (z : Seen) (p q : Bool) → (y == 0) ≡ p → (y == 1) ≡ q
        → cond {A = Option Seen} (p || q) (Some (all_of y)) None ≡ Some z
        → IsSome (input.scene.buffers z.buffer)
    there y z true q i j e = subst (λ (w : Seen). IsSome (input.scene.buffers w.buffer))
        (one_value (all_of y) z e) (still y true q i j refl)
    there y z false true i j e = subst (λ (w : Seen). IsSome (input.scene.buffers w.buffer))
        (one_value (all_of y) z e) (still y false true i j refl)
    there y z false false i j e = absurd (no e)
      where
        no : None ≡ Some z → ⊥
        no e = cc

same_on_view : run world (converted 2 0 middle setting) (on_scene (with_view 2 seen) input)
    ≡ option_map (on_scene (with_view 2 seen)) (run world setting input)
same_on_view = on_view_law world 2 0 seen x_sides middle setting input may_convert (λ c d v is come.
    each_within world (λ d z. AllHold z (asked_of_statement 0 x_sides middle d)) setting input
    ((refl, (refl, tt)), tt, λ w e. tt) c d v is come)

view_runs : option_map (λ (s : State). s.cells 0 (pos 3 ∷ []))
    (run world (converted 2 0 middle setting) (on_scene (with_view 2 seen) input))
    ≡ Some (Number (pos 7))
unfolding int_wrap
view_runs = refl
