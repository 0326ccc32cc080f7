-- The nests of zeros and of sums for x[2:6], where each cell of x: i32[8] holds 5.
use Rattle.std.proofs.Common.{◌≡◌, ◌==◌, ℕ, ℤ, pos, Bool, true, false, cond, List, [], ◌∷◌, Option}
use Rattle.std.proofs.Common.{Some, None, option_map, refl, sym}
use Rattle.std.specs.Int.{int_wrap}
use Rattle.exo_tree.specs.Tree.{I32, Lit, Sub, Control, Alloc, next}
use Rattle.exo_meaning.specs.Value.{Value, Number, Undefined}
use Rattle.exo_meaning.specs.Scene.{Shape, Seen, Range}
use Rattle.exo_meaning.specs.State.{State}
use Rattle.exo_meaning.specs.Calls.{GivenView, copy_back}
use Rattle.exo_meaning.specs.Footprint.{IsTidy}
use Rattle.exo_meaning.specs.Run.{run, tensor}
use Rattle.exo_meaning.proofs.Windows.{none_is_some}
use Rattle.inplace_laws.specs.Filled.{Loop}
use Rattle.buffer_laws.specs.Staging.Stores.{IsStaging, emptied}
use Rattle.buffer_laws.specs.StageMem.{loads, stores}
use Rattle.buffer_laws.specs.Sums.{zero_nest, sum_nest, zeros, zeroed, sums}
use Rattle.buffer_laws.proofs.StageAccumExamples.{world, middle, t, window, fives, eight}
use Rattle.buffer_laws.proofs.StageExamples.{same}
use Rattle.buffer_laws.proofs.Sums.{zeros_law, sums_law}

abbrev part : Seen
part = record { buffer = 0; sides = Range (pos 2) (pos 4) ∷ [] }

abbrev dims : List Control
dims = Sub (Lit (pos 6)) (Lit (pos 2)) ∷ []

abbrev ls : List Loop
ls = loads same window I32 0 2

abbrev ks : List Loop
ks = stores same window I32 0 2

abbrev first : State
first = emptied 2 I32 (pos 4 ∷ []) fives

abbrev beside : State
beside = zeroed 2 part eight fives

first_tidy : IsTidy first
first_tidy b e at = go (b == 2) (b == 0) e
  where
    go : (p q : Bool) → cond {A = Option Shape} p (Some (tensor I32 (pos 4 ∷ []))) (cond q (Some eight) None) ≡ None
        → cond {A = List ℤ → Value} p (λ js. Undefined)
        (λ js. cond q (Number (pos 5)) Undefined) at ≡ Undefined
    go true q e = refl
    go false true e = absurd (none_is_some (sym e))
    go false false e = refl

before : IsStaging 2 0 part middle ls first
before = record {
  tidy = first_tidy;
  name = refl;
  there = (eight, refl);
  other = refl;
  window = λ n. refl;
  distinct = (refl, tt);
  over = (refl, λ n. tt);
}

starts_at_zero : run world (next (Alloc t I32 dims 0) (zero_nest 2 ls)) fives ≡ Some beside
starts_at_zero = zeros_law world t dims 0 0 part eight middle ls fives refl before

behind : IsStaging 2 0 part middle ks beside
behind = record {
  tidy = λ b e at. tidy b at (b == 2) (b == 0) e;
  name = refl;
  there = (eight, refl);
  other = refl;
  window = λ n. refl;
  distinct = (refl, tt);
  over = (refl, λ n. tt);
}
  where
    tidy : (b : ℕ) (at : List ℤ) (p q : Bool)
        → cond {A = Option Shape} p (Some (tensor I32 (pos 4 ∷ []))) (cond q (Some eight) None) ≡ None
        → cond {A = List ℤ → Value} p (zeros part) (λ js. cond q (Number (pos 5)) Undefined) at ≡ Undefined
    tidy b at true q e = absurd (none_is_some (sym e))
    tidy b at false true e = absurd (none_is_some (sym e))
    tidy b at false false e = refl

is_added : run world (sum_nest 2 0 middle ks) beside ≡ Some (record beside {
  cells = copy_back true (GivenView part) (sums I32 (beside.cells 2) beside.cells part) beside.cells;
})
is_added = sums_law world 2 0 part eight middle ks beside behind refl

-- a cell of the window still holds 5
still_five : option_map (λ (s : State). s.cells 0 (pos 3 ∷ []))
    (run world (sum_nest 2 0 middle ks) beside) ≡ Some (Number (pos 5))
unfolding int_wrap
still_five = refl
