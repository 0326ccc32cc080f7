-- Of p(x: i32[8]), x[0] = x[3] + 1 is b : i32; b = x[3]; x[0] = b + 1.
use Rattle.std.proofs.Common.{◌≡◌, pos, true, false, [], ◌∷◌, Option, Some}
use Rattle.std.proofs.Common.{option_map, refl, sym, subst, eqb-true}
use Rattle.std.specs.Int.{int_wrap}
use Rattle.exo_tree.specs.Tree.{I32, Lit, Datum, Const, Read, Plus, Assign, Alloc, Block, end}
use Rattle.exo_tree.specs.Tree.{next}
use Rattle.exo_tree.specs.Context.{Here}
use Rattle.exo_meaning.specs.Value.{Value, Number}
use Rattle.exo_meaning.specs.State.{State, value}
use Rattle.exo_meaning.specs.Inputs.{IsAdmissible, Refines, FitsCell, run_procedure}
use Rattle.exo_meaning.specs.Units.{scope_of}
use Rattle.meaning_laws.specs.Context.{ComesTo}
use Rattle.meaning_laws.specs.Copies.{IsFree}
use Rattle.meaning_laws.specs.Sorted.{MayRun}
use Rattle.place_laws.specs.Scope.Opened.{MayLeave}
use Rattle.buffer_laws.specs.Bound.{Hole, Top, InPlus, filled, stores, bound, IsShort}
use Rattle.buffer_laws.specs.BoundAtPlaces.{IsBufferIn, ReadsCell}
use Rattle.buffer_laws.specs.Buffers.{is_buffer}
use Rattle.buffer_laws.proofs.BoundAtPlaces.{bound_fits_at_place, bind_at_place}
use Rattle.buffer_laws.proofs.Examples.{named, one_cell}
use Rattle.buffer_laws.proofs.StageAccumExamples.{world, sums_of_body, fives}
use Rattle.place_laws.specs.Order.Statements.{one}

abbrev third : Datum
third = Read 0 (Lit (pos 3) ∷ [])

abbrev more : Hole
more = InPlus Top (Const (pos 1))

abbrev before : Block
before = one (stores false 0 (Lit (pos 0) ∷ []) (filled more third))

abbrev with_cell : Block
with_cell = bound one_cell false 0 (Lit (pos 0) ∷ []) more third

text : with_cell ≡ next (Alloc (named 3) I32 [] 0) (next (Assign 3 [] third)
    (next (Assign 0 (Lit (pos 0) ∷ []) (Plus (Read 3 []) (Const (pos 1)))) end))
text = refl

may_run : MayRun [] 1 [] (sums_of_body before)
may_run = record {
  unit = tt;
  procedure = record {
    params = refl;
    asserts = refl;
    body = refl;
    filled = refl;
    ids = refl;
    distinct = refl;
    paths = refl;
    template = refl;
  };
}

reads_x : ReadsCell (scope_of [] (sums_of_body before).params) (λ y. I32) third
reads_x y is e = subst (λ z. IsBufferIn (scope_of [] (sums_of_body before).params) z I32)
    (name e) (1, true, refl)
  where
    name : third ≡ Read y is → 0 ≡ y
    name e = cc

is_short : IsShort third
is_short n e = absurd (differ e)
  where
    differ : third ≡ Const n → ⊥
    differ e = cc

it_fits : (s u : State) (v : Value) → IsAdmissible world (sums_of_body before) s
    → ComesTo world before (Here end) s u → value u third ≡ Some v → FitsCell I32 v
it_fits s u v good come e = bound_fits_at_place [] 1 [] (sums_of_body before) (Here end) before
    (λ y. I32) third s u v may_run refl reads_x is_short good come e

leaves : MayLeave (sums_of_body before) (Here end) (is_buffer one_cell)
leaves = record {
  free = λ y e. subst (IsFree (sums_of_body before) (Here end)) (sym (eqb-true y 3 e))
      (refl, refl);
  unused = refl;
}

it_is_bound : Refines world (sums_of_body before) (sums_of_body with_cell) []
it_is_bound = bind_at_place [] 1 [] (sums_of_body before) (Here end) (λ y. I32) one_cell false 0
    (Lit (pos 0) ∷ []) more third may_run refl leaves refl refl refl reads_x is_short

-- each cell of x holds 5
abbrev first_of_x : Block → Option Value
first_of_x b = option_map (λ (s : State). s.cells 0 (pos 0 ∷ []))
    (run_procedure world (sums_of_body b) fives)

before_runs : first_of_x before ≡ Some (Number (pos 6))
unfolding int_wrap
before_runs = refl

it_runs : first_of_x with_cell ≡ Some (Number (pos 6))
unfolding int_wrap
it_runs = refl
