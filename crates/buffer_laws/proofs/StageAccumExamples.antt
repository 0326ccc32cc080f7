-- Of sums(x: i32[8]), which adds 7 to x[3] and x[4] in a loop, the loop is staged on x[2:6] with a
-- buffer t that starts at 0.
use Rattle.std.proofs.Common.{◌≡◌, ◌==◌, ◌||◌, ℤ, pos, Bool, true, false, true≢false, cond, List}
use Rattle.std.proofs.Common.{[], ◌∷◌, Option, Some, None, option_map, refl, sym, subst, eqb-true}
use Rattle.std.specs.Int.{int_wrap}
use Rattle.std.specs.Fmt.{digits}
use Rattle.exo_tree.specs.Tree.{Binder, I32, Lit, Var, Add, Sub, Coord, Span, TensorParam}
use Rattle.exo_tree.specs.Tree.{Const, Read, Assign, Reduce, For, Alloc, Block, end, next, Procedure}
use Rattle.exo_tree.specs.Context.{Here}
use Rattle.exo_meaning.specs.Value.{Value, Number, Undefined, wrap}
use Rattle.exo_meaning.specs.Scene.{Scene, Shape, Seen, numbers, whole}
use Rattle.exo_meaning.specs.State.{State}
use Rattle.exo_meaning.specs.Inputs.{IsAdmissible, Refines, FitsCell, run_procedure}
use Rattle.exo_meaning.specs.Run.{World, run, unit_world, kinds_of, tensor}
use Rattle.exo_meaning.proofs.Windows.{one_value}
use Rattle.meaning_laws.specs.Context.{ComesTo, MayReplace}
use Rattle.meaning_laws.specs.Sorted.{MayRun}
use Rattle.meaning_laws.specs.Sound.{IsUnbound}
use Rattle.meaning_laws.proofs.Copies.{sound_law, unbound_law}
use Rattle.exo_meaning.specs.Units.{scope_of}
use Rattle.inplace_laws.specs.Filled.{Loop}
use Rattle.buffer_laws.specs.Staging.Stores.{AreDistinct, spans}
use Rattle.buffer_laws.specs.Staging.Inside.{extents_of}
use Rattle.buffer_laws.specs.Staging.Known.{AreOver, AreMade, IsKnown}
use Rattle.buffer_laws.specs.Staging.Replaced.{Hides}
use Rattle.buffer_laws.proofs.OfStaging.AtPlaces.{known_at_place}
use Rattle.buffer_laws.proofs.OfStaging.Converted.{fits_law}
use Rattle.buffer_laws.specs.StageMem.{Staging, sizes, loads, stores}
use Rattle.buffer_laws.specs.StageAccum.{OnlyAdds, sums_of, sums_as_made, sums_with_simpler}
use Rattle.buffer_laws.proofs.OnlyAdds.{only_adds_at_place}
use Rattle.buffer_laws.proofs.StageAccum.{sums_replace}
use Rattle.buffer_laws.proofs.StageExamples.{same, is_same}
use Rattle.buffer_laws.proofs.StageMem.{named}
use Rattle.buffer_laws.proofs.StageSums.{sums_draft_law, stage_sums_law}

-- for i in seq(0, 2): x[i + 3] += 7
abbrev pub adds : Block
adds = next (For (named 1 (105 ∷ [])) (Lit (pos 0)) (Lit (pos 2))
    (next (Reduce 0 (Add (Var 1) (Lit (pos 3)) ∷ []) (Const (pos 7))) end)) end

abbrev pub sums_of_body : Block → Procedure
sums_of_body b = record {
  name = 115 ∷ [];
  params = record {
    binder = named 0 (120 ∷ []);
    kind = TensorParam I32 (Lit (pos 8) ∷ []) 0;
  } ∷ [];
  asserts = [];
  body = b;
  template = None;
}

abbrev pub world : World
world = unit_world (kinds_of []) []

may_run : MayRun [] 1 [] (sums_of_body adds)
may_run = record {
  unit = tt;
  procedure = record {
    params = refl;
    asserts = refl;
    body = refl;
    filled = refl;
    ids = refl;
    distinct = refl;
    paths = refl;
    template = refl;
  };
}

-- x[2:6]
abbrev pub middle : List Coord
middle = Span (Lit (pos 2)) (Lit (pos 6)) ∷ []

abbrev pub t : Binder
t = named 2 (116 ∷ [])

abbrev pub window : Staging
window = sums_of 0 middle (116 ∷ [])

abbrev made : Block
made = sums_as_made same I32 0 2 0 middle (116 ∷ []) adds

abbrev with_sums : Block
with_sums = sums_with_simpler same I32 0 2 0 middle (116 ∷ []) adds

-- t: i32[6 - 2], set to 0; the loop on t; and t is added to x
text : with_sums ≡ next (Alloc t I32 (Sub (Lit (pos 6)) (Lit (pos 2)) ∷ []) 0)
    (next (For (named 3 (105 ∷ 48 ∷ [])) (Lit (pos 0)) (Sub (Lit (pos 6)) (Lit (pos 2)))
    (next (Assign 2 (Var 3 ∷ []) (Const (pos 0))) end))
    (next (For (named 1 (105 ∷ [])) (Lit (pos 0)) (Lit (pos 2))
    (next (Reduce 2 (Sub (Add (Var 1) (Lit (pos 3))) (Lit (pos 2)) ∷ []) (Const (pos 7))) end))
    (next (For (named 4 (105 ∷ 48 ∷ [])) (Lit (pos 0)) (Sub (Lit (pos 6)) (Lit (pos 2)))
    (next (Reduce 0 (Add (Lit (pos 2)) (Var 4) ∷ []) (Read 2 (Var 4 ∷ []))) end)) end)))
unfolding digits
text = refl

runs_alike : (s : State) → run world made s ≡ run world with_sums s
runs_alike s = sums_draft_law world same I32 0 2 0 middle (116 ∷ []) adds s is_same

over_all : (ls : List Loop) → AreDistinct ls
    → ((z : Scene) → numbers z (extents_of ls) ≡ numbers z (spans middle)) → AreOver ls middle
over_all ls new equal = record {
  distinct = new;
  apart = λ y e. absurd (true≢false (sym e));
  equal = equal;
}

are_made : AreMade (λ y. y == 2) (λ y. y) t (sizes same window I32 0 2) 0 middle
    (loads same window I32 0 2) (stores same window I32 0 2) adds
are_made = record {
  new = record { block = refl; spots = refl };
  other = refl;
  plain = refl;
  sizes = λ z. refl;
  loads = over_all (loads same window I32 0 2) (refl, tt) (λ z. refl);
  stores = over_all (stores same window I32 0 2) (refl, tt) (λ z. refl);
  blinds = refl;
  names = refl;
  not_made = refl;
  own = refl;
  name = refl;
  root_name = refl;
  variables = λ y e. absurd (true≢false (sym e));
}

module _ (s u : State) (good : IsAdmissible world (sums_of_body adds) s)
    (come : ComesTo world adds (Here end) s u) where
  unbound : IsUnbound u 2
  unbound = unbound_law world (sums_of_body adds) adds (Here end) s u good come 2 (refl, refl)

  hides : Hides (λ y. y == 2) adds made u
  hides = record {
    none = record {
      sound = sound_law world (sums_of_body adds) adds (Here end) s u good come;
      unbound = λ y e. subst (IsUnbound u) (sym (eqb-true y 2 e)) unbound;
    };
    of_old = λ y e. absurd (true≢false (sym e));
    of_new = λ y e. either (y == 2) e;
  }
    where
      either : (r : Bool) → (r || false) ≡ true → r ≡ true
      either true e = refl
      either false e = e

  known : IsKnown world (λ y. y) t I32 0 middle adds u
  known = known_at_place [] 1 [] (sums_of_body adds) (Here end) t I32 1 true 0 middle adds s u
      may_run refl (refl, refl) refl good come (fits_law world 0 middle adds u
      (tt, λ n w go. (((λ e. tt), tt), tt, λ v e. tt), λ v e. tt))

  only_adds : OnlyAdds [] 1 [] (scope_of [] (sums_of_body adds).params) (λ y. y) 0 adds u
  only_adds = only_adds_at_place [] 1 [] (sums_of_body adds) (Here end) 0 adds s u may_run refl refl
      good come

  it_may_stand : MayReplace world (λ y. y == 2) adds made u
  it_may_stand = sums_replace [] 1 [] (scope_of [] (sums_of_body adds).params) (λ y. y == 2)
      (λ y. y == 2) (λ y. y) t I32 (sizes same window I32 0 2) 0 0 middle
      (loads same window I32 0 2) (stores same window I32 0 2) adds u are_made hides known only_adds

it_is_staged : Refines world (sums_of_body adds) (sums_of_body with_sums) []
it_is_staged = stage_sums_law [] 1 [] (sums_of_body adds) (Here end)
    (scope_of [] (sums_of_body adds).params) (λ y. y == 2) (λ y. y == 2) (λ y. y) same I32 0 2 0
    middle (116 ∷ []) adds is_same refl refl are_made
    (λ s u good come. (hides s u good come, known s u good come, only_adds s u good come))

-- ---- an input on which both run, to the same cells

abbrev pub eight : Shape
eight = tensor I32 (pos 8 ∷ [])

abbrev all_of_x : Seen
all_of_x = record { buffer = 0; sides = whole (pos 8 ∷ []) }

abbrev pub fives : State
fives = record {
  scene = record {
    control = λ y. pos 0;
    buffers = λ b. cond (b == 0) (Some eight) None;
    views = λ y. cond (y == 0) (Some all_of_x) None;
    fields = λ f. pos 0;
  };
  cells = λ b at. cond (b == 0) (Number (pos 5)) Undefined;
}

five_fits : wrap I32 (pos 5) ≡ pos 5
unfolding int_wrap
five_fits = refl

good_input : IsAdmissible world (sums_of_body adds) fives
good_input = record {
  arguments = ((refl, refl), tt);
  no_others = λ y e. others (y == 0) e;
  cells = λ b shape e at. fits (b == 0) shape e;
  tidy = λ b e at. tidy (b == 0) e;
  fields = λ f. tt;
  asserts = refl;
}
  where
    others : (r : Bool) → (r || false) ≡ false
        → (pos 0 ≡ pos 0) × (cond {A = Option Shape} r (Some eight) None ≡ None)
        × (cond {A = Option Seen} r (Some all_of_x) None ≡ None)
    others true e = absurd (true≢false e)
    others false e = (refl, refl, refl)

    fits : (r : Bool) (shape : Shape) → cond {A = Option Shape} r (Some eight) None ≡ Some shape
        → FitsCell shape.cell (cond r (Number (pos 5)) Undefined)
    fits true shape e = subst (λ (z : Shape). FitsCell z.cell (Number (pos 5)))
        (one_value eight shape e) five_fits
    fits false shape e = tt

    none_some : (shape : Shape) → Some shape ≡ None → ⊥
    none_some shape e = cc

    tidy : (r : Bool) → cond {A = Option Shape} r (Some eight) None ≡ None
        → cond r (Number (pos 5)) Undefined ≡ Undefined
    tidy true e = absurd (none_some eight e)
    tidy false e = refl

abbrev cell_of : ℤ → Option State → Option Value
cell_of n o = option_map (λ (z : State). z.cells 0 (n ∷ [])) o

runs_before : cell_of (pos 4) (run_procedure world (sums_of_body adds) fives)
    ≡ Some (Number (pos 12))
unfolding int_wrap
runs_before = refl

it_runs : cell_of (pos 4) (run_procedure world (sums_of_body with_sums) fives)
    ≡ Some (Number (pos 12))
unfolding int_wrap
it_runs = refl

-- a cell of the window to which nothing is added, and one beside the window
zero_is_added : cell_of (pos 2) (run_procedure world (sums_of_body with_sums) fives)
    ≡ Some (Number (pos 5))
unfolding int_wrap
zero_is_added = refl

others_stay : cell_of (pos 7) (run_procedure world (sums_of_body with_sums) fives)
    ≡ Some (Number (pos 5))
unfolding int_wrap
others_stay = refl
