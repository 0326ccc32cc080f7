-- half(x: i32[8]) is refined by itself with its loop staged on x[0:8], and runs so.
use Rattle.std.proofs.Common.{◌≡◌, ℕ, ◌==◌, ◌||◌, pos, Bool, true, false, true≢false, cond}
use Rattle.std.proofs.Common.{[], ◌∷◌, Option, Some, None, refl, sym, subst, eqb-true}
use Rattle.std.specs.Int.{int_wrap}
use Rattle.exo_tree.specs.Tree.{I32, Lit, TensorParam, Alloc, View, Block, end, Procedure}
use Rattle.exo_tree.specs.Context.{Context, Here, After, fill}
use Rattle.exo_meaning.specs.Value.{Number}
use Rattle.exo_meaning.specs.Scene.{Shape, Seen}
use Rattle.exo_meaning.specs.State.{State}
use Rattle.exo_meaning.specs.Inputs.{IsAdmissible, Refines, run_procedure}
use Rattle.exo_meaning.specs.Run.{World, run, writes, unit_world, kinds_of}
use Rattle.exo_meaning.specs.Units.{scope_of}
use Rattle.meaning_laws.specs.Context.{ComesTo, MayReplace}
use Rattle.meaning_laws.specs.Sorted.{MayRun, IsSorted}
use Rattle.meaning_laws.specs.Sound.{IsUnbound}
use Rattle.meaning_laws.proofs.Copies.{sound_law, unbound_law}
use Rattle.meaning_laws.proofs.Sorted.{fits_at_law}
use Rattle.place_laws.specs.Scope.Roots.{own_roots_at}
use Rattle.buffer_laws.specs.Staging.Alone.{AreRoots}
use Rattle.buffer_laws.specs.Staging.Known.{AreMade, IsKnown, FitsBehind, up_to_store}
use Rattle.buffer_laws.specs.Staging.Readers.{IsLoaded}
use Rattle.buffer_laws.proofs.OfStaging.AtPlaces.{own_roots_law, known_at_place}
use Rattle.buffer_laws.proofs.OfStaging.Readers.{reader_replaces, reader_refines}
use Rattle.buffer_laws.proofs.OfStaging.ReadsOn.{other, reads_on_law}
use Rattle.buffer_laws.specs.Staging.Converted.{converted}
use Rattle.exo_meaning.specs.Scene.{updated}
use Rattle.buffer_laws.specs.Staging.Replaced.{Hides, between}
use Rattle.buffer_laws.proofs.OfStaging.Converted.{fits_law}
use Rattle.buffer_laws.proofs.OfStaging.Known.{known_law, known_reader_law, fits_behind_law}
use Rattle.buffer_laws.proofs.OfStaging.Replaced.{staged_refines}
use Rattle.buffer_laws.proofs.OfStaging.Examples.{binder, eight, all_of, coords, loops, back, halves, on_t}
use Rattle.buffer_laws.proofs.OfStaging.Examples.{reader, first, alone, cells_fit, are_made, cell_of}

abbrev half_of : Block → Procedure
half_of b = record {
  name = 104 ∷ [];
  params = record { binder = binder 10; kind = TensorParam I32 (Lit (pos 8) ∷ []) 0 } ∷ [];
  asserts = [];
  body = b;
  template = None;
}

abbrev half : Procedure
half = half_of (halves 10)

abbrev in_unit : World
in_unit = unit_world (kinds_of []) []

may_run : MayRun [] 1 [] half
may_run = record {
  unit = tt;
  procedure = record {
    params = refl;
    asserts = refl;
    body = refl;
    filled = refl;
    ids = refl;
    distinct = refl;
    paths = refl;
    template = refl;
  };
}

abbrev staged_halves : Block
staged_halves = between (binder 1) I32 (Lit (pos 8) ∷ []) 0 10 coords loops back on_t

module _ (s u : State) (good : IsAdmissible in_unit half s)
    (come : ComesTo in_unit (halves 10) (Here end) s u) where
  unbound : IsUnbound u 1
  unbound = unbound_law in_unit half (halves 10) (Here end) s u good come 1 (refl, refl)

  sorted : IsSorted (kinds_of []) (scope_of [] half.params) u
  sorted = fits_at_law [] 1 [] half (Here end) (halves 10) may_run refl s u good come

  hides : Hides (λ y. y == 1) (halves 10) staged_halves u
  hides = record {
    none = record {
      sound = sound_law in_unit half (halves 10) (Here end) s u good come;
      unbound = λ y e. subst (IsUnbound u) (sym (eqb-true y 1 e)) unbound;
    };
    of_old = λ y e. absurd (true≢false (sym e));
    of_new = λ y e. either (y == 1) e;
  }
    where
      either : (t : Bool) → (t || false) ≡ true → t ≡ true
      either true e = refl
      either false e = e

  known : IsKnown in_unit (λ y. y) (binder 1) I32 10 coords (halves 10) u
  known = known_at_place [] 1 [] half (Here end) (binder 1) I32 1 true 10 coords (halves 10) s u
      may_run refl (refl, refl) refl good come
      (fits_law in_unit 10 coords (halves 10) u
      (tt, λ n w go. (((λ e. tt), tt), tt, λ v e. tt), λ v e. tt))

  fit_behind : FitsBehind in_unit (binder 1) 10 coords (halves 10) u
  fit_behind = fits_behind_law [] 1 [] (scope_of [] half.params) (λ y. y == 1) (λ y. y) (λ y. y)
      (binder 1) I32 (Lit (pos 8) ∷ []) 0 10 coords loops back (halves 10) u tt are_made known
      sorted refl

it_refines : Refines in_unit half (half_of staged_halves) []
it_refines = staged_refines (kinds_of []) [] half (Here end) (λ y. y == 1) (λ y. y == 1) (λ y. y)
    (binder 1) I32 (Lit (pos 8) ∷ []) 0 10 coords loops back (halves 10) refl refl
    (λ s u good come. (
      hides s u good come,
      λ v e. known_law (λ y. y == 1) in_unit (λ y. y) (binder 1) I32 (Lit (pos 8) ∷ []) 0 10
          coords loops back (halves 10) u v are_made (known s u good come)
          (fit_behind s u good come) e,
    ))

-- an input on which both run, to the same cells
first_good : (b : Block) → IsAdmissible in_unit (half_of b) first
first_good b = record {
  arguments = ((refl, refl), tt);
  no_others = λ x e. others (x == 10) e;
  cells = cells_fit;
  tidy = alone.sound.tidy;
  fields = λ f. tt;
  asserts = refl;
}
  where
    others : (t : Bool) → (t || false) ≡ false
        → (pos 0 ≡ pos 0) × (cond {A = Option Shape} t (Some eight) None ≡ None)
        × (cond {A = Option Seen} t (Some (all_of 10)) None ≡ None)
    others true e = absurd (true≢false e)
    others false e = (refl, refl, refl)

it_runs : cell_of 10 (pos 2) (run_procedure in_unit (half_of staged_halves) first)
    ≡ Some (Number (pos 7))
unfolding int_wrap
it_runs = refl

runs_before : cell_of 10 (pos 2) (run_procedure in_unit half first) ≡ Some (Number (pos 7))
unfolding int_wrap
runs_before = refl

odd_cells_stay : cell_of 10 (pos 3) (run_procedure in_unit (half_of staged_halves) first)
    ≡ Some (Number (pos 3))
unfolding int_wrap
odd_cells_stay = refl

-- ---- behind an allocation and a view, each name has the root of its buffer
-- y: i32[8]; w = y[0:8]

abbrev behind_view : Context
behind_view = After (Alloc (binder 5) I32 (Lit (pos 8) ∷ []) 0)
    (After (View (binder 6) 5 coords) (Here end))

abbrev with_view : Procedure
with_view = half_of (fill behind_view (halves 10))

may_run_it : MayRun [] 1 [] with_view
may_run_it = record {
  unit = tt;
  procedure = record {
    params = refl;
    asserts = refl;
    body = refl;
    filled = refl;
    ids = refl;
    distinct = refl;
    paths = refl;
    template = refl;
  };
}

roots_there : (own_roots_at behind_view 10 ≡ 10) × (own_roots_at behind_view 6 ≡ 5)
roots_there = (refl, refl)

own_there : (s u : State) → IsAdmissible in_unit with_view s
    → ComesTo in_unit (halves 10) behind_view s u → AreRoots (own_roots_at behind_view) u
own_there s u good come =
    own_roots_law [] 1 [] with_view behind_view (halves 10) s u may_run_it refl good come

known_there : (s u : State) → IsAdmissible in_unit with_view s
    → ComesTo in_unit (halves 10) behind_view s u
    → IsKnown in_unit (own_roots_at behind_view) (binder 1) I32 10 coords (halves 10) u
known_there s u good come = known_at_place [] 1 [] with_view behind_view (binder 1) I32 1 true 10
    coords (halves 10) s u may_run_it refl (refl, refl) refl good come
    (fits_law in_unit 10 coords (halves 10) u
    (tt, λ n w go. (((λ e. tt), tt), tt, λ v e. tt), λ v e. tt))

-- ---- a block that only reads: y: i32; y = x[3], staged without a store nest

abbrev third : Procedure
third = half_of (reader 10)

may_run_third : MayRun [] 1 [] third
may_run_third = record {
  unit = tt;
  procedure = record {
    params = refl;
    asserts = refl;
    body = refl;
    filled = refl;
    ids = refl;
    distinct = refl;
    paths = refl;
    template = refl;
  };
}

abbrev loaded_reader : Block
loaded_reader = up_to_store (binder 1) I32 (Lit (pos 8) ∷ []) 0 10 coords loops (reader 10)

reader_is_made : AreMade (λ y. y == 1) (λ y. y) (binder 1) (Lit (pos 8) ∷ []) 10 coords loops
    loops (reader 10)
reader_is_made = record {
  new = record { block = refl; spots = refl };
  other = refl;
  plain = refl;
  sizes = λ z. refl;
  loads = are_made.loads;
  stores = are_made.loads;
  blinds = refl;
  names = refl;
  not_made = refl;
  own = refl;
  name = refl;
  root_name = refl;
  variables = λ y e. absurd (true≢false (sym e));
}

-- the block leaves y, and the new one leaves y and t
abbrev either_name : ℕ → Bool
either_name y = (y == 1) || (y == 5)

module _ (s u : State) (good : IsAdmissible in_unit third s)
    (come : ComesTo in_unit (reader 10) (Here end) s u) where
  not_there : (y : ℕ) → (p q : Bool) → (y == 1) ≡ p → (y == 5) ≡ q → (p || q) ≡ true
      → IsUnbound u y
  not_there y true q e f k = subst (IsUnbound u) (sym (eqb-true y 1 e))
      (unbound_law in_unit third (reader 10) (Here end) s u good come 1 (refl, refl))
  not_there y false true e f k = subst (IsUnbound u) (sym (eqb-true y 5 f))
      (unbound_law in_unit third (reader 10) (Here end) s u good come 5 (refl, refl))
  not_there y false false e f k = absurd (true≢false (sym k))

  reader_hides : Hides either_name (reader 10) loaded_reader u
  reader_hides = record {
    none = record {
      sound = sound_law in_unit third (reader 10) (Here end) s u good come;
      unbound = λ y e. not_there y (y == 1) (y == 5) refl refl e;
    };
    of_old = λ y e. old (y == 1) (y == 5) e;
    of_new = λ y e. new (y == 1) (y == 5) e;
  }
    where
      old : (p q : Bool) → (q || false) ≡ true → (p || q) ≡ true
      old true q e = refl
      old false true e = refl
      old false false e = e

      new : (p q : Bool) → (p || (q || false)) ≡ true → (p || q) ≡ true
      new true q e = refl
      new false true e = refl
      new false false e = e

  reader_known : IsKnown in_unit (λ y. y) (binder 1) I32 10 coords (reader 10) u
  reader_known = known_at_place [] 1 [] third (Here end) (binder 1) I32 1 true 10 coords
      (reader 10) s u may_run_third refl (refl, refl) refl good come
      (fits_law in_unit 10 coords (reader 10) u
      (tt, tt, λ v e. ((λ k. absurd (true≢false (sym k)), λ k. tt), tt, λ w k. tt)))

it_is_loaded : (u : State) → run in_unit loaded_reader first ≡ Some u
    → IsLoaded (λ y. y == 1) in_unit (λ y. y) (binder 1) I32 (Lit (pos 8) ∷ []) 10 coords loops
    (reader 10) first
it_is_loaded u e = known_reader_law (λ y. y == 1) in_unit (λ y. y) (binder 1) I32
    (Lit (pos 8) ∷ []) 0 10 coords loops (reader 10) first u reader_is_made
    (reader_known first first (first_good (reader 10)) refl) e

it_may_be_loaded : MayReplace in_unit either_name (reader 10) loaded_reader first
it_may_be_loaded = reader_replaces either_name (λ y. y == 1) in_unit (λ y. y) (binder 1) I32
    (Lit (pos 8) ∷ []) 0 10 coords loops (reader 10) first refl
    (reader_hides first first (first_good (reader 10)) refl) it_is_loaded

third_is_staged : Refines in_unit third (half_of loaded_reader) []
third_is_staged = reader_refines (kinds_of []) [] third (Here end) either_name (λ y. y == 1)
    (λ y. y) (binder 1) I32 (Lit (pos 8) ∷ []) 0 10 coords loops (reader 10) refl refl refl
    reader_is_made (λ s u good come. (reader_hides s u good come, reader_known s u good come))

-- and runs
third_runs : cell_of 10 (pos 3) (run_procedure in_unit (half_of loaded_reader) first)
    ≡ Some (Number (pos 3))
unfolding int_wrap
third_runs = refl

-- the test is on the block itself
reads_on : writes in_unit (updated (λ y. y) 1 1) (converted 1 10 coords (reader 10)) 1 ≡ false
reads_on = reads_on_law in_unit (λ y. y) 1 10 coords (reader 10) refl refl (λ y k. other y 1 k) refl
