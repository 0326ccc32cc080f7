-- half(x: i32[8]) is refined by itself with its loop staged on x[0:8].
use Rattle.std.proofs.Common.{ℕ, ◌≡◌, ◌==◌, ◌||◌, pos, Bool, true, false, true≢false, List, []}
use Rattle.std.proofs.Common.{◌∷◌, None, refl, sym, subst, eqb-true}
use Rattle.exo_tree.specs.Tree.{Binder, I32, Control, Lit, Coord, Span, TensorParam, Block, Alloc, Assign, Read}
use Rattle.exo_tree.specs.Tree.{end, next, Procedure}
use Rattle.exo_tree.specs.Context.{Here}
use Rattle.exo_meaning.specs.Inputs.{IsAdmissible, Refines}
use Rattle.exo_meaning.specs.State.{State}
use Rattle.exo_meaning.specs.Run.{World, run, unit_world, kinds_of}
use Rattle.meaning_laws.specs.Context.{ComesTo}
use Rattle.meaning_laws.specs.Sorted.{MayRun, IsSorted}
use Rattle.meaning_laws.specs.Sound.{IsUnbound}
use Rattle.meaning_laws.proofs.Copies.{sound_law, unbound_law}
use Rattle.meaning_laws.proofs.Sorted.{fits_at_law}
use Rattle.exo_meaning.specs.Units.{scope_of}
use Rattle.place_laws.proofs.OfScope.Within.{holes_compose}
use Rattle.place_laws.proofs.OfScope.Roots.{names_have_roots}
use Rattle.buffer_laws.specs.Staging.Known.{AreOver, AreMade, IsKnown, FitsBehind}
use Rattle.buffer_laws.specs.Staging.Replaced.{Hides}
use Rattle.buffer_laws.specs.Staging.Converted.{FitsWithin}
use Rattle.buffer_laws.proofs.OfStaging.Converted.{fits_law}
use Rattle.buffer_laws.proofs.OfStaging.Known.{fits_behind_law}
use Rattle.inplace_laws.specs.Filled.{Loop}
use Rattle.buffer_laws.specs.Staging.Stores.{AreDistinct, spans}
use Rattle.buffer_laws.specs.Staging.Inside.{extents_of}
use Rattle.exo_meaning.specs.Scene.{Scene, numbers}
use Rattle.buffer_laws.specs.Simplified.{IsSimplifier}
use Rattle.buffer_laws.specs.StageMem.{Staging, sizes, loads, stores}
use Rattle.buffer_laws.specs.StageLaws.{staging_of, as_made, with_simpler}
use Rattle.buffer_laws.specs.StageLaws.{reader_as_made, reader_with_simpler}
use Rattle.buffer_laws.proofs.StageMem.{named, sevens}
use Rattle.buffer_laws.proofs.StageLaws.{draft_law, stage_mem_law, fits_at_places}
use Rattle.buffer_laws.proofs.StageLaws.{reader_draft_law, stage_reader_law}
use Rattle.buffer_laws.proofs.OfStaging.AtPlaces.{known_at_place}

abbrev half_of : Block → Procedure
half_of b = record {
  name = 104 ∷ [];
  params = record {
    binder = named 0 (120 ∷ []);
    kind = TensorParam I32 (Lit (pos 8) ∷ []) 0;
  } ∷ [];
  asserts = [];
  body = b;
  template = None;
}

abbrev half : Procedure
half = half_of sevens

may_run : MayRun [] 1 [] half
may_run = record {
  unit = tt;
  procedure = record {
    params = refl;
    asserts = refl;
    body = refl;
    filled = refl;
    ids = refl;
    distinct = refl;
    paths = refl;
    template = refl;
  };
}

abbrev world : World
world = unit_world (kinds_of []) []

abbrev pub same : Control → Control
same e = e

pub is_same : IsSimplifier same
is_same e scene plain = refl

-- x[0:8]
abbrev all_of_x : List Coord
all_of_x = Span (Lit (pos 0)) (Lit (pos 8)) ∷ []

abbrev t : Binder
t = named 2 (116 ∷ [])

abbrev window : Staging
window = staging_of 0 all_of_x (116 ∷ [])

abbrev made_of : Block
made_of = as_made same I32 0 2 0 all_of_x (116 ∷ []) sevens

abbrev staged_of : Block
staged_of = with_simpler same I32 0 2 0 all_of_x (116 ∷ []) sevens

runs_alike : (s : State) → run world made_of s ≡ run world staged_of s
runs_alike s = draft_law world same I32 0 2 0 all_of_x (116 ∷ []) sevens s is_same

over_all : (ls : List Loop) → AreDistinct ls
    → ((z : Scene) → numbers z (extents_of ls) ≡ numbers z (spans all_of_x))
    → AreOver ls all_of_x
over_all ls new equal = record {
  distinct = new;
  apart = λ y e. absurd (true≢false (sym e));
  equal = equal;
}

are_made : AreMade (λ y. y == 2) (λ y. y) t (sizes same window I32 0 2) 0 all_of_x
    (loads same window I32 0 2) (stores same window I32 0 2) sevens
are_made = record {
  new = record { block = refl; spots = refl };
  other = refl;
  plain = refl;
  sizes = λ z. refl;
  loads = over_all (loads same window I32 0 2) (refl, tt) (λ z. refl);
  stores = over_all (stores same window I32 0 2) (refl, tt) (λ z. refl);
  blinds = refl;
  names = refl;
  not_made = refl;
  own = refl;
  name = refl;
  root_name = refl;
  variables = λ y e. absurd (true≢false (sym e));
}

module _ (s u : State) (good : IsAdmissible world half s)
    (come : ComesTo world sevens (Here end) s u) where
  unbound : IsUnbound u 2
  unbound = unbound_law world half sevens (Here end) s u good come 2 (refl, refl)

  sorted : IsSorted (kinds_of []) (scope_of [] half.params) u
  sorted = fits_at_law [] 1 [] half (Here end) sevens may_run refl s u good come

  hides : Hides (λ y. y == 2) sevens made_of u
  hides = record {
    none = record {
      sound = sound_law world half sevens (Here end) s u good come;
      unbound = λ y e. subst (IsUnbound u) (sym (eqb-true y 2 e)) unbound;
    };
    of_old = λ y e. absurd (true≢false (sym e));
    of_new = λ y e. either (y == 2) e;
  }
    where
      either : (r : Bool) → (r || false) ≡ true → r ≡ true
      either true e = refl
      either false e = e

  known : IsKnown world (λ y. y) t I32 0 all_of_x sevens u
  known = record {
    sound = sound_law world half sevens (Here end) s u good come;
    cells = sorted.cells;
    unbound = unbound;
    roots = names_have_roots [] 1 [] half (Here end) sevens s u may_run good come;
    own_roots = λ b i. refl;
    cell_is = λ z to v k. sym (sorted.views 0 I32 1 true z refl v to k).cell_is;
    fit = fits_law world 0 all_of_x sevens u
        (tt, λ n w go. (((λ e. tt), tt), tt, λ v e. tt), λ v e. tt);
  }

  fit_behind : FitsBehind world t 0 all_of_x sevens u
  fit_behind = fits_behind_law [] 1 [] (scope_of [] half.params) (λ y. y == 2) (λ y. y) (λ y. y) t
      I32 (sizes same window I32 0 2) 0 0 all_of_x (loads same window I32 0 2)
      (stores same window I32 0 2) sevens u tt are_made known sorted refl

half_is_staged : Refines world half (half_of staged_of) []
half_is_staged = stage_mem_law (kinds_of []) [] half (Here end) (λ y. y == 2) (λ y. y == 2)
    (λ y. y) same I32 0 2 0 all_of_x (116 ∷ []) sevens is_same refl refl are_made
    (λ s u good come. (hides s u good come, known s u good come, fit_behind s u good come))

-- its accesses keep at each place what they have to
they_fit_at_places : (s u : State) → IsAdmissible world half s
    → ComesTo world sevens (Here end) s u → FitsWithin world 0 all_of_x sevens u
they_fit_at_places s u good come =
    fits_at_places world half (Here end) sevens 0 all_of_x s u good come (λ d a v is there.
    let w = ((holes_compose (next a end) (Here end) d).comes world s v).1 there in
    (known s w.middle good w.first).fit d a v is w.second)

-- ---- a block that only reads: y: i32; y = x[3]

abbrev third : Block
third = next (Alloc (named 1 (121 ∷ [])) I32 [] 0)
    (next (Assign 1 [] (Read 0 (Lit (pos 3) ∷ []))) end)

may_run_third : MayRun [] 1 [] (half_of third)
may_run_third = record {
  unit = tt;
  procedure = record {
    params = refl;
    asserts = refl;
    body = refl;
    filled = refl;
    ids = refl;
    distinct = refl;
    paths = refl;
    template = refl;
  };
}

abbrev third_made : Block
third_made = reader_as_made same I32 0 2 0 all_of_x (116 ∷ []) third

abbrev third_staged : Block
third_staged = reader_with_simpler same I32 0 2 0 all_of_x (116 ∷ []) third

third_runs_alike : (s : State) → run world third_made s ≡ run world third_staged s
third_runs_alike s = reader_draft_law world same I32 0 2 0 all_of_x (116 ∷ []) third s is_same

third_is_made : AreMade (λ y. y == 2) (λ y. y) t (sizes same window I32 0 2) 0 all_of_x
    (loads same window I32 0 2) (loads same window I32 0 2) third
third_is_made = record {
  new = record { block = refl; spots = refl };
  other = refl;
  plain = refl;
  sizes = λ z. refl;
  loads = are_made.loads;
  stores = are_made.loads;
  blinds = refl;
  names = refl;
  not_made = refl;
  own = refl;
  name = refl;
  root_name = refl;
  variables = λ y e. absurd (true≢false (sym e));
}

-- the block leaves y, and the new one leaves y and t
abbrev left_names : ℕ → Bool
left_names y = (y == 2) || (y == 1)

module _ (s u : State) (good : IsAdmissible world (half_of third) s)
    (come : ComesTo world third (Here end) s u) where
  not_there : (y : ℕ) → (p q : Bool) → (y == 2) ≡ p → (y == 1) ≡ q → (p || q) ≡ true
      → IsUnbound u y
  not_there y true q e f k = subst (IsUnbound u) (sym (eqb-true y 2 e))
      (unbound_law world (half_of third) third (Here end) s u good come 2 (refl, refl))
  not_there y false true e f k = subst (IsUnbound u) (sym (eqb-true y 1 f))
      (unbound_law world (half_of third) third (Here end) s u good come 1 (refl, refl))
  not_there y false false e f k = absurd (true≢false (sym k))

  third_hides : Hides left_names third third_made u
  third_hides = record {
    none = record {
      sound = sound_law world (half_of third) third (Here end) s u good come;
      unbound = λ y e. not_there y (y == 2) (y == 1) refl refl e;
    };
    of_old = λ y e. old (y == 2) (y == 1) e;
    of_new = λ y e. new (y == 2) (y == 1) e;
  }
    where
      old : (p q : Bool) → (q || false) ≡ true → (p || q) ≡ true
      old true q e = refl
      old false true e = refl
      old false false e = e

      new : (p q : Bool) → (p || (q || false)) ≡ true → (p || q) ≡ true
      new true q e = refl
      new false true e = refl
      new false false e = e

  third_known : IsKnown world (λ y. y) t I32 0 all_of_x third u
  third_known = known_at_place [] 1 [] (half_of third) (Here end) t I32 1 true 0 all_of_x third s u
      may_run_third refl (refl, refl) refl good come
      (fits_law world 0 all_of_x third u
      (tt, tt, λ v e. ((λ k. absurd (true≢false (sym k)), λ k. tt), tt, λ w k. tt)))

third_is_staged : Refines world (half_of third) (half_of third_staged) []
third_is_staged = stage_reader_law (kinds_of []) [] (half_of third) (Here end) left_names
    (λ y. y == 2) (λ y. y) same I32 0 2 0 all_of_x (116 ∷ []) third is_same refl refl refl
    third_is_made (λ s u good come. (third_hides s u good come, third_known s u good come))
