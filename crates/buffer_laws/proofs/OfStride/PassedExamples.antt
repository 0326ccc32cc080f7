-- Of p(x: i32[8], z: i32[8]), a call that is given x[3:5] is staged on x[2:6], with a buffer t that
-- is passed in its place: to a procedure that sets, one that adds and one that copies.
use Rattle.std.proofs.Common.{◌≡◌, ◌==◌, ◌||◌, ℕ, pos, Bool, true, false, true≢false, List}
use Rattle.std.proofs.Common.{[], ◌∷◌, Option, None, refl, sym, subst, eqb-true}
use Rattle.exo_tree.specs.Tree.{Binder, I32, Control, Lit, Coord, Span, TensorParam}
use Rattle.exo_tree.specs.Tree.{WindowParam, Param, Const, Read, Window, Assign, Reduce, Call, Block}
use Rattle.exo_tree.specs.Tree.{end, next, Procedure}
use Rattle.exo_tree.specs.Context.{Here}
use Rattle.exo_meaning.specs.Scene.{Scene, numbers}
use Rattle.exo_meaning.specs.State.{State}
use Rattle.exo_meaning.specs.Calls.{Callee}
use Rattle.exo_meaning.specs.Inputs.{IsAdmissible, Refines}
use Rattle.exo_meaning.specs.Run.{World, unit_world, kinds_of}
use Rattle.exo_meaning.specs.Units.{scope_of, AreProcedures, IsProcedure, field_kind}
use Rattle.meaning_laws.specs.Context.{ComesTo, MayReplace}
use Rattle.meaning_laws.specs.Sorted.{MayRun, IsSorted}
use Rattle.meaning_laws.specs.Sound.{IsUnbound}
use Rattle.meaning_laws.proofs.Copies.{sound_law, unbound_law}
use Rattle.meaning_laws.proofs.Sorted.{fits_at_law}
use Rattle.inplace_laws.specs.Filled.{Loop}
use Rattle.buffer_laws.specs.Staging.Stores.{AreDistinct, spans}
use Rattle.buffer_laws.specs.Staging.Inside.{extents_of}
use Rattle.buffer_laws.specs.Staging.Known.{AreOver, IsKnown, FitsBehind}
use Rattle.buffer_laws.specs.Staging.Replaced.{Hides}
use Rattle.buffer_laws.proofs.OfStaging.AtPlaces.{known_at_place}
use Rattle.buffer_laws.proofs.OfStaging.Converted.{fits_law}
use Rattle.buffer_laws.specs.StageMem.{Staging, sizes, loads, stores, asked_of_statement}
use Rattle.buffer_laws.specs.StageLaws.{staging_of, as_made, with_simpler, reader_as_made}
use Rattle.buffer_laws.specs.StageLaws.{reader_with_simpler}
use Rattle.buffer_laws.specs.StageAccum.{OnlyAdds, sums_as_made, sums_with_simpler}
use Rattle.buffer_laws.proofs.OnlyAdds.{only_adds_at_place}
use Rattle.buffer_laws.proofs.StageExamples.{same, is_same}
use Rattle.buffer_laws.proofs.StageMem.{named}
use Rattle.buffer_laws.specs.Stride.OnView.{AllHold, LiesWithin}
use Rattle.buffer_laws.specs.Stride.Passed.{ArePassed}
use Rattle.buffer_laws.specs.Stride.Strides.{stride_seen}
use Rattle.buffer_laws.proofs.OfStride.Along.{each_within}
use Rattle.place_laws.proofs.OfScope.Within.{holes_compose}
use Rattle.buffer_laws.proofs.OfStride.Passed.{fits_behind_passed, passed_replaces, passed_reader_replaces}
use Rattle.buffer_laws.proofs.OfStride.PassedSums.{passed_sums_replace}
use Rattle.buffer_laws.proofs.OfStride.StagePassed.{lies_at_places}
use Rattle.buffer_laws.proofs.OfStride.Units.{blind_calls_law}
use Rattle.buffer_laws.proofs.OfStride.StagePassed.{stage_passed_law, stage_passed_reader_law}
use Rattle.buffer_laws.proofs.OfStride.StagePassed.{stage_passed_sums_law}

-- ---- the unit

abbrev two_of : ℕ → Param
two_of n = record { binder = named n (121 ∷ n ∷ []); kind = WindowParam I32 (Lit (pos 2) ∷ []) 0 }

abbrev first_of : List Control
first_of = Lit (pos 0) ∷ []

abbrev pub callee : ℕ → List Param → Block → Procedure
callee n params b = record {
  name = n ∷ [];
  params = params;
  asserts = [];
  body = b;
  template = None;
}

-- y[0] = 7; y[0] += 7; and y0[0] = y1[0]
abbrev sets : Procedure
sets = callee 97 (two_of 0 ∷ []) (next (Assign 0 first_of (Const (pos 7))) end)

abbrev adds : Procedure
adds = callee 98 (two_of 0 ∷ []) (next (Reduce 0 first_of (Const (pos 7))) end)

abbrev copies : Procedure
copies = callee 99 (two_of 0 ∷ two_of 1 ∷ []) (next (Assign 0 first_of (Read 1 first_of)) end)

abbrev pub unit : List Procedure
unit = sets ∷ adds ∷ copies ∷ []

abbrev pub world : World
world = unit_world (kinds_of []) unit

abbrev above : List Procedure → ℕ → Option Callee
above ps = (unit_world (kinds_of []) ps).callees

sets_is_well : IsProcedure (field_kind []) 1 (above []) sets
sets_is_well = record {
  params = refl;
  asserts = refl;
  body = refl;
  filled = refl;
  ids = refl;
  distinct = refl;
  paths = refl;
  template = refl;
}

adds_is_well : IsProcedure (field_kind []) 1 (above (sets ∷ [])) adds
adds_is_well = record {
  params = refl;
  asserts = refl;
  body = refl;
  filled = refl;
  ids = refl;
  distinct = refl;
  paths = refl;
  template = refl;
}

copies_is_well : IsProcedure (field_kind []) 1 (above (sets ∷ adds ∷ [])) copies
copies_is_well = record {
  params = refl;
  asserts = refl;
  body = refl;
  filled = refl;
  ids = refl;
  distinct = refl;
  paths = refl;
  template = refl;
}

unit_is_well : AreProcedures [] 1 [] unit
unit_is_well = (sets_is_well, (adds_is_well, (copies_is_well, tt)))

abbrev eight_of : ℕ → Param
eight_of n = record { binder = named n (120 ∷ n ∷ []); kind = TensorParam I32 (Lit (pos 8) ∷ []) 0 }

-- x is number 0, z number 1
abbrev pub p_of : Block → Procedure
p_of b = callee 112 (eight_of 0 ∷ eight_of 1 ∷ []) b

abbrev pub setting : Block
setting = next (Call 0 (Window 0 (Span (Lit (pos 3)) (Lit (pos 5)) ∷ []) ∷ [])) end

abbrev pub adding : Block
adding = next (Call 1 (Window 0 (Span (Lit (pos 3)) (Lit (pos 5)) ∷ []) ∷ [])) end

-- z[0:2] is given before x[3:5]
abbrev pub copying : Block
copying = next (Call 2 (Window 1 (Span (Lit (pos 0)) (Lit (pos 2)) ∷ [])
    ∷ Window 0 (Span (Lit (pos 3)) (Lit (pos 5)) ∷ []) ∷ [])) end

setting_may_run : MayRun [] 1 unit (p_of setting)
setting_may_run = record {
  unit = unit_is_well;
  procedure = record {
    params = refl;
    asserts = refl;
    body = refl;
    filled = refl;
    ids = refl;
    distinct = refl;
    paths = refl;
    template = refl;
  };
}

adding_may_run : MayRun [] 1 unit (p_of adding)
adding_may_run = record {
  unit = unit_is_well;
  procedure = record {
    params = refl;
    asserts = refl;
    body = refl;
    filled = refl;
    ids = refl;
    distinct = refl;
    paths = refl;
    template = refl;
  };
}

copying_may_run : MayRun [] 1 unit (p_of copying)
copying_may_run = record {
  unit = unit_is_well;
  procedure = record {
    params = refl;
    asserts = refl;
    body = refl;
    filled = refl;
    ids = refl;
    distinct = refl;
    paths = refl;
    template = refl;
  };
}

-- ---- the step

-- x[2:6]
abbrev pub middle : List Coord
middle = Span (Lit (pos 2)) (Lit (pos 6)) ∷ []

abbrev pub x_sides : List Control
x_sides = Lit (pos 8) ∷ []

abbrev t : Binder
t = named 2 (116 ∷ [])

abbrev staging : Staging
staging = staging_of 0 middle (116 ∷ [])

abbrev pub staged_of : Block → Block
staged_of b = with_simpler same I32 0 2 0 middle (116 ∷ []) b

abbrev pub read_of : Block → Block
read_of b = reader_with_simpler same I32 0 2 0 middle (116 ∷ []) b

abbrev pub summed_of : Block → Block
summed_of b = sums_with_simpler same I32 0 2 0 middle (116 ∷ []) b

over_all : (ls : List Loop) → AreDistinct ls
    → ((z : Scene) → numbers z (extents_of ls) ≡ numbers z (spans middle)) → AreOver ls middle
over_all ls new equal = record {
  distinct = new;
  apart = λ y e. absurd (true≢false (sym e));
  equal = equal;
}

abbrev Passes : Block → List Loop → Type 0
Passes b ks = ArePassed world.callees (stride_seen (kinds_of []) unit) (λ y. y) t
    (sizes same staging I32 0 2) 0 middle (loads same staging I32 0 2) ks b

setting_passes : Passes setting (stores same staging I32 0 2)
setting_passes = record {
  new = record { block = refl; spots = refl };
  other = refl;
  plain = refl;
  sizes = λ z. refl;
  loads = over_all (loads same staging I32 0 2) (refl, tt) (λ z. refl);
  stores = over_all (stores same staging I32 0 2) (refl, tt) (λ z. refl);
  names = refl;
  strides = refl;
  own = refl;
  name = refl;
  root_name = refl;
  variables = λ y e. absurd (true≢false (sym e));
}

adding_passes : Passes adding (stores same staging I32 0 2)
adding_passes = record {
  new = record { block = refl; spots = refl };
  other = refl;
  plain = refl;
  sizes = λ z. refl;
  loads = setting_passes.loads;
  stores = setting_passes.stores;
  names = refl;
  strides = refl;
  own = refl;
  name = refl;
  root_name = refl;
  variables = λ y e. absurd (true≢false (sym e));
}

copying_passes : Passes copying (loads same staging I32 0 2)
copying_passes = record {
  new = record { block = refl; spots = refl };
  other = refl;
  plain = refl;
  sizes = λ z. refl;
  loads = setting_passes.loads;
  stores = setting_passes.loads;
  names = refl;
  strides = refl;
  own = refl;
  name = refl;
  root_name = refl;
  variables = λ y e. absurd (true≢false (sym e));
}

either : (r : Bool) → (r || false) ≡ true → r ≡ true
either true e = refl
either false e = e

abbrev is_t : ℕ → Bool
is_t y = y == 2

module _ (s u : State) (good : IsAdmissible world (p_of setting) s)
    (come : ComesTo world setting (Here end) s u) where
  setting_sorted : IsSorted (kinds_of []) (scope_of [] (p_of setting).params) u
  setting_sorted = fits_at_law [] 1 unit (p_of setting) (Here end) setting setting_may_run refl s u
      good come

  setting_hides : Hides is_t setting (as_made same I32 0 2 0 middle (116 ∷ []) setting) u
  setting_hides = record {
    none = record {
      sound = sound_law world (p_of setting) setting (Here end) s u good come;
      unbound = λ y e. subst (IsUnbound u) (sym (eqb-true y 2 e))
          (unbound_law world (p_of setting) setting (Here end) s u good come 2 (refl, refl));
    };
    of_old = λ y e. absurd (true≢false (sym e));
    of_new = λ y e. either (y == 2) e;
  }

  setting_known : IsKnown world (λ y. y) t I32 0 middle setting u
  setting_known = known_at_place [] 1 unit (p_of setting) (Here end) t I32 1 true 0 middle setting s
      u setting_may_run refl (refl, refl) refl good come
      (fits_law world 0 middle setting u (((λ e. tt), tt), tt, λ v e. tt))

  setting_lies : LiesWithin world 0 x_sides middle setting u
  setting_lies c d v is there = each_within world
      (λ d z. AllHold z (asked_of_statement 0 x_sides middle d)) setting u
      ((refl, (refl, tt)), tt, λ w e. tt) c d v is there

  setting_fits : FitsBehind world t 0 middle setting u
  setting_fits = fits_behind_passed [] 1 unit (scope_of [] (p_of setting).params)
      (stride_seen (kinds_of []) unit) (λ y. y) (λ y. y) t I32 (sizes same staging I32 0 2) 0 0
      middle (loads same staging I32 0 2) (stores same staging I32 0 2) setting u unit_is_well
      setting_passes setting_known setting_sorted refl

  setting_may_stand : MayReplace world is_t setting
      (as_made same I32 0 2 0 middle (116 ∷ []) setting) u
  setting_may_stand = passed_replaces is_t world (stride_seen (kinds_of []) unit) (λ y. y) t I32
      (sizes same staging I32 0 2) x_sides 0 0 middle (loads same staging I32 0 2)
      (stores same staging I32 0 2) setting u (blind_calls_law (kinds_of []) unit) setting_passes
      setting_hides setting_known setting_lies setting_fits

  -- what is asked holds at each place, and so in a run of the call
  lie_at_places : LiesWithin world 0 x_sides middle setting u
  lie_at_places = lies_at_places world (p_of setting) (Here end) setting 0 x_sides middle s u good
      come (λ d a v is there.
      let w = ((holes_compose (next a end) (Here end) d).comes world s v).1 there in
      each_within world (λ d z. AllHold z (asked_of_statement 0 x_sides middle d)) setting w.middle
      ((refl, (refl, tt)), tt, λ z e. tt) d a v is w.second)

setting_is_staged : Refines world (p_of setting) (p_of (staged_of setting)) []
setting_is_staged = stage_passed_law (kinds_of []) unit (p_of setting) (Here end) is_t (λ y. y) same
    I32 x_sides 0 2 0 middle (116 ∷ []) setting is_same refl refl setting_passes
    (λ s u good come. (
      setting_hides s u good come,
      setting_known s u good come,
      setting_lies s u good come,
      setting_fits s u good come,
    ))

module _ (s u : State) (good : IsAdmissible world (p_of adding) s)
    (come : ComesTo world adding (Here end) s u) where
  adding_hides : Hides is_t adding (sums_as_made same I32 0 2 0 middle (116 ∷ []) adding) u
  adding_hides = record {
    none = record {
      sound = sound_law world (p_of adding) adding (Here end) s u good come;
      unbound = λ y e. subst (IsUnbound u) (sym (eqb-true y 2 e))
          (unbound_law world (p_of adding) adding (Here end) s u good come 2 (refl, refl));
    };
    of_old = λ y e. absurd (true≢false (sym e));
    of_new = λ y e. either (y == 2) e;
  }

  adding_known : IsKnown world (λ y. y) t I32 0 middle adding u
  adding_known = known_at_place [] 1 unit (p_of adding) (Here end) t I32 1 true 0 middle adding s
      u adding_may_run refl (refl, refl) refl good come
      (fits_law world 0 middle adding u (((λ e. tt), tt), tt, λ v e. tt))

  adding_lies : LiesWithin world 0 x_sides middle adding u
  adding_lies c d v is there = each_within world
      (λ d z. AllHold z (asked_of_statement 0 x_sides middle d)) adding u
      ((refl, (refl, tt)), tt, λ w e. tt) c d v is there

  only_adds : OnlyAdds [] 1 unit (scope_of [] (p_of adding).params) (λ y. y) 0 adding u
  only_adds = only_adds_at_place [] 1 unit (p_of adding) (Here end) 0 adding s u adding_may_run refl
      refl good come

  adding_may_stand : MayReplace world is_t adding
      (sums_as_made same I32 0 2 0 middle (116 ∷ []) adding) u
  adding_may_stand = passed_sums_replace [] 1 unit (scope_of [] (p_of adding).params) is_t
      (stride_seen (kinds_of []) unit) (λ y. y) t I32 (sizes same staging I32 0 2) x_sides 0 0
      middle (loads same staging I32 0 2) (stores same staging I32 0 2) adding u
      (blind_calls_law (kinds_of []) unit) adding_passes adding_hides adding_known adding_lies
      only_adds

adding_is_staged : Refines world (p_of adding) (p_of (summed_of adding)) []
adding_is_staged = stage_passed_sums_law [] 1 unit (p_of adding) (Here end)
    (scope_of [] (p_of adding).params) is_t (λ y. y) same I32 x_sides 0 2 0 middle (116 ∷ [])
    adding is_same refl refl adding_passes
    (λ s u good come. (
      adding_hides s u good come,
      adding_known s u good come,
      adding_lies s u good come,
      only_adds s u good come,
    ))

module _ (s u : State) (good : IsAdmissible world (p_of copying) s)
    (come : ComesTo world copying (Here end) s u) where
  copying_hides : Hides is_t copying (reader_as_made same I32 0 2 0 middle (116 ∷ []) copying) u
  copying_hides = record {
    none = record {
      sound = sound_law world (p_of copying) copying (Here end) s u good come;
      unbound = λ y e. subst (IsUnbound u) (sym (eqb-true y 2 e))
          (unbound_law world (p_of copying) copying (Here end) s u good come 2 (refl, refl));
    };
    of_old = λ y e. absurd (true≢false (sym e));
    of_new = λ y e. either (y == 2) e;
  }

  copying_known : IsKnown world (λ y. y) t I32 0 middle copying u
  copying_known = known_at_place [] 1 unit (p_of copying) (Here end) t I32 1 true 0 middle copying s
      u copying_may_run refl (refl, refl) refl good come
      (fits_law world 0 middle copying u (((λ e. tt), ((λ e. tt), tt)), tt, λ v e. tt))

  copying_lies : LiesWithin world 0 x_sides middle copying u
  copying_lies c d v is there = each_within world
      (λ d z. AllHold z (asked_of_statement 0 x_sides middle d)) copying u
      ((refl, (refl, tt)), tt, λ w e. tt) c d v is there

  copying_may_stand : MayReplace world is_t copying
      (reader_as_made same I32 0 2 0 middle (116 ∷ []) copying) u
  copying_may_stand = passed_reader_replaces is_t world (stride_seen (kinds_of []) unit) (λ y. y) t
      I32 (sizes same staging I32 0 2) x_sides 0 0 middle (loads same staging I32 0 2) copying u
      (blind_calls_law (kinds_of []) unit) copying_passes refl copying_hides copying_known
      copying_lies

copying_is_staged : Refines world (p_of copying) (p_of (read_of copying)) []
copying_is_staged = stage_passed_reader_law (kinds_of []) unit (p_of copying) (Here end) is_t
    (λ y. y) same I32 x_sides 0 2 0 middle (116 ∷ []) copying is_same refl refl refl
    copying_passes (λ s u good come. (
      copying_hides s u good come,
      copying_known s u good come,
      copying_lies s u good come,
    ))
