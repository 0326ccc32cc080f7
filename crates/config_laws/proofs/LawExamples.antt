-- The laws on closed units.
use Rattle.std.proofs.Common.{◌≡◌, ◌<◌, ℕ, zero, suc, pos, true, false, List, [], ◌∷◌}
use Rattle.std.proofs.Common.{Some, refl, subst, arith}
use Rattle.std.specs.Prelude.{Contains, IsSome, slice_get, slice_index_or}
use Rattle.exo_tree.specs.Tree.{Lit, Config, ControlArg, end, next, Procedure}
use Rattle.exo_tree.specs.Tree.{Program}
use Rattle.exo_meaning.specs.State.{State}
use Rattle.exo_meaning.specs.Run.{World, unit_world, kinds_of, program_world, callees}
use Rattle.exo_meaning.specs.Inputs.{IsAdmissible, Refines, run_procedure}
use Rattle.exo_meaning.specs.Units.{AreProcedures, IsProcedure, field_kind}
use Rattle.meaning_laws.specs.Live.{live}
use Rattle.meaning_laws.specs.Sorted.{MayRun}
use Rattle.meaning_laws.specs.UnitFields.{unit_live}
use Rattle.meaning_laws.proofs.Parts.{none_some, some_injective}
use Rattle.config_laws.specs.Surely.{unit_surely}
use Rattle.config_laws.specs.FieldRule.{Before, Behind}
use Rattle.config_laws.specs.Differing.{Origin, parent_in, step_fields, IsStep, AreVersions}
use Rattle.config_laws.specs.Differing.{VersionsStand}
use Rattle.config_laws.proofs.Exits.{blocks_go_by_exit, units_go_by_exit}
use Rattle.config_laws.proofs.Derived.{descendants_refine}
use Rattle.config_laws.proofs.Rules.{write_config_refines, delete_config_refines}
use Rattle.config_laws.proofs.Rules.{bind_config_refines, call_eqv_refines}
use Rattle.config_laws.proofs.RuleExamples.{one_field, unit_of, at, of_text, stepping_unit}
use Rattle.config_laws.proofs.RuleExamples.{stepping}
use Rattle.config_laws.proofs.RuleExamples.{stepping_then_sets, write_behind_is_accepted, fills}
use Rattle.config_laws.proofs.RuleExamples.{filling, filling_bound, it_is_bound, setting, storing}
use Rattle.config_laws.proofs.RuleExamples.{set_twice, it_is_left_out, it_is_put_in, loud, quiet}
use Rattle.config_laws.proofs.RuleExamples.{calls_it}

-- ---- writes

are_stepping : AreProcedures one_field 1 [] stepping_unit
are_stepping = (
  record {
    params = refl;
    asserts = refl;
    body = refl;
    filled = refl;
    ids = refl;
    distinct = refl;
    paths = refl;
    template = refl;
  },
  (
    record {
      params = refl;
      asserts = refl;
      body = refl;
      filled = refl;
      ids = refl;
      distinct = refl;
      paths = refl;
      template = refl;
    },
    tt,
  ),
)

abbrev IsOf : List Procedure → Procedure → Type 0
IsOf ps p = IsProcedure (field_kind one_field) 1
    (slice_get (callees (kinds_of one_field) [] ps)) p

may_step : (p : Procedure) → IsOf stepping_unit p → MayRun one_field 1 stepping_unit p
may_step p is = record { unit = are_stepping; procedure = is }

-- behind the call the field differs
writes_behind : Refines (unit_world (kinds_of one_field) stepping_unit) stepping stepping_then_sets
    (0 ∷ [])
writes_behind =
    write_config_refines one_field 1 stepping_unit Behind 0 (ControlArg (Lit (pos 4))) stepping
    (at 1) _ write_behind_is_accepted
    (may_step stepping (record {
      params = refl;
      asserts = refl;
      body = refl;
      filled = refl;
      ids = refl;
      distinct = refl;
      paths = refl;
      template = refl;
    }))
    (may_step stepping_then_sets (record {
      params = refl;
      asserts = refl;
      body = refl;
      filled = refl;
      ids = refl;
      distinct = refl;
      paths = refl;
      template = refl;
    }))

are_fills : AreProcedures one_field 1 [] fills
are_fills = (
  record {
    params = refl;
    asserts = refl;
    body = refl;
    filled = refl;
    ids = refl;
    distinct = refl;
    paths = refl;
    template = refl;
  },
  tt,
)

may_fill : (p : Procedure) → IsOf fills p → MayRun one_field 1 fills p
may_fill p is = record { unit = are_fills; procedure = is }

may_set : MayRun one_field 1 fills setting
may_set = may_fill setting (record {
  params = refl;
  asserts = refl;
  body = refl;
  filled = refl;
  ids = refl;
  distinct = refl;
  paths = refl;
  template = refl;
})

abbrev pub fills_world : World
fills_world = unit_world (kinds_of one_field) fills

-- before another write of the field nothing differs
writes_before : Refines fills_world setting set_twice []
writes_before =
    write_config_refines one_field 1 fills Before 0 (ControlArg (Lit (pos 4))) setting (at 0) _
    it_is_put_in may_set
    (may_fill set_twice (record {
      params = refl;
      asserts = refl;
      body = refl;
      filled = refl;
      ids = refl;
      distinct = refl;
      paths = refl;
      template = refl;
    }))

leaves_out : Refines fills_world setting storing (0 ∷ [])
leaves_out =
    delete_config_refines one_field 1 fills setting (at 0) _ it_is_left_out may_set
    (may_fill storing (record {
      params = refl;
      asserts = refl;
      body = refl;
      filled = refl;
      ids = refl;
      distinct = refl;
      paths = refl;
      template = refl;
    }))

binds : Refines fills_world filling filling_bound (0 ∷ [])
binds =
    bind_config_refines one_field 1 fills (110 ∷ []) 0 filling (at 0) _ it_is_bound
    (may_fill filling (record {
      params = refl;
      asserts = refl;
      body = refl;
      filled = refl;
      ids = refl;
      distinct = refl;
      paths = refl;
      template = refl;
    }))
    (may_fill filling_bound (record {
      params = refl;
      asserts = refl;
      body = refl;
      filled = refl;
      ids = refl;
      distinct = refl;
      paths = refl;
      template = refl;
    }))

-- ---- versions

-- one that writes the field, and one made from it that does not
abbrev pub small : Program
small = unit_of (loud ∷ quiet ∷ [])

abbrev pub small_origins : List Origin
small_origins =
    of_text ∷ record { parent = Some 0; place = at 0; side = Before; fields = 0 ∷ [] } ∷ []

abbrev pub small_world : World
small_world = program_world small

are_small : AreProcedures one_field 0 [] small.procedures
are_small = (
  record {
    params = refl;
    asserts = refl;
    body = refl;
    filled = refl;
    ids = refl;
    distinct = refl;
    paths = refl;
    template = refl;
  },
  (
    record {
      params = refl;
      asserts = refl;
      body = refl;
      filled = refl;
      ids = refl;
      distinct = refl;
      paths = refl;
      template = refl;
    },
    tt,
  ),
)

may_be_small : (p : Procedure)
    → IsProcedure (field_kind one_field) 0
    (slice_get (callees (kinds_of one_field) [] small.procedures)) p
    → MayRun one_field 0 small.procedures p
may_be_small p is = record { unit = are_small; procedure = is }

quiet_refines : Refines small_world loud quiet (0 ∷ [])
quiet_refines =
    delete_config_refines one_field 0 small.procedures loud (at 0) _ refl
    (may_be_small loud (record {
      params = refl;
      asserts = refl;
      body = refl;
      filled = refl;
      ids = refl;
      distinct = refl;
      paths = refl;
      template = refl;
    }))
    (may_be_small quiet (record {
      params = refl;
      asserts = refl;
      body = refl;
      filled = refl;
      ids = refl;
      distinct = refl;
      paths = refl;
      template = refl;
    }))

-- the field 0 alone
only_first : (f k : ℕ) → k < 1 → slice_index_or (0 ∷ []) k f ≡ f → f < 1
only_first f zero h e = subst (λ z. z < 1) e h
only_first f (suc k) h e = absurd (no h)
  where
    no : suc k < 1 → ⊥
    no h = omega arith

no_field : (k : ℕ) → k < 0 → ⊥
no_field k h = omega arith

pub are_versions : AreVersions small_world small small_origins
are_versions = record { safe = safe; steps = steps; fields = fields }
  where
    safe : (k : ℕ) (q : Procedure) → slice_get small.procedures k ≡ Some q
        → (s : State) → IsAdmissible small_world q s → IsSome (run_procedure small_world q s)
    safe zero q e s good =
        subst (λ z. IsSome (run_procedure small_world z s)) (some_injective loud q e) refl
    safe (suc zero) q e s good =
        subst (λ z. IsSome (run_procedure small_world z s)) (some_injective quiet q e) refl
    safe (suc (suc k)) q e s good = absurd (none_some e)

    one_step : IsStep small_world 0 1 loud quiet (0 ∷ [])
    one_step = record {
      head = (refl, refl);
      refines = quiet_refines;
    }

    steps : (j k : ℕ) (q : Procedure) → parent_in small_origins k ≡ Some j
        → slice_get small.procedures k ≡ Some q
        → (p : Procedure) × (slice_get small.procedures j ≡ Some p)
        × IsStep small_world j k p q (step_fields small.procedures small_origins k)
    steps j zero q e i = absurd (none_some e)
    steps j (suc zero) q e i =
        subst (λ z. (p : Procedure) × (slice_get small.procedures z ≡ Some p)
        × IsStep small_world z 1 p q (0 ∷ [])) (some_injective 0 j e)
        (subst (λ r. (p : Procedure) × (slice_get small.procedures 0 ≡ Some p)
        × IsStep small_world 0 1 p r (0 ∷ [])) (some_injective quiet q i) (loud, refl, one_step))
    steps j (suc (suc k)) q e i = absurd (none_some e)

    fields : (k f : ℕ) → Contains (step_fields small.procedures small_origins k) f → f < 1
    fields zero f c = absurd (no_field c.0 c.1)
    fields (suc zero) f c = only_first f c.0 c.1 c.2
    fields (suc (suc k)) f c = absurd (no_field c.0 c.1)

-- along the derivation
pub they_stand : VersionsStand small small_origins
they_stand = descendants_refine small small_origins are_versions

descendant_refines : Refines small_world loud quiet (0 ∷ [])
descendant_refines = (they_stand 0 1 loud quiet refl refl refl).1

-- and in a call, behind which the field is written again
abbrev pub caller : ℕ → Procedure
caller k = calls_it k (next (Config 0 (ControlArg (Lit (pos 2)))) end)

version_may_be_called : Refines small_world (caller 0) (caller 1) []
version_may_be_called =
    call_eqv_refines small small_origins 1 they_stand (caller 0) (at 0) _ refl
    (may_be_small (caller 0) (record {
      params = refl;
      asserts = refl;
      body = refl;
      filled = refl;
      ids = refl;
      distinct = refl;
      paths = refl;
      template = refl;
    }))
    (may_be_small (caller 1) (record {
      params = refl;
      asserts = refl;
      body = refl;
      filled = refl;
      ids = refl;
      distinct = refl;
      paths = refl;
      template = refl;
    }))

-- ---- liveness at the two ends

-- the field is written again on every way, so it is live before the body at neither end
written_again : live (unit_live fills) 0 set_twice.body true ≡ false
written_again = blocks_go_by_exit (unit_live fills) (unit_surely fills) (units_go_by_exit fills) 0
    set_twice.body true
