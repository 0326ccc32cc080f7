-- The schedule of the instance is computed, and what it leaves is derived.
use Rattle.std.proofs.Common.{◌≡◌, ◌≤◌, ◌<◌, ◌+◌, ◌*◌, ◌^◌, ℕ, zero, suc, Some, None, refl, subst}
use Rattle.std.proofs.Common.{arith}
use Rattle.std.specs.Prelude.{slice_get}
use Rattle.std.specs.Fmt.{digits}
use Rattle.exo_tree.specs.Tree.{Procedure}
use Rattle.affine_prover.specs.Elimination.{verdict_on, verdict_on_rows, round, reduced, normalized}
use Rattle.exo_meaning.specs.Units.{IsUnit}
use Rattle.tree_edits.specs.Made.Ids.{next_id}
use Rattle.unit_check.specs.Laws.{CheckedUnitsDoNotFault}
use Rattle.schedule_laws.specs.Versions.Versions.{started}
use Rattle.schedule_laws.specs.Versions.Laws.{HasRoom}
use Rattle.schedule_laws.specs.Operators.Laws.{SchedulesDerive}
use Rattle.schedule_laws.specs.Operators.Instance.{first, unit, schedule, result, ScheduleInstance}
use Rattle.schedule_laws.specs.Operators.Instance.{ResultIsDerived}
use Rattle.schedule_laws.specs.Operators.LoopInstance.{LoopsInstance}

pub schedule_instance : ScheduleInstance
schedule_instance = record {
  runs = refl;
  cursor_gone = refl;
  other_version = refl;
  no_version = refl;
  no_match = refl;
  wrong_shape = refl;
  no_parent = refl;
  no_emit = refl;
}

pub loops_instance : LoopsInstance
unfolding digits verdict_on verdict_on_rows round reduced normalized
loops_instance = record {
  runs = refl;
  no_group = refl;
  no_loop = refl;
  many_turns = refl;
  cut_outside = refl;
  own_variable = refl;
  no_control = refl;
  no_condition = refl;
  no_neighbour = refl;
  block_for_loop = refl;
  gap_for_block = refl;
  before_block = refl;
}

is_unit : IsUnit unit
is_unit = record {
  procedures = (
    record {
      params = refl;
      asserts = refl;
      body = refl;
      filled = refl;
      ids = refl;
      distinct = refl;
      paths = refl;
      template = refl;
    },
    tt,
  );
  fields = refl;
  memories = refl;
  spaces = refl;
  counts = refl;
}

has_room : HasRoom (started unit 0) 5
has_room = record { numbers = few; ids = ids }
  where
    few : 1 + 5 + 1 < 2 ^ 31
    few = omega arith

    few_ids : 1 + 65536 * 5 ≤ 2 ^ 31
    few_ids = omega arith

    same : (p q : Procedure) → Some p ≡ Some q → p ≡ q
    same p q h = cc

    none : (q : Procedure) → None ≡ Some q → ⊥
    none q h = cc

    ids : (k : ℕ) (p : Procedure) → slice_get unit.procedures k ≡ Some p
        → next_id p + 65536 * 5 ≤ 2 ^ 31
    ids zero p h = subst (λ (q : Procedure). next_id q + 65536 * 5 ≤ 2 ^ 31) (same first p h) few_ids
    ids (suc zero) p h = absurd (none p h)
    ids (suc (suc k)) p h = absurd (none p h)

pub result_is_derived : SchedulesDerive → CheckedUnitsDoNotFault → ResultIsDerived
result_is_derived derive quiet =
    derive unit 0 schedule result is_unit (quiet unit 0 is_unit refl) has_room refl
