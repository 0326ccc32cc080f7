-- `shift_loop` on the procedure z of the examples, and the laws there.
use Rattle.std.proofs.Common.{◌≡◌, ◌≤ℤ◌, ℕ, ℤ, pos, negsuc, ◌+ℤ◌, List, [], refl, arith}
use Rattle.std.specs.Prelude.{codes}
use Rattle.std.proofs.lemmas.Int.{ints}
use Rattle.std.proofs.lemmas.List.Elements.{All-from_recursion}
use Rattle.exo_tree.specs.Tree.{Var, Le}
use Rattle.exo_meaning.specs.Run.{program_world}
use Rattle.exo_meaning.specs.Inputs.{Refines}
use Rattle.meaning_laws.specs.Facts.{Holds}
use Rattle.affine_forms.specs.Affine.{HasNoIntegerPoint, dot}
use Rattle.affine_systems.specs.Outcomes.{Owed}
use Rattle.cursor_forward.specs.Cursors.{Before}
use Rattle.cursor_forward.specs.Forwards.{Forwards}
use Rattle.cursor_forward.specs.Shifts.{at_index, stays, edits_of, move_of}
use Rattle.cursor_forward.specs.Proposals.{Plan}
use Rattle.place_laws.specs.Order.TurnsOfTwo.{Loop}
use Rattle.config_laws.proofs.Derived.{no_versions}
use Rattle.step_rules.specs.Rule.{Got, Says}
use Rattle.step_rules.specs.Owing.{AreShown, owed_for}
use Rattle.step_rules.specs.Laws.{MeaningLaw, ForwardsLaw}
use Rattle.loop_laws.specs.ShiftLoop.{shifted, shift_rule}
use Rattle.loop_laws.proofs.Examples.{target_of, stores, number, on_loop, z}
use Rattle.loop_laws.proofs.Instances.{z_is_target}
use Rattle.loop_laws.proofs.ShiftLoop.{shift_is_lawful, shift_is_carrying}

abbrev loop_of_z : Loop
loop_of_z = record {
  binder = record { id = 1; name = codes "i" };
  lo = number 0;
  hi = number 16;
  body = stores 0 (Var 1) 1;
}

abbrev must : List Owed
must = owed_for (target_of z) (Says (at_index 0) (Holds (Le (number 0) (number 2))))

abbrev plan : Plan
plan = record {
  proc = record z { body = shifted (number 2) loop_of_z 2 };
  must = must;
  edits = edits_of (at_index 0) 1 1 (stays 1);
  fields = [];
  place = [];
  side = Before;
}

pub from_two : on_loop (shift_rule (number 2)) z ≡ Got plan
from_two = refl

no_point : (n : ℕ) (point : List ℤ) → pos 0 ≤ℤ (negsuc n +ℤ dot [] point) → ⊥
no_point n point h = absurd (omega (arith, ints))

abbrev IsClosed : Owed → Type 0
IsClosed o = HasNoIntegerPoint o.system

is_shown : AreShown must
is_shown = All-from_recursion IsClosed must (λ point h. no_point 2 point h.rows_hold.0, tt)

pub shift_refines : MeaningLaw → Refines (program_world (target_of z).unit) z plan.proc []
shift_refines law =
    law (shift_rule (number 2)) (target_of z) (at_index 0) plan (shift_is_lawful (number 2))
    z_is_target (no_versions (target_of z).unit) from_two is_shown

pub shift_forwards : ForwardsLaw → Forwards (move_of plan.edits) z plan.proc
shift_forwards law =
    law (shift_rule (number 2)) (target_of z) (at_index 0) plan (shift_is_carrying (number 2))
    z_is_target from_two
