-- The rule that makes two loops of one, on closed procedures.
use Rattle.std.proofs.Common.{◌≡◌, ℕ, ℤ, pos, List, [], ◌∷◌, Option, Some, None, option_map, refl}
use Rattle.std.specs.Prelude.{codes}
use Rattle.std.specs.Fmt.{digits}
use Rattle.std.specs.Int.{int_wrap}
use Rattle.std.proofs.lemmas.List.Elements.{All-from_recursion}
use Rattle.exo_tree.specs.Tree.{I32, Binder, Control, Var, Add, Const, Read, Assign, Alloc, ControlArg}
use Rattle.exo_tree.specs.Tree.{Config, Block, joined, Param, Procedure}
use Rattle.exo_meaning.specs.Value.{Number}
use Rattle.exo_meaning.specs.Scene.{updated}
use Rattle.exo_meaning.specs.State.{State, on_scene, with_control}
use Rattle.exo_meaning.specs.Run.{program_world, run, tensor as cells_of}
use Rattle.exo_meaning.specs.Inputs.{Refines}
use Rattle.exo_meaning.specs.Units.{IsUnit}
use Rattle.affine_systems.specs.Outcomes.{Owed, owed}
use Rattle.cursor_forward.specs.Causes.{WrongShape, ConfigWrite}
use Rattle.cursor_forward.specs.Cursors.{Before}
use Rattle.cursor_forward.specs.Forwards.{Forwards}
use Rattle.cursor_forward.specs.Shifts.{at_index, edits_of, move_of}
use Rattle.cursor_forward.specs.Proposals.{Plan}
use Rattle.config_laws.proofs.Derived.{no_versions}
use Rattle.step_rules.specs.Rule.{Tried, Got, Not, Target}
use Rattle.step_rules.specs.Answer.{proposed}
use Rattle.step_rules.specs.Lawful.{IsTarget}
use Rattle.step_rules.specs.Laws.{MeaningLaw, ForwardsLaw}
use Rattle.loop_laws.specs.Nest.Fission.{Parting, fission_shifts, fission_rule}
use Rattle.loop_laws.proofs.OfNest.Examples.{named, size, tensor, procedure, number, one, loop, with_fields}
use Rattle.loop_laws.proofs.OfNest.Examples.{target_of, one_field, starts, two_buffers, leaves, same_turn}
use Rattle.loop_laws.proofs.OfNest.Examples.{no_same_turn, IsClosed, body_of, texts_of, on_first}
use Rattle.loop_laws.proofs.OfNest.FissionRule.{fission_is_lawful, fission_is_carrying}

-- the loop's variable, in the first loop and in the copy
abbrev i : ℕ → Binder
i n = named n (codes "i")

-- x, y: i32[16]
abbrev params : List Param
params =
    tensor 0 (codes "x") (number 16 ∷ []) ∷ tensor 1 (codes "y") (number 16 ∷ []) ∷ []

abbrev turns : ℕ → Block → Block
turns n b = loop (i n) (number 0) (number 16) b

-- x[i] = 1
abbrev ones : Block
ones = one (Assign 0 (Var 2 ∷ []) (Const (pos 1)))

-- y[i] = x[e]
abbrev copied : ℕ → Control → Block
copied n e = one (Assign 1 (Var n ∷ []) (Read 0 (e ∷ [])))

-- for i in seq(0, 16): x[i] = 1, y[i] = x[i]
abbrev both : Procedure
both = procedure params (turns 2 (joined ones (copied 2 (Var 2))))

abbrev two_loops : Block
two_loops = joined (turns 2 ones) (turns 3 (copied 3 (Var 3)))

pub both_parted : body_of (on_first (fission_rule 1) both) ≡ Some two_loops
both_parted = refl

pub both_needs : texts_of (on_first (fission_rule 1) both) ≡ codes "x[i] against x[i]" ∷ []
unfolding digits
both_needs = refl

-- y[i] = x[i + 1] is not shown
pub ahead_needs :
    texts_of (on_first (fission_rule 1)
    (procedure params (turns 2 (joined ones (copied 2 (Add (Var 2) (number 1)))))))
    ≡ codes "x[i + 1] against x[i]" ∷ []
unfolding digits
ahead_needs = refl

-- ---- writes of fields

-- Cfg.w = e
abbrev writes : Control → Block
writes e = one (Config 0 (ControlArg e))

-- in a unit with that field, n: size, x: i32[n], for i in seq(0, n) of this body
abbrev over_n : Block → Target
over_n b =
    with_fields one_field
    (procedure (size 0 (codes "n") ∷ tensor 1 (codes "x") (Var 0 ∷ []) ∷ [])
    (loop (i 2) (number 0) (Var 0) b))

-- x[i] = 0
abbrev zeros : ℕ → Block
zeros n = one (Assign 1 (Var n ∷ []) (Const (pos 0)))

abbrev parted_behind_one : Block → Tried Plan
parted_behind_one b = proposed (fission_rule 1) (over_n b) (at_index 0)

pub write_parted : body_of (parted_behind_one (joined (writes (number 8)) (zeros 2)))
    ≡ Some (joined (loop (i 2) (number 0) (Var 0) (writes (number 8)))
    (loop (i 3) (number 0) (Var 0) (zeros 3)))
write_parted = refl

pub write_needs : texts_of (parted_behind_one (joined (writes (number 8)) (zeros 2))) ≡ []
unfolding digits
write_needs = refl

-- the second part may not write that field
pub written_again : parted_behind_one (joined (writes (number 8)) (writes (number 9)))
    ≡ Not ConfigWrite
written_again = refl

-- nor may the first part write the loop's variable
pub variable_written : parted_behind_one (joined (writes (Var 2)) (zeros 2)) ≡ Not ConfigWrite
variable_written = refl

-- nor anything else before it
pub not_alone :
    proposed (fission_rule 2) (over_n (joined (zeros 2) (joined (writes (number 8)) (zeros 2))))
    (at_index 0) ≡ Not ConfigWrite
not_alone = refl

-- ---- refusals of shape

-- t : i32, x[i] = t
pub used_behind :
    on_first (fission_rule 1)
    (procedure params
    (turns 2 (joined (one (Alloc (named 3 (codes "t")) I32 [] 0))
    (one (Assign 0 (Var 2 ∷ []) (Read 3 [])))))) ≡ Not WrongShape
used_behind = refl

pub nothing_before : on_first (fission_rule 0) both ≡ Not WrongShape
nothing_before = refl

pub nothing_behind : on_first (fission_rule 2) both ≡ Not WrongShape
nothing_behind = refl

-- ---- what is proposed keeps the meaning

both_is_unit : IsUnit (target_of both).unit
both_is_unit = record {
  procedures = (
    record {
      params = refl;
      asserts = refl;
      body = refl;
      filled = refl;
      ids = refl;
      distinct = refl;
      paths = refl;
      template = refl;
    },
    tt,
  );
  fields = refl;
  memories = refl;
  spaces = refl;
  counts = refl;
}

both_is_target : IsTarget (target_of both)
both_is_target = record { unit = both_is_unit; there = refl; ids = refl }

abbrev parts : Parting
parts = record {
  loop = record {
    binder = i 2;
    lo = number 0;
    hi = number 16;
    body = joined ones (copied 2 (Var 2));
  };
  first = ones;
  second = copied 2 (Var 2);
}

abbrev must : List Owed
must = owed (codes "x[i] against x[i]") (at_index 0) same_turn ∷ []

abbrev plan : Plan
plan = record {
  proc = record both { body = two_loops };
  must = must;
  edits = edits_of (at_index 0) 1 2 (fission_shifts parts);
  fields = [];
  place = [];
  side = Before;
}

pub both_planned : on_first (fission_rule 1) both ≡ Got plan
unfolding digits
both_planned = refl

pub both_refines : MeaningLaw → Refines (program_world (target_of both).unit) both plan.proc []
both_refines law =
    law (fission_rule 1) (target_of both) (at_index 0) plan (fission_is_lawful 1) both_is_target
    (no_versions (target_of both).unit) both_planned
    (All-from_recursion IsClosed must (no_same_turn, tt))

pub both_forwards : ForwardsLaw → Forwards (move_of plan.edits) both plan.proc
both_forwards law =
    law (fission_rule 1) (target_of both) (at_index 0) plan (fission_is_carrying 1) both_is_target
    both_planned

-- ---- runs

pub last_of_one : leaves (target_of both) both.body (starts (two_buffers (pos 16))) 1 (pos 15 ∷ [])
    ≡ Some (Number (pos 1))
unfolding int_wrap
last_of_one = refl

pub last_of_two : leaves (target_of both) two_loops (starts (two_buffers (pos 16))) 1 (pos 15 ∷ [])
    ≡ Some (Number (pos 1))
unfolding int_wrap
last_of_two = refl

-- ---- so does the write that comes first

abbrev write_first : Block
write_first = joined (writes (number 8)) (zeros 2)

abbrev write_alone : Block
write_alone =
    joined (loop (i 2) (number 0) (Var 0) (writes (number 8)))
    (loop (i 3) (number 0) (Var 0) (zeros 3))

write_is_unit : IsUnit (over_n write_first).unit
write_is_unit = record {
  procedures = (
    record {
      params = refl;
      asserts = refl;
      body = refl;
      filled = refl;
      ids = refl;
      distinct = refl;
      paths = refl;
      template = refl;
    },
    tt,
  );
  fields = refl;
  memories = refl;
  spaces = refl;
  counts = refl;
}

abbrev write_parts : Parting
write_parts = record {
  loop = record { binder = i 2; lo = number 0; hi = Var 0; body = write_first };
  first = writes (number 8);
  second = zeros 2;
}

abbrev write_plan : Plan
write_plan = record {
  proc = record (over_n write_first).proc { body = write_alone };
  must = [];
  edits = edits_of (at_index 0) 1 2 (fission_shifts write_parts);
  fields = [];
  place = [];
  side = Before;
}

pub write_planned : parted_behind_one write_first ≡ Got write_plan
unfolding digits
write_planned = refl

pub write_refines : MeaningLaw
    → Refines (program_world (over_n write_first).unit) (over_n write_first).proc write_plan.proc []
write_refines law =
    law (fission_rule 1) (over_n write_first) (at_index 0) write_plan (fission_is_lawful 1)
    (record { unit = write_is_unit; there = refl; ids = refl })
    (no_versions (over_n write_first).unit) write_planned (All-from_recursion IsClosed [] tt)

-- n is 2, and x has two cells
abbrev two_cells : State
two_cells =
    on_scene (with_control 0 (pos 2))
    (starts (updated (λ x. None) 1 (Some (cells_of I32 (pos 2 ∷ [])))))

abbrev field_after : Block → Option ℤ
field_after b =
    option_map (λ (u : State). u.scene.fields 0)
    (run (program_world (over_n write_first).unit) b two_cells)

pub field_of_one : field_after (over_n write_first).proc.body ≡ Some (pos 8)
field_of_one = refl

pub field_of_two : field_after write_alone ≡ Some (pos 8)
field_of_two = refl

pub cell_of_two : leaves (over_n write_first) write_alone two_cells 1 (pos 1 ∷ []) ≡ Some (Number (pos 0))
unfolding int_wrap
cell_of_two = refl
