-- The rule that exchanges two loops, on closed procedures.
use Rattle.std.proofs.Common.{◌≡◌, ℤ, pos, negsuc, List, [], ◌∷◌, Some, refl, arith}
use Rattle.std.proofs.lemmas.Int.{ints}
use Rattle.std.specs.Prelude.{codes}
use Rattle.std.specs.Fmt.{digits}
use Rattle.std.specs.Int.{int_wrap}
use Rattle.std.proofs.lemmas.List.Elements.{All-from_recursion}
use Rattle.exo_tree.specs.Tree.{Binder, Control, Var, Add, Sub, Const, Read, Assign, Reduce}
use Rattle.exo_tree.specs.Tree.{ControlArg, Config, Pass, Block, joined, Param, Procedure}
use Rattle.exo_meaning.specs.Value.{Number}
use Rattle.exo_meaning.specs.Run.{program_world}
use Rattle.exo_meaning.specs.Inputs.{Refines}
use Rattle.exo_meaning.specs.Units.{IsUnit}
use Rattle.affine_forms.specs.Affine.{Affine, Constraints, HasNoIntegerPoint}
use Rattle.affine_systems.specs.Outcomes.{Owed, owed}
use Rattle.cursor_forward.specs.Causes.{WrongShape, ConfigWrite}
use Rattle.cursor_forward.specs.Cursors.{Before}
use Rattle.cursor_forward.specs.Forwards.{Forwards}
use Rattle.cursor_forward.specs.Shifts.{at_index, edits_of, move_of}
use Rattle.cursor_forward.specs.Proposals.{Plan}
use Rattle.config_laws.proofs.Derived.{no_versions}
use Rattle.step_rules.specs.Rule.{Got, Not}
use Rattle.step_rules.specs.Answer.{proposed}
use Rattle.step_rules.specs.Lawful.{IsTarget}
use Rattle.step_rules.specs.Laws.{MeaningLaw, ForwardsLaw}
use Rattle.loop_laws.specs.Nest.ReorderLoops.{Nest, reorder_shifts, reorder_rule}
use Rattle.loop_laws.proofs.OfNest.Examples.{named, size, tensor, procedure, number, one, loop, with_fields}
use Rattle.loop_laws.proofs.OfNest.Examples.{target_of, one_field, starts, one_buffer, leaves}
use Rattle.loop_laws.proofs.OfNest.Examples.{IsClosed, body_of, texts_of, on_first}
use Rattle.loop_laws.proofs.OfNest.ReorderLoops.{reorder_is_lawful, reorder_is_carrying}

-- ---- a nest over M and N

abbrev i : Binder
i = named 5 (codes "i")

abbrev j : Binder
j = named 6 (codes "j")

-- M, N: size, A: i32[M, N], C: i32[N], D: i32[M, N]
abbrev params : List Param
params =
    size 0 (codes "M")
    ∷ size 1 (codes "N")
    ∷ tensor 2 (codes "A") (Var 0 ∷ Var 1 ∷ [])
    ∷ tensor 3 (codes "C") (Var 1 ∷ [])
    ∷ tensor 4 (codes "D") (Var 0 ∷ Var 1 ∷ [])
    ∷ []

abbrev both : List Control
both = Var 5 ∷ Var 6 ∷ []

-- A[i, j] = A[i - 1, e]
abbrev from_above : Control → Block
from_above e = one (Assign 2 both (Read 2 (Sub (Var 5) (number 1) ∷ e ∷ [])))

-- for i in seq(1, M): for j in seq(0, N - 1): A[i, j] = A[i - 1, j + 1]
abbrev against_order : Procedure
against_order =
    procedure params
    (loop i (number 1) (Var 0)
    (loop j (number 0) (Sub (Var 1) (number 1)) (from_above (Add (Var 6) (number 1)))))

-- which is not shown
pub against_order_needs : texts_of (on_first reorder_rule against_order)
    ≡ codes "A[i, j] against A[i, j]"
    ∷ codes "A[i, j] against A[i - 1, j + 1]"
    ∷ codes "A[i - 1, j + 1] against A[i, j]"
    ∷ []
unfolding digits
against_order_needs = refl

-- for i in seq(1, M): for j in seq(1, N): A[i, j] = A[i - 1, j - 1]
abbrev in_order : Procedure
in_order =
    procedure params
    (loop i (number 1) (Var 0)
    (loop j (number 1) (Var 1) (from_above (Sub (Var 6) (number 1)))))

pub in_order_turned : body_of (on_first reorder_rule in_order)
    ≡ Some (loop j (number 1) (Var 1)
    (loop i (number 1) (Var 0) (from_above (Sub (Var 6) (number 1)))))
in_order_turned = refl

-- ---- reductions

-- C[j] += A[i, j]
abbrev sums : Block
sums = one (Reduce 3 (Var 6 ∷ []) (Read 2 both))

abbrev nest : Block → Block
nest b = loop i (number 0) (Var 0) (loop j (number 0) (Var 1) b)

abbrev nest_turned : Block → Block
nest_turned b = loop j (number 0) (Var 1) (loop i (number 0) (Var 0) b)

abbrev summing : Procedure
summing = procedure params (nest sums)

-- and D[i, j] = C[0]
abbrev reading : Procedure
reading = procedure params (nest (joined sums (one (Assign 4 both (Read 3 (number 0 ∷ []))))))

-- which is not shown
pub reading_needs : texts_of (on_first reorder_rule reading)
    ≡ codes "C[j] against C[0]" ∷ codes "D[i, j] against D[i, j]" ∷ codes "C[0] against C[j]" ∷ []
unfolding digits
reading_needs = refl

-- ---- refusals

-- for i in seq(0, M): for j in seq(0, i): pass
pub bound_by_outer :
    on_first reorder_rule
    (procedure params (loop i (number 0) (Var 0) (loop j (number 0) (Var 5) (one Pass))))
    ≡ Not WrongShape
bound_by_outer = refl

-- for i in seq(0, M): for j in seq(0, N): pass, and then a pass
pub not_alone :
    on_first reorder_rule
    (procedure params
    (loop i (number 0) (Var 0) (joined (loop j (number 0) (Var 1) (one Pass)) (one Pass))))
    ≡ Not WrongShape
not_alone = refl

-- for i in seq(0, M): for j in seq(0, N): Cfg.w = 8
pub writes_a_field :
    proposed reorder_rule
    (with_fields one_field (procedure params (nest (one (Config 0 (ControlArg (number 8)))))))
    (at_index 0) ≡ Not ConfigWrite
writes_a_field = refl

-- ---- what is proposed keeps the meaning

summing_is_unit : IsUnit (target_of summing).unit
summing_is_unit = record {
  procedures = (
    record {
      params = refl;
      asserts = refl;
      body = refl;
      filled = refl;
      ids = refl;
      distinct = refl;
      paths = refl;
      template = refl;
    },
    tt,
  );
  fields = refl;
  memories = refl;
  spaces = refl;
  counts = refl;
}

summing_is_target : IsTarget (target_of summing)
summing_is_target = record { unit = summing_is_unit; there = refl; ids = refl }

abbrev loops : Nest
loops = record {
  outer = record { binder = i; lo = number 0; hi = Var 0; body = loop j (number 0) (Var 1) sums };
  inner = record { binder = j; lo = number 0; hi = Var 1; body = sums };
}

abbrev plan : Plan
plan = record {
  proc = record summing { body = nest_turned sums };
  must = [];
  edits = edits_of (at_index 0) 1 1 (reorder_shifts loops);
  fields = [];
  place = [];
  side = Before;
}

pub summing_planned : on_first reorder_rule summing ≡ Got plan
summing_planned = refl

pub summing_refines : MeaningLaw
    → Refines (program_world (target_of summing).unit) summing plan.proc []
summing_refines law =
    law reorder_rule (target_of summing) (at_index 0) plan reorder_is_lawful summing_is_target
    (no_versions (target_of summing).unit) summing_planned (All-from_recursion IsClosed [] tt)

pub summing_forwards : ForwardsLaw → Forwards (move_of plan.edits) summing plan.proc
summing_forwards law =
    law reorder_rule (target_of summing) (at_index 0) plan reorder_is_carrying summing_is_target
    summing_planned

-- ---- runs

-- x: i32[2, 3], for i in seq(0, 2): for j in seq(0, 3): x[i, j] = 7
abbrev sevens : Block
sevens = one (Assign 0 both (Const (pos 7)))

abbrev small : Procedure
small =
    procedure (tensor 0 (codes "x") (number 2 ∷ number 3 ∷ []) ∷ [])
    (loop i (number 0) (number 2) (loop j (number 0) (number 3) sevens))

abbrev small_turned : Block
small_turned = loop j (number 0) (number 3) (loop i (number 0) (number 2) sevens)

pub small_is_turned : body_of (on_first reorder_rule small) ≡ Some small_turned
small_is_turned = refl

pub last_of_small :
    leaves (target_of small) small.body (starts (one_buffer (pos 2 ∷ pos 3 ∷ []))) 0
    (pos 1 ∷ pos 2 ∷ []) ≡ Some (Number (pos 7))
unfolding int_wrap
last_of_small = refl

pub last_of_turned :
    leaves (target_of small) small_turned (starts (one_buffer (pos 2 ∷ pos 3 ∷ []))) 0
    (pos 1 ∷ pos 2 ∷ []) ≡ Some (Number (pos 7))
unfolding int_wrap
last_of_turned = refl

-- ---- what is shown for it

abbrev over_four : ℤ → List ℤ → Affine
over_four k cs = record { constant = k; coefficients = cs }

abbrev none_of : ℤ
none_of = pos 0

abbrev plus : ℤ
plus = pos 1

abbrev minus : ℤ
minus = negsuc 0

-- two turns of both loops that touch one cell: the first with the lesser i and the greater j
abbrev crossing : Constraints
crossing = record {
  variables = 4;
  equations = over_four (pos 0) (plus ∷ none_of ∷ minus ∷ none_of ∷ [])
      ∷ over_four (pos 0) (none_of ∷ plus ∷ none_of ∷ minus ∷ [])
      ∷ [];
  rows = over_four (pos 0) (plus ∷ none_of ∷ none_of ∷ none_of ∷ [])
      ∷ over_four (pos 1) (minus ∷ none_of ∷ none_of ∷ none_of ∷ [])
      ∷ over_four (pos 0) (none_of ∷ plus ∷ none_of ∷ none_of ∷ [])
      ∷ over_four (pos 2) (none_of ∷ minus ∷ none_of ∷ none_of ∷ [])
      ∷ over_four (pos 0) (none_of ∷ none_of ∷ plus ∷ none_of ∷ [])
      ∷ over_four (pos 1) (none_of ∷ none_of ∷ minus ∷ none_of ∷ [])
      ∷ over_four (pos 0) (none_of ∷ none_of ∷ none_of ∷ plus ∷ [])
      ∷ over_four (pos 2) (none_of ∷ none_of ∷ none_of ∷ minus ∷ [])
      ∷ over_four (negsuc 0) (minus ∷ none_of ∷ plus ∷ none_of ∷ [])
      ∷ over_four (negsuc 0) (none_of ∷ plus ∷ none_of ∷ minus ∷ [])
      ∷ [];
}

no_crossing : HasNoIntegerPoint crossing
no_crossing [] h = let e = h.one_each in absurd (omega (arith, e))
no_crossing (a ∷ []) h = let e = h.one_each in absurd (omega (arith, e))
no_crossing (a ∷ b ∷ []) h = let e = h.one_each in absurd (omega (arith, e))
no_crossing (a ∷ b ∷ c ∷ []) h = let e = h.one_each in absurd (omega (arith, e))
no_crossing (a ∷ b ∷ c ∷ d ∷ []) h =
    let e = h.equations_hold.0 in
    let r = h.rows_hold.1.1.1.1.1.1.1.1.0 in
    absurd (omega (arith, ints, e, r))
no_crossing (a ∷ b ∷ c ∷ d ∷ f ∷ rest) h = let e = h.one_each in absurd (omega (arith, e))

small_is_unit : IsUnit (target_of small).unit
small_is_unit = record {
  procedures = (
    record {
      params = refl;
      asserts = refl;
      body = refl;
      filled = refl;
      ids = refl;
      distinct = refl;
      paths = refl;
      template = refl;
    },
    tt,
  );
  fields = refl;
  memories = refl;
  spaces = refl;
  counts = refl;
}

abbrev small_loops : Nest
small_loops = record {
  outer = record {
    binder = i;
    lo = number 0;
    hi = number 2;
    body = loop j (number 0) (number 3) sevens;
  };
  inner = record { binder = j; lo = number 0; hi = number 3; body = sevens };
}

abbrev small_must : List Owed
small_must = owed (codes "x[i, j] against x[i, j]") (at_index 0) crossing ∷ []

abbrev small_plan : Plan
small_plan = record {
  proc = record small { body = small_turned };
  must = small_must;
  edits = edits_of (at_index 0) 1 1 (reorder_shifts small_loops);
  fields = [];
  place = [];
  side = Before;
}

pub small_planned : on_first reorder_rule small ≡ Got small_plan
unfolding digits
small_planned = refl

pub small_refines : MeaningLaw
    → Refines (program_world (target_of small).unit) small small_plan.proc []
small_refines law =
    law reorder_rule (target_of small) (at_index 0) small_plan reorder_is_lawful
    (record { unit = small_is_unit; there = refl; ids = refl })
    (no_versions (target_of small).unit) small_planned
    (All-from_recursion IsClosed small_must (no_crossing, tt))
