-- The rule that makes one loop of two, on closed procedures.
use Rattle.std.proofs.Common.{◌≡◌, ℕ, pos, List, [], ◌∷◌, Some, refl}
use Rattle.std.specs.Prelude.{codes}
use Rattle.std.specs.Fmt.{digits}
use Rattle.std.specs.Int.{int_wrap}
use Rattle.std.proofs.lemmas.List.Elements.{All-from_recursion}
use Rattle.exo_tree.specs.Tree.{Binder, Control, Var, Add, Sub, Mul, Const, Read, Assign, ControlArg, Config}
use Rattle.exo_tree.specs.Tree.{Block, joined, Param, Procedure}
use Rattle.exo_meaning.specs.Value.{Number}
use Rattle.exo_meaning.specs.Run.{program_world}
use Rattle.exo_meaning.specs.Inputs.{Refines}
use Rattle.exo_meaning.specs.Units.{IsUnit}
use Rattle.affine_systems.specs.Outcomes.{Owed, owed}
use Rattle.cursor_forward.specs.Causes.{WrongShape, ConfigWrite, Form, WideNumber}
use Rattle.cursor_forward.specs.Cursors.{Before}
use Rattle.cursor_forward.specs.Forwards.{Forwards}
use Rattle.cursor_forward.specs.Shifts.{at_index, edits_of, move_of}
use Rattle.cursor_forward.specs.Proposals.{Plan}
use Rattle.config_laws.proofs.Derived.{no_versions}
use Rattle.step_rules.specs.Rule.{Got, Not}
use Rattle.step_rules.specs.Answer.{proposed}
use Rattle.step_rules.specs.Lawful.{IsTarget}
use Rattle.step_rules.specs.Laws.{MeaningLaw, ForwardsLaw}
use Rattle.loop_laws.specs.Nest.Fuse.{Two, fuse_shifts, fuse_rule}
use Rattle.loop_laws.proofs.OfNest.Examples.{named, tensor, procedure, number, one, loop, with_fields}
use Rattle.loop_laws.proofs.OfNest.Examples.{target_of, one_field, starts, two_buffers, leaves, same_turn}
use Rattle.loop_laws.proofs.OfNest.Examples.{no_same_turn, IsClosed, body_of, texts_of, on_first}
use Rattle.loop_laws.proofs.OfNest.Fuse.{fuse_is_lawful, fuse_is_carrying}

abbrev i : Binder
i = named 2 (codes "i")

abbrev j : Binder
j = named 3 (codes "j")

-- x, y: i32[16]
abbrev params : List Param
params =
    tensor 0 (codes "x") (number 16 ∷ []) ∷ tensor 1 (codes "y") (number 16 ∷ []) ∷ []

-- x[i] = 1
abbrev ones : Block
ones = one (Assign 0 (Var 2 ∷ []) (Const (pos 1)))

-- y[k] = x[e]
abbrev copied : ℕ → Control → Block
copied k e = one (Assign 1 (Var k ∷ []) (Read 0 (e ∷ [])))

-- for i in seq(0, 16): x[i] = 1, and then a loop over j from 0 up to that
abbrev two_loops : Control → Block → Procedure
two_loops hi b = procedure params (joined (loop i (number 0) (number 16) ones) (loop j (number 0) hi b))

-- for j in seq(0, 16): y[j] = x[j]
abbrev copying : Procedure
copying = two_loops (number 16) (copied 3 (Var 3))

abbrev one_loop : Block
one_loop = loop i (number 0) (number 16) (joined ones (copied 2 (Var 2)))

pub copying_fused : body_of (on_first fuse_rule copying) ≡ Some one_loop
copying_fused = refl

pub copying_needs : texts_of (on_first fuse_rule copying) ≡ codes "x[j] against x[i]" ∷ []
unfolding digits
copying_needs = refl

-- y[j] = x[j + 1] is not shown
pub ahead_needs : texts_of (on_first fuse_rule (two_loops (number 16) (copied 3 (Add (Var 3) (number 1)))))
    ≡ codes "x[j + 1] against x[i]" ∷ []
unfolding digits
ahead_needs = refl

-- bounds agree by their normal forms
pub agreeing : body_of (on_first fuse_rule (two_loops (Sub (number 17) (number 1)) (copied 3 (Var 3))))
    ≡ Some one_loop
agreeing = refl

-- ---- refusals

pub other_bounds : on_first fuse_rule (two_loops (number 8) (copied 3 (Var 3))) ≡ Not WrongShape
other_bounds = refl

pub no_next : on_first fuse_rule (procedure params (loop i (number 0) (number 16) ones))
    ≡ Not WrongShape
no_next = refl

pub no_loop_next :
    on_first fuse_rule
    (procedure params (joined (loop i (number 0) (number 16) ones) (copied 0 (number 0))))
    ≡ Not WrongShape
no_loop_next = refl

-- an end past 2 ^ 62
abbrev wide_end : Control
wide_end = Mul (number 2147483647) (Mul (number 2147483647) (number 2147483647))

-- for i in seq(lo, 16): x[i] = 1, and then a loop over j from there up to the wide end
abbrev with_wide_end : Control → Control → Block → Procedure
with_wide_end lo start b =
    procedure params (joined (loop i lo (number 16) ones) (loop j start wide_end b))

pub too_wide : on_first fuse_rule (with_wide_end (number 0) (number 0) (copied 3 (Var 3)))
    ≡ Not (Form WideNumber)
too_wide = refl

-- other lower bounds are told first, and forms of lower bounds before other upper bounds
pub other_and_wide : on_first fuse_rule (with_wide_end (number 1) (number 0) (copied 3 (Var 3)))
    ≡ Not WrongShape
other_and_wide = refl

pub wide_starts :
    on_first fuse_rule
    (procedure params (joined (loop i wide_end (number 3) ones) (loop j wide_end (number 4) ones)))
    ≡ Not (Form WideNumber)
wide_starts = refl

-- writes of fields are told behind the bounds
pub writes_and_wide :
    proposed fuse_rule
    (with_fields one_field
    (with_wide_end (number 0) (number 0) (one (Config 0 (ControlArg (number 8))))))
    (at_index 0) ≡ Not (Form WideNumber)
writes_and_wide = refl

-- Cfg.w = 8 in the second loop
pub writes_a_field :
    proposed fuse_rule
    (with_fields one_field (two_loops (number 16) (one (Config 0 (ControlArg (number 8))))))
    (at_index 0) ≡ Not ConfigWrite
writes_a_field = refl

-- ---- what is proposed keeps the meaning

copying_is_unit : IsUnit (target_of copying).unit
copying_is_unit = record {
  procedures = (
    record {
      params = refl;
      asserts = refl;
      body = refl;
      filled = refl;
      ids = refl;
      distinct = refl;
      paths = refl;
      template = refl;
    },
    tt,
  );
  fields = refl;
  memories = refl;
  spaces = refl;
  counts = refl;
}

copying_is_target : IsTarget (target_of copying)
copying_is_target = record { unit = copying_is_unit; there = refl; ids = refl }

abbrev loops : Two
loops = record {
  first = record { binder = i; lo = number 0; hi = number 16; body = ones };
  second = record { binder = j; lo = number 0; hi = number 16; body = copied 3 (Var 3) };
}

abbrev must : List Owed
must = owed (codes "x[j] against x[i]") (at_index 0) same_turn ∷ []

abbrev plan : Plan
plan = record {
  proc = record copying { body = one_loop };
  must = must;
  edits = edits_of (at_index 0) 2 1 (fuse_shifts loops);
  fields = [];
  place = [];
  side = Before;
}

pub copying_planned : on_first fuse_rule copying ≡ Got plan
unfolding digits
copying_planned = refl

pub copying_refines : MeaningLaw
    → Refines (program_world (target_of copying).unit) copying plan.proc []
copying_refines law =
    law fuse_rule (target_of copying) (at_index 0) plan fuse_is_lawful copying_is_target
    (no_versions (target_of copying).unit) copying_planned
    (All-from_recursion IsClosed must (no_same_turn, tt))

pub copying_forwards : ForwardsLaw → Forwards (move_of plan.edits) copying plan.proc
copying_forwards law =
    law fuse_rule (target_of copying) (at_index 0) plan fuse_is_carrying copying_is_target
    copying_planned

-- ---- runs

pub last_of_two : leaves (target_of copying) copying.body (starts (two_buffers (pos 16))) 1 (pos 15 ∷ [])
    ≡ Some (Number (pos 1))
unfolding int_wrap
last_of_two = refl

pub last_of_one : leaves (target_of copying) one_loop (starts (two_buffers (pos 16))) 1 (pos 15 ∷ [])
    ≡ Some (Number (pos 1))
unfolding int_wrap
last_of_one = refl
