-- `join_loops` on closed procedures: what was cut is joined again.
use Rattle.std.proofs.Common.{◌≡◌, ◌≤ℤ◌, ℕ, ◌+◌, ℤ, pos, negsuc, ◌+ℤ◌, List, [], ◌∷◌, ◌++◌, map, Option, Some}
use Rattle.std.proofs.Common.{None, refl, arith}
use Rattle.std.specs.Prelude.{codes}
use Rattle.std.specs.Fmt.{digits}
use Rattle.std.proofs.lemmas.Int.{ints}
use Rattle.std.proofs.lemmas.List.Elements.{All-from_recursion}
use Rattle.exo_tree.specs.Tree.{I32, Control, Condition, Var, Add, Le, Const, Assign, Alloc, Block}
use Rattle.exo_tree.specs.Tree.{next, joined, Procedure}
use Rattle.exo_meaning.specs.Run.{program_world}
use Rattle.exo_meaning.specs.Inputs.{Refines}
use Rattle.exo_meaning.specs.Units.{IsUnit}
use Rattle.meaning_laws.specs.Facts.{Holds}
use Rattle.affine_forms.specs.Affine.{HasNoIntegerPoint, dot}
use Rattle.affine_systems.specs.Outcomes.{Owed}
use Rattle.cursor_forward.specs.Causes.{WrongShape}
use Rattle.cursor_forward.specs.Cursors.{Before}
use Rattle.cursor_forward.specs.Forwards.{Forwards}
use Rattle.cursor_forward.specs.Shifts.{at_index, stays, edits_of, move_of}
use Rattle.cursor_forward.specs.Proposals.{Plan}
use Rattle.config_laws.proofs.Derived.{no_versions}
use Rattle.step_rules.specs.Rule.{Tried, Got, Not, Says}
use Rattle.step_rules.specs.Owing.{AreShown, owed_for}
use Rattle.step_rules.specs.Lawful.{IsTarget}
use Rattle.step_rules.specs.Laws.{MeaningLaw, ForwardsLaw}
use Rattle.loop_laws.proofs.Examples.{target_of, loop, stores, number, on_loop, z}
use Rattle.loop_laws.specs.JoinLoops.{join_rule}
use Rattle.loop_laws.proofs.JoinRule.{join_is_lawful, join_is_carrying}

-- ---- what is answered

abbrev body_of : Tried Plan → Option Block
body_of (Got m) = Some m.proc.body
body_of (Not cause) = None

abbrev texts_of : Tried Plan → List (List ℕ)
texts_of (Got m) = map (λ o. o.what) m.must
texts_of (Not cause) = []

-- for i in seq(lo, hi): x[i] = n, with its own id
abbrev part : ℕ → Control → Control → ℕ → Block
part id lo hi n = loop id (codes "i") lo hi (stores 0 (Var id) n)

abbrev of_body : Block → Procedure
of_body b = record z { body = b }

-- for i in seq(0, 5): x[i] = 1, for i in seq(5, 16): x[i] = 1
abbrev parts : Procedure
parts = of_body (joined (part 1 (number 0) (number 5) 1) (part 2 (number 5) (number 16) 1))

pub joined_again : body_of (on_loop join_rule parts) ≡ Some z.body
joined_again = refl

pub needs_of_parts : texts_of (on_loop join_rule parts) ≡ codes "0 <= 5" ∷ codes "5 <= 16" ∷ []
unfolding digits
needs_of_parts = refl

-- the bounds agree by their normal forms
pub joined_by_value :
    body_of (on_loop join_rule
    (of_body (joined (part 1 (number 0) (Add (number 2) (number 3)) 1)
    (part 2 (number 5) (number 16) 1))))
    ≡ Some z.body
joined_by_value = refl

-- bodies may bind other names
abbrev with_buffer : ℕ → List ℕ → List ℕ → Control → Control → Block
with_buffer id name buffer lo hi =
    loop id name lo hi
    (next (Alloc (record { id = id + 1; name = buffer }) I32 [] 0)
    (next (Assign (id + 1) [] (Const (pos 1))) (stores 0 (Var id) 1)))

pub joined_under_names :
    body_of (on_loop join_rule
    (of_body (joined (with_buffer 1 (codes "i") (codes "s") (number 0) (number 5))
    (with_buffer 3 (codes "j") (codes "t") (number 5) (number 16)))))
    ≡ Some (with_buffer 1 (codes "i") (codes "s") (number 0) (number 16))
joined_under_names = refl

-- ---- refusals

pub other_body : on_loop join_rule
    (of_body (joined (part 1 (number 0) (number 5) 1) (part 2 (number 5) (number 16) 2))) ≡ Not WrongShape
other_body = refl

pub with_a_gap : on_loop join_rule
    (of_body (joined (part 1 (number 0) (number 5) 1) (part 2 (number 6) (number 16) 1))) ≡ Not WrongShape
with_a_gap = refl

pub no_second : on_loop join_rule z ≡ Not WrongShape
no_second = refl

-- ---- the laws there

parts_is_unit : IsUnit (target_of parts).unit
parts_is_unit = record {
  procedures = (
    record {
      params = refl;
      asserts = refl;
      body = refl;
      filled = refl;
      ids = refl;
      distinct = refl;
      paths = refl;
      template = refl;
    },
    tt,
  );
  fields = refl;
  memories = refl;
  spaces = refl;
  counts = refl;
}

parts_is_target : IsTarget (target_of parts)
parts_is_target = record { unit = parts_is_unit; there = refl; ids = refl }

abbrev owed_of : Condition → List Owed
owed_of c = owed_for (target_of parts) (Says (at_index 0) (Holds c))

abbrev must : List Owed
must = owed_of (Le (number 0) (number 5)) ++ owed_of (Le (number 5) (number 16))

abbrev plan : Plan
plan = record {
  proc = z;
  must = must;
  edits = edits_of (at_index 0) 2 1 (stays 1);
  fields = [];
  place = [];
  side = Before;
}

planned : on_loop join_rule parts ≡ Got plan
planned = refl

-- a row below 0 has no point
no_point : (n : ℕ) (point : List ℤ) → pos 0 ≤ℤ (negsuc n +ℤ dot [] point) → ⊥
no_point n point h = absurd (omega (arith, ints))

must_is_shown : AreShown must
must_is_shown =
    All-from_recursion (λ o. HasNoIntegerPoint o.system) must
    (λ point h. no_point 5 point h.rows_hold.0, (λ point h. no_point 11 point h.rows_hold.0, tt))

pub join_refines : MeaningLaw → Refines (program_world (target_of parts).unit) parts z []
join_refines law =
    law join_rule (target_of parts) (at_index 0) plan join_is_lawful parts_is_target
    (no_versions (target_of parts).unit) planned must_is_shown

pub join_forwards : ForwardsLaw → Forwards (move_of plan.edits) parts z
join_forwards law =
    law join_rule (target_of parts) (at_index 0) plan join_is_carrying parts_is_target planned
