-- The rules on closed procedures.
use Rattle.std.proofs.Common.{◌≡◌, ℕ, pos, true, false, List, [], ◌∷◌, Some, None, refl}
use Rattle.std.proofs.Math.Nat.{not-suc-le-zero}
use Rattle.exo_tree.specs.Tree.{I32, Lit, Const, Read, Plus, Assign, Pass, For}
use Rattle.exo_tree.specs.Tree.{Block, end, next, Param, TensorParam, Procedure}
use Rattle.exo_tree.specs.Tree.{MemoryKind, Program}
use Rattle.exo_tree.specs.Places.{Main}
use Rattle.exo_meaning.specs.Run.{program_world}
use Rattle.exo_meaning.specs.Inputs.{Refines}
use Rattle.exo_meaning.specs.Units.{IsUnit}
use Rattle.cursor_forward.specs.Search.Patterns as pattern
use Rattle.cursor_forward.specs.Search.Patterns.{ExprPattern}
use Rattle.cursor_forward.specs.Causes.{WrongShape}
use Rattle.cursor_forward.specs.Cursors.{Before}
use Rattle.tree_laws.specs.Findings.Versions.{with_version}
use Rattle.cursor_forward.specs.Forwards.{Forwards}
use Rattle.cursor_forward.specs.Shifts.{Shift, at_index, stays, edits_of, alone, move_of}
use Rattle.cursor_forward.specs.Proposals.{Plan}
use Rattle.config_laws.proofs.Derived.{no_versions}
use Rattle.step_rules.specs.Rule.{Got, Not, Target}
use Rattle.step_rules.specs.Owing.{AreShown}
use Rattle.step_rules.specs.Answer.{proposed}
use Rattle.step_rules.specs.Lawful.{IsTarget}
use Rattle.step_rules.specs.Laws.{MeaningLaw, ForwardsLaw}
use Rattle.step_rules.proofs.Meaning.{proposals_are_kept}
use Rattle.proc_laws.specs.Expression.Commute.{commute_rule}
use Rattle.proc_laws.specs.Expression.Rename.{rename_rule}
use Rattle.proc_laws.specs.Expression.Passes.{delete_pass_rule}
use Rattle.proc_laws.proofs.OfExpression.Commute.{commute_is_lawful, commute_is_carrying}

-- x: i32[4] and y: i32[4]
abbrev buffer : ℕ → ℕ → Param
buffer n letter = record {
  binder = record { id = n; name = letter ∷ [] };
  kind = TensorParam I32 (Lit (pos 4) ∷ []) 0;
}

abbrev of_body : Block → Procedure
of_body b = record {
  name = 102 ∷ [];
  params = buffer 0 120 ∷ buffer 1 121 ∷ [];
  asserts = [];
  body = b;
  template = None;
}

abbrev plain_cells : MemoryKind
plain_cells = record {
  name = 68 ∷ [];
  ctype = [];
  lanes = 0;
  cell = None;
  stack = false;
  read = true;
  write = true;
  reduce = true;
  header = [];
}

abbrev unit_of : Block → Program
unit_of b = record { procedures = of_body b ∷ []; fields = []; memories = plain_cells ∷ [] }

abbrev target_of : Block → Target
target_of b = record { unit = unit_of b; origins = []; number = 0; proc = of_body b }

abbrev planned : Procedure → ℕ → ℕ → List Shift → Plan
planned q old new shifts = record {
  proc = q;
  must = [];
  edits = edits_of (at_index 0) old new shifts;
  fields = [];
  place = [];
  side = Before;
}

-- ---- x[0] = y[1] + 3

abbrev adds : Block
adds = next (Assign 0 (Lit (pos 0) ∷ []) (Plus (Read 1 (Lit (pos 1) ∷ [])) (Const (pos 3)))) end

abbrev adds_in_turn : Block
adds_in_turn =
    next (Assign 0 (Lit (pos 0) ∷ []) (Plus (Const (pos 3)) (Read 1 (Lit (pos 1) ∷ [])))) end

is_unit : IsUnit (unit_of adds)
is_unit = record {
  procedures = (
    record {
      params = refl;
      asserts = refl;
      body = refl;
      filled = refl;
      ids = refl;
      distinct = refl;
      paths = refl;
      template = refl;
    },
    tt,
  );
  fields = refl;
  memories = refl;
  spaces = refl;
  counts = refl;
}

is_target : IsTarget (target_of adds)
is_target = record { unit = is_unit; there = refl; ids = refl }

abbrev sum : ExprPattern
sum = record { form = pattern.Add; nth = 0 }

pub sides_change : proposed (commute_rule sum) (target_of adds) (at_index 0)
    ≡ Got (planned (of_body adds_in_turn) 1 1 (stays 1))
sides_change = refl

pub no_second_sum :
    proposed (commute_rule (record sum { nth = 1 })) (target_of adds) (at_index 0) ≡ Not WrongShape
no_second_sum = refl

pub no_statement : proposed (commute_rule sum) (target_of adds) (at_index 1) ≡ Not WrongShape
no_statement = refl

none_owed : AreShown []
none_owed k d less = absurd (not-suc-le-zero less)

pub sides_are_alike :
    MeaningLaw → Refines (program_world (unit_of adds)) (of_body adds) (of_body adds_in_turn) []
sides_are_alike law =
    law (commute_rule sum) (target_of adds) (at_index 0)
    (planned (of_body adds_in_turn) 1 1 (stays 1)) (commute_is_lawful sum) is_target
    (no_versions (target_of adds).unit) sides_change none_owed

pub version_is_kept : IsUnit (with_version (unit_of adds) (of_body adds_in_turn))
version_is_kept =
    proposals_are_kept (commute_rule sum) (target_of adds) (at_index 0)
    (planned (of_body adds_in_turn) 1 1 (stays 1)) is_target refl sides_change

pub statement_stays : ForwardsLaw
    → Forwards (move_of (edits_of (at_index 0) 1 1 (stays 1))) (of_body adds) (of_body adds_in_turn)
statement_stays law =
    law (commute_rule sum) (target_of adds) (at_index 0)
    (planned (of_body adds_in_turn) 1 1 (stays 1)) (commute_is_carrying sum) is_target sides_change

pub named_otherwise : proposed (rename_rule (103 ∷ [])) (target_of adds) []
    ≡ Got (planned (record (of_body adds) { name = 103 ∷ [] }) 0 0 [])
named_otherwise = refl

-- ---- passes, in a loop too

abbrev stores : Block → Block
stores rest = next (Assign 0 (Lit (pos 0) ∷ []) (Const (pos 3))) rest

abbrev loops : Block → Block
loops b = next (For (record { id = 2; name = 105 ∷ [] }) (Lit (pos 0)) (Lit (pos 4)) b) end

pub passes_go :
    proposed delete_pass_rule (target_of (next Pass (stores (loops (next Pass (next Pass end)))))) []
    ≡ Got (planned (of_body (stores (loops (next Pass end)))) 3 2
    (alone (at_index 1) (Some (at_index 0)) ∷ alone (at_index 2) (Some (at_index 1)) ∷ []))
passes_go = refl

-- one that is alone stays
pub last_stays : proposed delete_pass_rule (target_of (loops (next Pass end))) []
    ≡ Got (planned (of_body (loops (next Pass end))) 1 1
    (alone (at_index 0) (Some (at_index 0))
    ∷ alone (record { branch = Main; index = 0 } ∷ record { branch = Main; index = 0 } ∷ [])
    (Some (record { branch = Main; index = 0 } ∷ record { branch = Main; index = 0 } ∷ [])) ∷ []))
last_stays = refl
