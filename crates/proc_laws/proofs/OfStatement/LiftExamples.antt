-- `lift_scope` on closed procedures.
use Rattle.std.proofs.Common.{◌≡◌, ℕ, pos, List, [], ◌∷◌, Some, refl}
use Rattle.std.specs.Prelude.{codes}
use Rattle.std.specs.Int.{int_wrap}
use Rattle.std.proofs.Math.Nat.{not-suc-le-zero}
use Rattle.exo_tree.specs.Tree.{Lt, True, FieldFlag, Condition, Var, ConditionArg, Config, Pass, If, Block}
use Rattle.exo_tree.specs.Tree.{end, next, joined}
use Rattle.exo_tree.specs.Places.{Main, Else, Path}
use Rattle.exo_meaning.specs.Value.{Number}
use Rattle.exo_meaning.specs.Run.{program_world}
use Rattle.exo_meaning.specs.Inputs.{Refines}
use Rattle.cursor_forward.specs.Causes.{WrongShape, ConfigWrite}
use Rattle.cursor_forward.specs.Forwards.{Forwards}
use Rattle.cursor_forward.specs.Proposals.{Plan}
use Rattle.cursor_forward.specs.Shifts.{Shift, at_index, range, move_of}
use Rattle.config_laws.proofs.Derived.{no_versions}
use Rattle.step_rules.specs.Answer.{proposed}
use Rattle.step_rules.specs.Lawful.{IsTarget}
use Rattle.step_rules.specs.Laws.{MeaningLaw, ForwardsLaw}
use Rattle.step_rules.specs.Owing.{AreShown}
use Rattle.step_rules.specs.Rule.{Tried, Got, Not}
use Rattle.loop_laws.specs.Shapes.{inside}
use Rattle.proc_laws.specs.Statement.LiftScope.{else_in_loop, loop_in_else, turned_round, lift_rule}
use Rattle.proc_laws.proofs.OfStatement.LiftScope.{lift_is_lawful, lift_is_carrying}
use Rattle.proc_laws.proofs.OfStatement.Small.{number, loop, stores, of_body, unit_of, target_of, target_is}
use Rattle.proc_laws.proofs.OfStatement.Small.{body_of, planned, leaves}

-- what stands in the first statement
abbrev on_inner : Block → Tried Plan
on_inner b = proposed lift_rule (target_of b) (inside 1)

abbrev fork : Condition → Block → Block → Block
fork c a b = next (If c a b) end

-- for i in seq(0, 16): b
abbrev turns : ℕ → Block → Block
turns n b = loop n (codes "i") (number 0) (number 16) b

abbrev flag : Condition
flag = FieldFlag 0

abbrev sets : ℕ → Block
sets n = stores (Var n) n

-- ---- what is answered

abbrev both : Block
both = turns 1 (fork flag (sets 1) (stores (number 0) 2))

-- the second loop is a copy
abbrev both_lifted : Block
both_lifted = fork flag (turns 1 (sets 1)) (turns 2 (stores (number 0) 2))

pub condition_goes_out : body_of (on_inner both) ≡ Some both_lifted
condition_goes_out = refl

pub missing_stays_missing : body_of (on_inner (turns 1 (fork flag (sets 1) end)))
    ≡ Some (fork flag (turns 1 (sets 1)) end)
missing_stays_missing = refl

abbrev test : Condition
test = Lt (number 0) (number 5)

pub conditions_change_places : body_of (on_inner (fork flag (fork test (stores (number 0) 2) end) end))
    ≡ Some (fork test (fork flag (stores (number 0) 2) end) end)
conditions_change_places = refl

pub loop_goes_out : body_of (on_inner (fork flag (turns 1 (sets 1)) end))
    ≡ Some (turns 1 (fork flag (sets 1) end))
loop_goes_out = refl

-- ---- refusals

pub not_alone : on_inner (turns 1 (joined (fork flag (sets 1) end) (sets 1))) ≡ Not WrongShape
not_alone = refl

pub by_variable : on_inner (turns 1 (fork (Lt (Var 1) (number 5)) (sets 1) end)) ≡ Not WrongShape
by_variable = refl

pub with_else_round_it : on_inner (fork flag (turns 1 (sets 1)) (stores (number 0) 2)) ≡ Not WrongShape
with_else_round_it = refl

pub with_else_in_it : on_inner (fork flag (fork test (stores (number 0) 2) (next Pass end)) end)
    ≡ Not WrongShape
with_else_in_it = refl

pub no_condition : on_inner (turns 1 (sets 1)) ≡ Not WrongShape
no_condition = refl

pub nothing_round_it : proposed lift_rule (target_of both) (at_index 0) ≡ Not WrongShape
nothing_round_it = refl

abbrev in_else : Path
in_else = record { branch = Main; index = 0 } ∷ record { branch = Else; index = 0 } ∷ []

pub not_there : proposed lift_rule (target_of (fork flag (turns 1 (sets 1)) end)) in_else
    ≡ Not WrongShape
not_there = refl

-- C.g = True
abbrev writes : Block
writes = next (Config 0 (ConditionArg True)) end

pub changes_its_condition : on_inner (turns 1 (fork flag writes end)) ≡ Not ConfigWrite
changes_its_condition = refl

pub changes_the_condition_round_it : on_inner (fork flag (turns 1 writes) end) ≡ Not ConfigWrite
changes_the_condition_round_it = refl

-- ---- the laws there

none_owed : AreShown []
none_owed k d less = absurd (not-suc-le-zero less)

abbrev moved : List Shift
moved = range else_in_loop 1 (Some loop_in_else) ∷ turned_round 1

abbrev plan : Plan
plan = planned both_lifted [] 1 1 moved

is_planned : on_inner both ≡ Got plan
is_planned = refl

is_target : IsTarget (target_of both)
is_target =
    target_is both (record {
      params = refl;
      asserts = refl;
      body = refl;
      filled = refl;
      ids = refl;
      distinct = refl;
      paths = refl;
      template = refl;
    })
    refl

pub lift_refines : MeaningLaw
    → Refines (program_world (unit_of both)) (of_body both) (of_body both_lifted) []
lift_refines law =
    law lift_rule (target_of both) (inside 1) plan lift_is_lawful is_target
    (no_versions (target_of both).unit) is_planned none_owed

pub lift_forwards : ForwardsLaw
    → Forwards (move_of plan.edits) (of_body both) (of_body both_lifted)
lift_forwards law =
    law lift_rule (target_of both) (inside 1) plan lift_is_carrying is_target is_planned

-- the loop is that of the first branch, and the condition stands where the loop stood
pub loop_goes_in : move_of plan.edits (at_index 0) ≡ Some (inside 1)
loop_goes_in = refl

pub fork_goes_out : move_of plan.edits (inside 1) ≡ Some (at_index 0)
fork_goes_out = refl

pub other_goes_along : move_of plan.edits else_in_loop ≡ Some loop_in_else
other_goes_along = refl

-- ---- runs

pub cell_before : leaves both 0 ≡ Some (Number (pos 2))
unfolding int_wrap
cell_before = refl

pub cell_after : leaves both_lifted 0 ≡ Some (Number (pos 2))
unfolding int_wrap
cell_after = refl
