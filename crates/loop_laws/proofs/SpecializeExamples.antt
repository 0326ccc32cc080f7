-- `specialize` on closed procedures. In these x, n, i and t have ids 0 to 3.
use Rattle.std.proofs.Common.{◌≡◌, ℕ, pos, List, [], ◌∷◌, Some, None, refl}
use Rattle.exo_tree.specs.Tree.{I32, Control, Lit, Var, StrideOf, Mul, Condition, Lt, Const, Assign, If}
use Rattle.exo_tree.specs.Tree.{For, Alloc, Block, end, next}
use Rattle.exo_meaning.specs.Run.{program_world}
use Rattle.exo_meaning.specs.Inputs.{Refines}
use Rattle.cursor_forward.specs.Causes.{WrongShape, OutOfScope}
use Rattle.cursor_forward.specs.Forwards.{Forwards}
use Rattle.cursor_forward.specs.Shifts as shifts
use Rattle.cursor_forward.specs.Shifts.{Move, at_index, edits_of, move_of}
use Rattle.config_laws.proofs.Derived.{no_versions}
use Rattle.step_rules.specs.Rule.{Got, Not}
use Rattle.step_rules.specs.Answer.{proposed}
use Rattle.step_rules.specs.Laws.{MeaningLaw, ForwardsLaw}
use Rattle.loop_laws.specs.Shapes.{inside}
use Rattle.loop_laws.specs.Specialize.{into_branch, specialize_rule}
use Rattle.loop_laws.specs.UnrollLoop.{unroll_rule}
use Rattle.loop_laws.proofs.SmallUnits.{binder, of_body, unit_of, target_of, planned}
use Rattle.loop_laws.proofs.Specialize.{specialize_is_lawful, specialize_is_carrying}
use Rattle.loop_laws.proofs.UnrollExamples.{is_target, none_owed, two}

-- for i in seq(0, n): b
abbrev loop : ℕ → Block → Block
loop n b = next (For (binder 2 105) (Lit (pos 0)) (Lit (pos n)) b) end

-- x[e] = 1
abbrev stores : Control → Block → Block
stores e rest = next (Assign 0 (e ∷ []) (Const (pos 1))) rest

-- i < n
abbrev below : ℕ → Condition
below n = Lt (Var 2) (Lit (pos n))

-- ---- what is answered

abbrev z : Block
z = loop 8 (stores (Var 2) end)

-- in the loop `if i < 4:` `x[i] = 1` `else:` `x[i] = 1`
pub one_statement : proposed (specialize_rule 1 (below 4)) (target_of z) (inside 1)
    ≡ Got (planned (loop 8 (next (If (below 4) (stores (Var 2) end) (stores (Var 2) end)) end))
    (inside 1) 1 1 (into_branch 1))
one_statement = refl

-- t : i32, t = 1
abbrev fills : ℕ → Block → Block
fills t rest = next (Alloc (binder t 116) I32 [] 0) (next (Assign t [] (Const (pos 1))) rest)

-- what is bound in the block keeps its name in either branch, and has another id in the second
pub whole_block : proposed (specialize_rule 2 (Lt (Var 1) (Lit (pos 4)))) (target_of (fills 3 end))
    (at_index 0)
    ≡ Got (planned (next (If (Lt (Var 1) (Lit (pos 4))) (fills 3 end) (fills 4 end)) end)
    (at_index 0) 2 1 (into_branch 2))
whole_block = refl

-- ---- refusals

pub used_after :
    proposed (specialize_rule 1 (Lt (Var 1) (Lit (pos 4)))) (target_of (fills 3 end)) (at_index 0)
    ≡ Not WrongShape
used_after = refl

pub with_stride : proposed (specialize_rule 1 (Lt (StrideOf 0 0) (Lit (pos 4)))) (target_of z) (inside 1)
    ≡ Not WrongShape
with_stride = refl

pub out_of_scope : proposed (specialize_rule 1 (below 4)) (target_of z) (at_index 0) ≡ Not OutOfScope
out_of_scope = refl

pub too_many_statements : proposed (specialize_rule 2 (below 4)) (target_of z) (inside 1)
    ≡ Not WrongShape
too_many_statements = refl

pub no_statements : proposed (specialize_rule 0 (below 4)) (target_of z) (inside 1) ≡ Not WrongShape
no_statements = refl

-- ---- cursors, in a loop that is unrolled behind it

-- for i in seq(0, 4): x[2 * i] = 1
abbrev half : Block
half = loop 4 (stores (Mul (Lit (pos 2)) (Var 2)) end)

abbrev parted : Control → Block → Block
parted i rest =
    let there = stores (Mul (Lit (pos 2)) i) end in
    next (If (Lt i (Lit (pos 2))) there there) rest

abbrev number : ℕ → Control
number n = Lit (pos n)

pub half_is_parted : proposed (specialize_rule 1 (below 2)) (target_of half) (inside 1)
    ≡ Got (planned (loop 4 (parted (Var 2) end)) (inside 1) 1 1 (into_branch 1))
half_is_parted = refl

abbrev into_first : List shifts.Shift
into_first = shifts.range (inside 1) 1 (Some (at_index 0)) ∷ []

pub then_unrolled : proposed unroll_rule (target_of (loop 4 (parted (Var 2) end))) (at_index 0)
    ≡ Got (planned (parted (number 0) (parted (number 1) (parted (number 2) (parted (number 3)
    end)))) (at_index 0) 1 4 into_first)
then_unrolled = refl

abbrev first_move : Move
first_move = move_of (edits_of (inside 1) 1 1 (into_branch 1))

abbrev second_move : Move
second_move = move_of (edits_of (at_index 0) 1 4 into_first)

-- the store goes into the branch, and with it to the first copy
pub store_goes : first_move (inside 1) ≡ Some (inside 2)
store_goes = refl

pub store_goes_on : second_move (inside 2) ≡ Some (inside 1)
store_goes_on = refl

-- the loop stays, and then is gone
pub loop_stays : first_move (at_index 0) ≡ Some (at_index 0)
loop_stays = refl

pub loop_is_gone : second_move (at_index 0) ≡ None
loop_is_gone = refl

-- ---- the laws there

abbrev test : Condition
test = Lt (Var 1) (Lit (pos 4))

abbrev either : Block
either = next (If test two (next (For (binder 3 105) (Lit (pos 0)) (Lit (pos 2))
    (next (Assign 0 (Var 3 ∷ []) (Const (pos 0))) end)) end)) end

pub loop_in_branches : proposed (specialize_rule 1 test) (target_of two) (at_index 0)
    ≡ Got (planned either (at_index 0) 1 1 (into_branch 1))
loop_in_branches = refl

pub branches_are_alike :
    MeaningLaw → Refines (program_world (unit_of two)) (of_body two) (of_body either) []
branches_are_alike law =
    law (specialize_rule 1 test) (target_of two) (at_index 0)
    (planned either (at_index 0) 1 1 (into_branch 1)) (specialize_is_lawful 1 test) is_target
    (no_versions (target_of two).unit) loop_in_branches none_owed

pub statements_go_in :
    ForwardsLaw
    → Forwards (move_of (edits_of (at_index 0) 1 1 (into_branch 1))) (of_body two) (of_body either)
statements_go_in law =
    law (specialize_rule 1 test) (target_of two) (at_index 0)
    (planned either (at_index 0) 1 1 (into_branch 1)) (specialize_is_carrying 1 test) is_target
    loop_in_branches
