-- `unroll_loop` on closed procedures. In these x, n, i and t have ids 0 to 3.
use Rattle.std.proofs.Common.{◌≡◌, ℕ, zero, suc, pos, false, List, [], ◌∷◌, Some, refl}
use Rattle.std.specs.Fmt.{digits}
use Rattle.std.proofs.Math.Nat.{not-suc-le-zero}
use Rattle.exo_tree.specs.Tree.{I32, Control, Lit, Var, Neg, Add, Sub, Mul, Const, Read, Assign}
use Rattle.exo_tree.specs.Tree.{Pass, For, Alloc, Block, end, next}
use Rattle.exo_meaning.specs.Run.{program_world, range}
use Rattle.exo_meaning.specs.Inputs.{Refines}
use Rattle.exo_meaning.specs.Units.{IsUnit}
use Rattle.cursor_forward.specs.Causes.{WrongShape, LimitPassed, Form, WideNumber}
use Rattle.cursor_forward.specs.Forwards.{Forwards}
use Rattle.cursor_forward.specs.Shifts as shifts
use Rattle.cursor_forward.specs.Shifts.{at_index, edits_of, move_of}
use Rattle.config_laws.proofs.Derived.{no_versions}
use Rattle.step_rules.specs.Rule.{Got, Not}
use Rattle.step_rules.specs.Owing.{AreShown}
use Rattle.step_rules.specs.Answer.{proposed}
use Rattle.step_rules.specs.Lawful.{IsTarget}
use Rattle.step_rules.specs.Laws.{MeaningLaw, ForwardsLaw}
use Rattle.loop_laws.specs.Shapes.{inside}
use Rattle.loop_laws.specs.UnrollLoop.{few_between, are_too_many, unroll_rule}
use Rattle.loop_laws.proofs.SmallUnits.{binder, of_body, unit_of, unit_is, target_of, planned}
use Rattle.loop_laws.proofs.UnrollLoop.{unroll_is_lawful, unroll_is_carrying}

-- for i in seq(lo, hi): b
abbrev pub loop : Control → Control → Block → Block
loop lo hi b = next (For (binder 2 105) lo hi b) end

-- x[e] = 0
abbrev pub stores : Control → Block → Block
stores e rest = next (Assign 0 (e ∷ []) (Const (pos 0))) rest

abbrev pub literal : ℕ → Control
literal n = Lit (pos n)

abbrev pub stores_between : Control → Control → Block
stores_between lo hi = loop lo hi (stores (Var 2) end)

-- ---- what is answered

-- `seq(3, 3)` gives `pass`
pub no_turn : proposed unroll_rule (target_of (stores_between (literal 3) (literal 3))) (at_index 0)
    ≡ Got (planned (next Pass end) (at_index 0) 1 1 [])
no_turn = refl

-- also where more follows
pub no_turn_before : proposed unroll_rule
    (target_of (next (For (binder 2 105) (literal 3) (literal 1) (next Pass end))
    (stores (literal 0) end))) (at_index 0)
    ≡ Got (planned (next Pass (stores (literal 0) end)) (at_index 0) 1 1 [])
no_turn_before = refl

abbrev into_first : List shifts.Shift
into_first = shifts.range (inside 1) 1 (Some (at_index 0)) ∷ []

pub two_turns :
    proposed unroll_rule (target_of (stores_between (literal 0) (literal 2))) (at_index 0)
    ≡ Got (planned (stores (literal 0) (stores (literal 1) end)) (at_index 0) 1 2 into_first)
two_turns = refl

-- the bounds are constants by their normal forms
abbrev two_more : Control
two_more = Add (Sub (Var 1) (Var 1)) (literal 2)

pub constant_bound : proposed unroll_rule (target_of (stores_between (literal 0) two_more)) (at_index 0)
    ≡ Got (planned (stores (literal 0) (stores (literal 1) end)) (at_index 0) 1 2 into_first)
constant_bound = refl

-- a negative number is the negation of a literal
pub negative_turn : proposed unroll_rule
    (target_of (loop (Neg (literal 1)) (literal 1) (stores (Add (Var 2) (literal 1)) end)))
    (at_index 0)
    ≡ Got (planned (stores (Add (Neg (literal 1)) (literal 1))
    (stores (Add (literal 0) (literal 1)) end)) (at_index 0) 1 2 into_first)
negative_turn = refl

-- t : i32, t = x[e]
abbrev loads : ℕ → List ℕ → Control → Block → Block
loads t name e rest =
    next (Alloc (record { id = t; name = name }) I32 [] 0)
    (next (Assign t [] (Read 0 (e ∷ []))) rest)

-- each copy has ids of its own, and the second one another name
pub names_of_copies :
    proposed unroll_rule
    (target_of (loop (literal 0) (literal 2) (loads 3 (116 ∷ []) (Var 2) end))) (at_index 0)
    ≡ Got (planned (loads 4 (116 ∷ []) (literal 0)
    (loads 5 (116 ∷ 95 ∷ 49 ∷ []) (literal 1) end)) (at_index 0) 1 4
    (shifts.range (inside 1) 2 (Some (at_index 0)) ∷ []))
unfolding digits
names_of_copies = refl

-- for j in seq(0, 4): x[j] = 0
abbrev inner : ℕ → Block → Block
inner j rest = next (For (binder j 106) (literal 0) (literal 4) (stores (Var j) end)) rest

-- loops have scopes of their own, so that both copies keep the name
pub loops_of_copies :
    proposed unroll_rule (target_of (loop (literal 0) (literal 2) (inner 3 end))) (at_index 0)
    ≡ Got (planned (inner 4 (inner 5 end)) (at_index 0) 1 2 into_first)
loops_of_copies = refl

-- ---- refusals

pub too_many_turns :
    proposed unroll_rule (target_of (stores_between (literal 0) (literal 257))) (at_index 0)
    ≡ Not LimitPassed
too_many_turns = refl

-- 257 statements in 256 turns are too many by themselves
abbrev passes : ℕ → Block
passes zero = end
passes (suc n) = next Pass (passes n)

pub too_many_statements :
    proposed unroll_rule (target_of (loop (literal 0) (literal 256) (passes 257))) (at_index 0)
    ≡ Not LimitPassed
too_many_statements = refl

-- of a body that leaves a name nothing is said by their number
pub names_before_limits : are_too_many (record {
  binder = binder 2 105;
  lo = literal 0;
  hi = literal 256;
  body = loads 3 (116 ∷ []) (Var 2) (passes 257);
}) (range (pos 0) 256) ≡ false
names_before_limits = refl

pub as_many_as_may_be : few_between (pos 0) (pos 256) ≡ Got (range (pos 0) 256)
as_many_as_may_be = refl

pub open_bound : proposed unroll_rule (target_of (stores_between (literal 0) (Var 1))) (at_index 0)
    ≡ Not WrongShape
open_bound = refl

pub no_loop : proposed unroll_rule (target_of (stores (literal 0) end)) (at_index 0)
    ≡ Not WrongShape
no_loop = refl

pub no_statement : proposed unroll_rule (target_of (stores (literal 0) end)) (at_index 1)
    ≡ Not WrongShape
no_statement = refl

abbrev greatest : Control
greatest = literal 2147483647

pub wide_bound :
    proposed unroll_rule
    (target_of (stores_between (literal 0) (Mul greatest (Mul greatest greatest)))) (at_index 0)
    ≡ Not (Form WideNumber)
wide_bound = refl

-- no literal is so great
pub great_number : proposed unroll_rule
    (target_of (stores_between (Add greatest (literal 1)) (Add greatest (literal 2)))) (at_index 0)
    ≡ Not LimitPassed
great_number = refl

-- but none is written where the variable is not used
pub great_but_unused :
    proposed unroll_rule
    (target_of (loop (Add greatest (literal 1)) (Add greatest (literal 2)) (stores (literal 0) end)))
    (at_index 0)
    ≡ Got (planned (stores (literal 0) end) (at_index 0) 1 1 into_first)
great_but_unused = refl

-- ---- the laws there

abbrev pub two : Block
two = stores_between (literal 0) (literal 2)

abbrev pub two_written : Block
two_written = stores (literal 0) (stores (literal 1) end)

pub is_unit : IsUnit (unit_of two)
is_unit =
    unit_is two
    (record {
      params = refl;
      asserts = refl;
      body = refl;
      filled = refl;
      ids = refl;
      distinct = refl;
      paths = refl;
      template = refl;
    })

pub is_target : IsTarget (target_of two)
is_target = record { unit = is_unit; there = refl; ids = refl }

pub none_owed : AreShown []
none_owed k d less = absurd (not-suc-le-zero less)

pub turns_are_alike :
    MeaningLaw → Refines (program_world (unit_of two)) (of_body two) (of_body two_written) []
turns_are_alike law =
    law unroll_rule (target_of two) (at_index 0) (planned two_written (at_index 0) 1 2 into_first)
    unroll_is_lawful is_target (no_versions (target_of two).unit) two_turns none_owed

pub statements_go_on :
    ForwardsLaw
    → Forwards (move_of (edits_of (at_index 0) 1 2 into_first)) (of_body two) (of_body two_written)
statements_go_on law =
    law unroll_rule (target_of two) (at_index 0)
    (planned two_written (at_index 0) 1 2 into_first) unroll_is_carrying is_target two_turns
