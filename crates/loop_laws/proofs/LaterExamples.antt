-- `mult_loops` and `shift_loop` on closed procedures. In these x, n, i and j have ids 0 to 3.
use Rattle.std.proofs.Common.{◌≡◌, ℕ, pos, List, [], ◌∷◌, map, Option, Some, None, refl}
use Rattle.std.specs.Fmt.{digits}
use Rattle.std.specs.Prelude.{codes}
use Rattle.exo_tree.specs.Tree.{Control, Lit, Var, Add, Sub, Mul, Div, Mod, Const, Assign, For, Block}
use Rattle.exo_tree.specs.Tree.{end, next}
use Rattle.exo_meaning.specs.Run.{program_world}
use Rattle.exo_meaning.specs.Inputs.{Refines}
use Rattle.exo_meaning.specs.Units.{IsUnit}
use Rattle.cursor_forward.specs.Causes.{WrongShape, OutOfScope, NameTaken}
use Rattle.cursor_forward.specs.Forwards.{Forwards}
use Rattle.cursor_forward.specs.Proposals.{Plan}
use Rattle.cursor_forward.specs.Shifts.{Shift, at_index, alone, range, edits_of, move_of}
use Rattle.config_laws.proofs.Derived.{no_versions}
use Rattle.step_rules.specs.Rule.{Tried, Got, Not, Rule}
use Rattle.step_rules.specs.Answer.{proposed}
use Rattle.step_rules.specs.Lawful.{IsTarget}
use Rattle.step_rules.specs.Laws.{MeaningLaw, ForwardsLaw}
use Rattle.loop_laws.specs.Shapes.{inside}
use Rattle.loop_laws.specs.MultLoops.{mult_rule}
use Rattle.loop_laws.specs.ShiftLoop.{shift_rule}
use Rattle.loop_laws.proofs.MultLoops.{mult_is_lawful, mult_is_carrying}
use Rattle.loop_laws.proofs.SmallUnits.{of_body, unit_of, unit_is, target_of, planned}
use Rattle.loop_laws.proofs.UnrollExamples.{none_owed}

abbrev number : ℕ → Control
number n = Lit (pos n)

abbrev loop : ℕ → List ℕ → Control → Control → Block → Block
loop n name lo hi b = next (For (record { id = n; name = name }) lo hi b) end

-- x[e] = 0
abbrev stores : Control → Block
stores e = next (Assign 0 (e ∷ []) (Const (pos 0))) end

abbrev on_first : Rule → Block → Tried Plan
on_first r b = proposed r (target_of b) (at_index 0)

abbrev body_of : Tried Plan → Option Block
body_of (Got m) = Some m.proc.body
body_of (Not cause) = None

abbrev texts_of : Tried Plan → List (List ℕ)
texts_of (Got m) = map (λ o. o.what) m.must
texts_of (Not cause) = []

-- ---- two loops as one

-- for i in seq(0, n): for j in seq(0, c): x[4 * i + j] = 0
abbrev nest : Control → Block
nest c =
    loop 2 (codes "i") (number 0) (Var 1)
    (loop 3 (codes "j") (number 0) c (stores (Add (Mul (number 4) (Var 2)) (Var 3))))

pub as_one : body_of (on_first (mult_rule (codes "k")) (nest (number 4)))
    ≡ Some (loop 4 (codes "k") (number 0) (Mul (Var 1) (number 4))
    (stores (Add (Mul (number 4) (Div (Var 4) (pos 4))) (Mod (Var 4) (pos 4)))))
as_one = refl

pub no_literal : on_first (mult_rule (codes "k")) (nest (Add (number 2) (number 2))) ≡ Not WrongShape
no_literal = refl

pub no_turn : on_first (mult_rule (codes "k")) (nest (number 0)) ≡ Not WrongShape
no_turn = refl

pub taken : on_first (mult_rule (codes "n")) (nest (number 4)) ≡ Not NameTaken
taken = refl

-- ---- the laws there

abbrev four : Block
four = nest (number 4)

abbrev as_one_loop : Block
as_one_loop =
    loop 4 (codes "k") (number 0) (Mul (Var 1) (number 4))
    (stores (Add (Mul (number 4) (Div (Var 4) (pos 4))) (Mod (Var 4) (pos 4))))

four_is_unit : IsUnit (unit_of four)
four_is_unit =
    unit_is four
    (record {
      params = refl;
      asserts = refl;
      body = refl;
      filled = refl;
      ids = refl;
      distinct = refl;
      paths = refl;
      template = refl;
    })

four_is_target : IsTarget (target_of four)
four_is_target = record { unit = four_is_unit; there = refl; ids = refl }

abbrev moved : List Shift
moved =
    alone (at_index 0) (Some (at_index 0)) ∷ range (inside 2) 1 (Some (inside 1)) ∷ []

four_planned : on_first (mult_rule (codes "k")) four
    ≡ Got (planned as_one_loop (at_index 0) 1 1 moved)
four_planned = refl

pub mult_refines :
    MeaningLaw → Refines (program_world (unit_of four)) (of_body four) (of_body as_one_loop) []
mult_refines law =
    law (mult_rule (codes "k")) (target_of four) (at_index 0)
    (planned as_one_loop (at_index 0) 1 1 moved) (mult_is_lawful (codes "k")) four_is_target
    (no_versions (target_of four).unit) four_planned none_owed

pub mult_forwards : ForwardsLaw
    → Forwards (move_of (edits_of (at_index 0) 1 1 moved)) (of_body four) (of_body as_one_loop)
mult_forwards law =
    law (mult_rule (codes "k")) (target_of four) (at_index 0)
    (planned as_one_loop (at_index 0) 1 1 moved) (mult_is_carrying (codes "k")) four_is_target
    four_planned

-- the inner loop is gone
pub inner_is_gone : move_of (edits_of (at_index 0) 1 1 moved) (inside 1) ≡ None
inner_is_gone = refl

-- ---- a loop from another number on

-- for i in seq(1, 4): x[i] = 0
abbrev from_one : Block
from_one = loop 2 (codes "i") (number 1) (number 4) (stores (Var 2))

pub from_two : body_of (on_first (shift_rule (number 2)) from_one)
    ≡ Some (loop 2 (codes "i") (number 2) (Sub (Add (number 4) (number 2)) (number 1))
    (stores (Sub (Add (Var 2) (number 1)) (number 2))))
from_two = refl

pub from_two_needs : texts_of (on_first (shift_rule (number 2)) from_one) ≡ codes "0 <= 2" ∷ []
unfolding digits
from_two_needs = refl

pub from_own : on_first (shift_rule (Var 2)) from_one ≡ Not OutOfScope
from_own = refl
