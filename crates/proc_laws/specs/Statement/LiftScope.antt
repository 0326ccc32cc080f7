-- The rule by which a condition or a loop that is all of what stands round it goes outside of it.
use Rattle.std.specs.Prelude.{ℕ, ◌==◌, Bool, false, ◌&&◌, if◌then◌else◌, List, [], ◌∷◌}
use Rattle.std.specs.Prelude.{◌++◌, length, Option, Some, None, option_map, option_and_then}
use Rattle.exo_tree.specs.Tree.{Condition, Statement, Config, If, For, Block, end, next, statements}
use Rattle.exo_tree.specs.Places.{Main, Else, Path, same_branch}
use Rattle.exo_tree.specs.Renaming.{fresh}
use Rattle.exo_meaning.specs.Unseen.{in_condition}
use Rattle.meaning_laws.specs.Fields.{writes_field}
use Rattle.meaning_laws.specs.Live.{read_by_condition}
use Rattle.meaning_laws.specs.UnitFields.{unit_writes}
use Rattle.place_laws.specs.Scope.BranchesAtPlaces.{only_branch}
use Rattle.place_laws.specs.Scope.UnrollLoop.{only_loop}
use Rattle.cursor_forward.specs.Causes.{Cause, WrongShape, ConfigWrite}
use Rattle.cursor_forward.specs.Cursors.{owner}
use Rattle.cursor_forward.specs.Shifts.{Shift, at_index, alone, range}
use Rattle.place_laws.specs.Order.TurnsOfTwo.{Loop}
use Rattle.step_rules.specs.Rule.{Tried, Not, Target, Piece, Spot, Rule, plain_rule}
use Rattle.step_rules.specs.Shapes.{tried, alone_in, one_statement}
use Rattle.loop_laws.specs.Shapes.{inside}
use Rattle.proc_laws.specs.Statement.DeadCode.{Fork, fork_in, in_branch}
use Rattle.proc_laws.specs.Statement.Fields.{some_field}

-- ---- what stands in what

-- what goes outside, and what it leaves
pub data Lifting : Type 0 where
  -- a condition, out of a loop
  OutOfLoop : Loop → Fork → Lifting
  -- a condition without `else`, out of such a condition
  OutOfBranch : Condition → Fork → Lifting
  -- a loop, out of a condition without `else`
  LoopOut : Condition → Loop → Lifting

-- a condition that lacks the variable, in a loop
abbrev pub out_of_loop : Loop → Fork → Option Lifting
out_of_loop l k =
    if in_condition (λ x. x == l.binder.id) k.test then None else Some (OutOfLoop l k)

abbrev pub fork_in_loop : Loop → Statement → Option Lifting
fork_in_loop l a = option_and_then (out_of_loop l) (fork_in a)

abbrev pub one_branch : Condition → Block → Block → Option Fork
one_branch c a end = Some (record { test = c; main = a; other = end })
one_branch c a (next d b) = None

-- a loop, or a condition without `else`, in a branch
abbrev pub in_only_branch : Condition → Statement → Option Lifting
in_only_branch c (If d a b) = option_map (OutOfBranch c) (one_branch d a b)
in_only_branch c (For i lo hi b) =
    Some (LoopOut c (record { binder = i; lo = lo; hi = hi; body = b }))
in_only_branch c _ = None

abbrev pub lifting_in : Statement → Option Lifting
lifting_in (If c a b) =
    option_and_then (λ k. option_and_then (in_only_branch c) (alone_in k.main)) (one_branch c a b)
lifting_in (For i lo hi b) =
    option_and_then (fork_in_loop (record { binder = i; lo = lo; hi = hi; body = b })) (alone_in b)
lifting_in _ = None

-- of a block that is one statement
abbrev pub lifting_of : Block → Option Lifting
lifting_of b = option_and_then lifting_in (alone_in b)

-- ---- the result

abbrev pub over : Loop → Block → Block
over l b = only_loop l.binder l.lo l.hi b

-- the loop over the other branch, as a copy; a branch that is missing stays missing
abbrev pub over_other : Loop → Block → ℕ → Block
over_other l end base = end
over_other l (next a b) base = fresh base (over l (next a b))

abbrev pub lifted : Lifting → ℕ → Block
lifted (OutOfLoop l k) base =
    only_branch k.test (over l k.main) (over_other l k.other base)
lifted (OutOfBranch c k) base = only_branch k.test (only_branch c k.main end) end
lifted (LoopOut c l) base = over l (only_branch c l.body end)

-- ---- refusals

-- the body of a loop writes a field that the condition reads
abbrev pub writes_read : Spot → Condition → Block → Bool
writes_read s c b =
    let unit = s.target.unit in
    some_field unit.fields
    (λ f. read_by_condition f c && writes_field (unit_writes unit.procedures) f b)

abbrev pub changes_condition : Spot → Lifting → Bool
changes_condition s (OutOfLoop l k) = writes_read s k.test (only_branch k.test k.main k.other)
changes_condition s (OutOfBranch c k) = false
changes_condition s (LoopOut c l) = writes_read s c l.body

abbrev pub lift_refusal : Spot → Option Lifting → Option Cause
lift_refusal s None = None
lift_refusal s (Some x) = if changes_condition s x then Some ConfigWrite else None

-- ---- where statements go

-- the two change places, and what stands in the inner one stays there
abbrev pub turned_round : ℕ → List Shift
turned_round count =
    alone (at_index 0) (Some (inside 1))
    ∷ alone (inside 1) (Some (at_index 0))
    ∷ range (inside 2) count (Some (inside 2))
    ∷ []

-- the first statement of the branch after `else` of a condition that is all of a loop
abbrev pub else_in_loop : Path
else_in_loop = record { branch = Main; index = 0 } ∷ in_branch Else

-- the first statement of a loop that is all of the branch after `else`
abbrev pub loop_in_else : Path
loop_in_else =
    record { branch = Main; index = 0 }
    ∷ record { branch = Else; index = 0 }
    ∷ record { branch = Main; index = 0 }
    ∷ []

abbrev pub else_shifts : Block → List Shift
else_shifts end = []
else_shifts (next a b) =
    range else_in_loop (length (statements (next a b))) (Some loop_in_else) ∷ []

abbrev pub lift_shifts : Lifting → List Shift
lift_shifts (OutOfLoop l k) =
    else_shifts k.other ++ turned_round (length (statements k.main))
lift_shifts (OutOfBranch c k) = turned_round (length (statements k.main))
lift_shifts (LoopOut c l) = turned_round (length (statements l.body))

abbrev pub shifts_of_lifting : Option Lifting → List Shift
shifts_of_lifting None = []
shifts_of_lifting (Some x) = lift_shifts x

-- ---- the rule

-- the path to the first statement of a block
abbrev pub is_first : Path → Bool
is_first [] = false
is_first (s ∷ []) = same_branch s.branch Main && (s.index == 0)
is_first (s ∷ t ∷ path) = is_first (t ∷ path)

-- what stands round the statement at the path
abbrev pub round_first : Path → Option Path
round_first at = if is_first at then owner at else None

abbrev pub piece_round : Target → Option Path → Tried Piece
piece_round t None = Not WrongShape
piece_round t (Some outer) = one_statement lifting_of t outer

abbrev pub round_statement : Target → Path → Tried Piece
round_statement t at = piece_round t (round_first at)

abbrev pub lift_rule : Rule
lift_rule = record (plain_rule round_statement
    (λ s base. tried (lifting_of s.opened.piece) (λ x. lifted x base))
    (λ s. shifts_of_lifting (lifting_of s.opened.piece))) {
      refusal = λ s. lift_refusal s (lifting_of s.opened.piece);
    }
