-- The rules that take away what is never run: the branch of a condition that is never taken, and a
-- loop that has no turn.
use Rattle.std.specs.Prelude.{List, [], ◌∷◌, length, Option, Some, None, option_and_then}
use Rattle.exo_tree.specs.Tree.{Condition, Le, Statement, Pass, If, Block, end, next, statements}
use Rattle.exo_tree.specs.Places.{Branch, Main, Else, Path}
use Rattle.meaning_laws.specs.Facts.{Fact, Holds, Fails}
use Rattle.cursor_forward.specs.Shifts.{Shift, at_index, range}
use Rattle.place_laws.specs.Order.TurnsOfTwo.{Loop}
use Rattle.step_rules.specs.Rule.{Need, Says, Rule, plain_rule}
use Rattle.step_rules.specs.Shapes.{tried, alone_in, one_statement}
use Rattle.loop_laws.specs.Shapes.{loop_of, listed, loop_rule}
use Rattle.tree_edits.specs.Made.Passes.{or_one_pass}

-- ---- a condition

-- a condition with its branches
pub record Fork : Type 0 where
  pub test : Condition
  pub main : Block
  pub other : Block

abbrev pub fork_in : Statement → Option Fork
fork_in (If c a b) = Some (record { test = c; main = a; other = b })
fork_in _ = None

-- a condition that is all of a block
abbrev pub fork_of : Block → Option Fork
fork_of b = option_and_then fork_in (alone_in b)

abbrev pub branch_at : Branch → Fork → Block
branch_at Main k = k.main
branch_at Else k = k.other

-- that the branch is taken
abbrev pub taken : Branch → Condition → Fact
taken Main c = Holds c
taken Else c = Fails c

abbrev pub kept_needs : Branch → Path → Fork → List Need
kept_needs keep at k = Says at (taken keep k.test) ∷ []

-- a `pass` for a branch that is missing

abbrev pub kept : Branch → Fork → Block
kept keep k = or_one_pass (branch_at keep k)

-- the first statement of a branch of the first statement
abbrev pub in_branch : Branch → Path
in_branch keep =
    record { branch = Main; index = 0 } ∷ record { branch = keep; index = 0 } ∷ []

-- the statements of the branch stand where the condition stood
abbrev pub out_of_branch : Branch → Fork → List Shift
out_of_branch keep k =
    range (in_branch keep) (length (statements (branch_at keep k))) (Some (at_index 0)) ∷ []

-- what is listed of the condition
abbrev pub of_fork : {T : Type 0} → (Fork → List T) → Option Fork → List T
of_fork list None = []
of_fork list (Some k) = list k

-- the branch that is always taken stands for the condition
abbrev pub keep_rule : Branch → Rule
keep_rule keep = record (plain_rule (one_statement fork_of)
    (λ s base. tried (fork_of s.opened.piece) (kept keep))
    (λ s. of_fork (out_of_branch keep) (fork_of s.opened.piece))) {
      needs = λ s. of_fork (kept_needs keep s.piece.path) (fork_of s.opened.piece);
    }

-- ---- a loop

-- it has no turn
abbrev pub no_turn_needs : Path → Loop → List Need
no_turn_needs at l = Says at (Holds (Le l.hi l.lo)) ∷ []

-- a `pass` stands for a loop that has no turn
abbrev pub empty_loop_rule : Rule
empty_loop_rule = record (loop_rule loop_of (λ l base. next Pass end) (λ l. [])) {
  needs = λ s. listed loop_of (no_turn_needs s.piece.path) s;
}
