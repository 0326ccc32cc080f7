-- The rule that puts an allocation of a loop or branch before the loop or condition.
use Rattle.std.specs.Prelude.{ℕ, suc, List, [], ◌∷◌, length, Option, Some, None}
use Rattle.std.specs.Prelude.{option_map, option_and_then}
use Rattle.exo_tree.specs.Tree.{Statement, Assign, Reduce, Config, Pass, If, For, Alloc, View, Call}
use Rattle.exo_tree.specs.Tree.{Block, end, next, joined, statements}
use Rattle.exo_tree.specs.Places.{Branch, Main, Else, Path, parted}
use Rattle.cursor_forward.specs.Shifts.{Shift, at_index, alone, range}
use Rattle.buffer_laws.specs.Buffers.{Buffer, allocation, buffer_of}
use Rattle.step_rules.specs.Rule.{Rule, plain_rule}
use Rattle.step_rules.specs.Shapes.{tried, alone_in, one_statement}
use Rattle.tree_edits.specs.Made.Passes.{or_one_pass}

-- ---- what stands in what

-- the block of a loop or a branch, what stands round it with another block in its place, and the
-- other branch of a condition
pub record Inner : Type 0 where
  pub block : Block
  pub put : Block → Statement
  pub other : Option Block

abbrev pub inner_of : Branch → Statement → Option Inner
inner_of branch (Assign x is e) = None
inner_of branch (Reduce x is e) = None
inner_of branch (Config f a) = None
inner_of branch Pass = None
inner_of Main (If c a b) =
    Some (record { block = a; put = λ d. If c d b; other = Some b })
inner_of Else (If c a b) =
    Some (record { block = b; put = λ d. If c a d; other = Some a })
inner_of Main (For i lo hi b) = Some (record { block = b; put = λ d. For i lo hi d; other = None })
inner_of Else (For i lo hi b) = None
inner_of branch (Alloc x cell dims memory) = None
inner_of branch (View w x coords) = None
inner_of branch (Call k args) = None

-- an allocation with what stands before and behind it in such a block
pub record Lifting : Type 0 where
  pub inner : Inner
  pub before : Block
  pub buffer : Buffer
  pub behind : Block

abbrev pub lifting_at : Inner → Block → Block → Option Lifting
lifting_at i before end = None
lifting_at i before (next a behind) =
    option_map (λ x. record { inner = i; before = before; buffer = x; behind = behind })
    (buffer_of a)

-- behind the first so many statements of that branch
abbrev pub lifting_in : Branch → ℕ → Statement → Option Lifting
lifting_in branch k a =
    option_and_then (λ i.
    option_and_then (λ p. lifting_at i p.0 p.1) (parted k i.block)) (inner_of branch a)

abbrev pub lifting_of : Branch → ℕ → Block → Option Lifting
lifting_of branch k b = option_and_then (lifting_in branch k) (alone_in b)

-- ---- the result

abbrev pub lifted : Lifting → Block
lifted l =
    next (allocation l.buffer) (next (l.inner.put (or_one_pass (joined l.before l.behind))) end)

-- ---- where statements go

abbrev pub other_branch : Branch → Branch
other_branch Main = Else
other_branch Else = Main

-- a statement of a branch of a statement of the piece
abbrev pub within : ℕ → Branch → ℕ → Path
within n branch k = record { branch = Main; index = n } ∷ record { branch = branch; index = k } ∷ []

-- a loop has no other branch: a path into one leads nowhere
abbrev pub other_shifts : Branch → Option Block → List Shift
other_shifts branch None = []
other_shifts branch (Some b) =
    range (within 0 (other_branch branch) 0) (length (statements b))
    (Some (within 1 (other_branch branch) 0))
    ∷ []

-- the allocation goes before what stands round it, and all else stays in that
abbrev pub lifted_shifts : Branch → Lifting → List Shift
lifted_shifts branch l =
    let k = length (statements l.before) in
    alone (at_index 0) (Some (at_index 1))
    ∷ range (within 0 branch k) 1 (Some (at_index 0))
    ∷ range (within 0 branch 0) k (Some (within 1 branch 0))
    ∷ range (within 0 branch (suc k)) (length (statements l.behind)) (Some (within 1 branch k))
    ∷ other_shifts branch l.inner.other

abbrev pub shifts_of_lifting : Branch → Option Lifting → List Shift
shifts_of_lifting branch None = []
shifts_of_lifting branch (Some l) = lifted_shifts branch l

-- ---- the rule

-- at the loop or condition round the allocation, by the allocation's place in it
abbrev pub lift_rule : Branch → ℕ → Rule
lift_rule branch k =
    plain_rule (one_statement (lifting_of branch k))
    (λ s base. tried (lifting_of branch k s.opened.piece) lifted)
    (λ s. shifts_of_lifting branch (lifting_of branch k s.opened.piece))
