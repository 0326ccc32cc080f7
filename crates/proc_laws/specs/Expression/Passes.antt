-- The rule that deletes each `pass` that is not alone in its block.
use Rattle.std.specs.Prelude.{ℕ, zero, suc, Bool, true, false, if◌then◌else◌, List, [], ◌∷◌, ◌++◌, length, Some}
use Rattle.exo_tree.specs.Tree.{Statement, Assign, Reduce, Config, Pass, If, For, Alloc, View, Call}
use Rattle.exo_tree.specs.Tree.{Block, end, next, statements}
use Rattle.exo_tree.specs.Places.{Branch, Main, Else, Path}
use Rattle.cursor_forward.specs.Shifts.{Shift, at_index, alone}
use Rattle.step_rules.specs.Rule.{Got, Rule, plain_rule}
use Rattle.tree_edits.specs.Made.Passes.{or_one_pass}

abbrev mutual
  -- the statements that are no passes
  pub without : Block → Block
  without end = end
  without (next a b) = before a (without b)

  -- a statement, unless it is a `pass`, with the passes of its blocks deleted
  pub before : Statement → Block → Block
  before (Assign x is e) rest = next (Assign x is e) rest
  before (Reduce x is e) rest = next (Reduce x is e) rest
  before (Config f a) rest = next (Config f a) rest
  before Pass rest = rest
  before (If c a b) rest = next (If c (cleared a) (cleared b)) rest
  before (For i lo hi b) rest = next (For i lo hi (cleared b)) rest
  before (Alloc x cell dims memory) rest = next (Alloc x cell dims memory) rest
  before (View w x coords) rest = next (View w x coords) rest
  before (Call k args) rest = next (Call k args) rest

  -- a block with its passes deleted; a missing branch stays missing
  pub cleared : Block → Block
  cleared end = end
  cleared (next a b) = or_one_pass (before a (without b))

-- ---- where statements go

abbrev pub down : Path → Branch → ℕ → Path
down path branch k = path ++ record { branch = branch; index = k } ∷ []

-- the number of the next statement in the new block
abbrev pub behind : Statement → ℕ → ℕ
behind Pass j = j
behind a j = suc j

abbrev pub is_one_pass : Block → Bool
is_one_pass (next Pass end) = true
is_one_pass b = false

-- from, to: where the statement that holds the block was and is, in the piece
abbrev mutual
  -- of the statements of a block from number i on, which become those from number j on
  pub shifted : Path → Path → Branch → ℕ → ℕ → Block → List Shift
  shifted from to branch i j end = []
  shifted from to branch i j (next a b) =
      shifted_statement (down from branch i) (down to branch j) a
      ++ shifted from to branch (suc i) (behind a j) b

  pub shifted_statement : Path → Path → Statement → List Shift
  shifted_statement from to Pass = []
  shifted_statement from to (If c a b) =
      alone from (Some to) ∷ shifted_block from to Main a ++ shifted_block from to Else b
  shifted_statement from to (For i lo hi b) = alone from (Some to) ∷ shifted_block from to Main b
  shifted_statement from to (Assign x is e) = alone from (Some to) ∷ []
  shifted_statement from to (Reduce x is e) = alone from (Some to) ∷ []
  shifted_statement from to (Config f a) = alone from (Some to) ∷ []
  shifted_statement from to (Alloc x cell dims memory) = alone from (Some to) ∷ []
  shifted_statement from to (View w x coords) = alone from (Some to) ∷ []
  shifted_statement from to (Call k args) = alone from (Some to) ∷ []

  -- a `pass` that is alone stays
  pub shifted_block : Path → Path → Branch → Block → List Shift
  shifted_block from to branch end = []
  shifted_block from to branch (next a b) =
      if is_one_pass (next a b)
      then alone (down from branch zero) (Some (down to branch zero)) ∷ []
      else shifted_statement (down from branch zero) (down to branch zero) a
      ++ shifted from to branch 1 (behind a zero) b

abbrev pub delete_pass_rule : Rule
delete_pass_rule =
    plain_rule (λ t at. Got (record { path = at_index 0; count = length (statements t.proc.body) }))
    (λ s base. Got (cleared s.opened.piece))
    (λ s. shifted_block [] [] Main s.opened.piece)
