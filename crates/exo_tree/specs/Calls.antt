-- Which procedures a block calls, and what a call passes.
use Rattle.std.specs.Prelude.{ℕ, Bool, false, ◌==◌, ◌||◌, List, []}
use Rattle.exo_tree.specs.Tree.{Argument, Statement, Assign, Reduce, Config, Pass, If, For, Alloc, View, Call, Block, end, next}

-- what a statement passes, where it is a call
abbrev pub passed_by : Statement → List Argument
passed_by (Call k args) = args
passed_by _ = []

-- of the statement with which a block begins
abbrev pub call_arguments : Block → List Argument
call_arguments end = []
call_arguments (next a b) = passed_by a

abbrev mutual
  -- whether a block calls the procedure of that number
  pub calls : ℕ → Block → Bool
  calls k end = false
  calls k (next a b) = is_call_of k a || calls k b

  -- whether a statement or one below it does
  pub is_call_of : ℕ → Statement → Bool
  is_call_of k (Assign x is e) = false
  is_call_of k (Reduce x is e) = false
  is_call_of k (Config f a) = false
  is_call_of k Pass = false
  is_call_of k (If c a b) = calls k a || calls k b
  is_call_of k (For i lo hi b) = calls k b
  is_call_of k (Alloc x cell dims memory) = false
  is_call_of k (View w x coords) = false
  is_call_of k (Call callee args) = k == callee
