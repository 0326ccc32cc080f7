-- Places of statements: a path leads to a context with a hole and to the statements that stand
-- there.
use Rattle.std.specs.Prelude.{ℕ, zero, suc, Bool, true, false, ◌==◌, ◌&&◌, List, [], ◌∷◌, ◌++◌}
use Rattle.std.specs.Prelude.{Option, Some, None, option_map, option_and_then}
use Rattle.exo_tree.specs.Tree.{Statement, If, For, Block, end, next}
use Rattle.exo_tree.specs.Context.{Context, Here, After, InLoop, InThen, InElse, fill}

-- the body of a loop or the first branch of a condition, or the branch after `else`
pub data Branch : Type 0 where
  Main Else : Branch

-- into a branch, to the statement of that number in it; the first step of a path is into the
-- procedure's body, by Main
pub record Step : Type 0 where
  pub branch : Branch
  pub index : ℕ

abbrev pub Path : Type 0
Path = List Step

-- the path of a statement in a branch of the one at a path
abbrev pub path_below : Path → Branch → ℕ → Path
path_below path branch n = path ++ record { branch = branch; index = n } ∷ []

abbrev pub same_branch : Branch → Branch → Bool
same_branch Main Main = true
same_branch Else Else = true
same_branch Main Else = false
same_branch Else Main = false

abbrev pub same_step : Step → Step → Bool
same_step s t = same_branch s.branch t.branch && (s.index == t.index)

abbrev pub same_path : Path → Path → Bool
same_path [] [] = true
same_path [] (t ∷ q) = false
same_path (s ∷ p) [] = false
same_path (s ∷ p) (t ∷ q) = same_step s t && same_path p q

-- so many statements from a path on
pub record Piece : Type 0 where
  pub path : Path
  pub count : ℕ

-- some statements of a block, and what is round them
pub record Opened : Type 0 where
  pub around : Context
  pub piece : Block

-- the first so many statements, and the rest
abbrev pub parted : ℕ → Block → Option (Block × Block)
parted zero b = Some (end, b)
parted (suc n) end = None
parted (suc n) (next a b) = option_map (λ p. (next a p.0, p.1)) (parted n b)

-- opens a block behind its first so many statements
abbrev pub past : ℕ → (Block → Option Opened) → Block → Option Opened
past zero f b = f b
past (suc k) f end = None
past (suc k) f (next a b) =
    option_map (λ o. record { around = After a o.around; piece = o.piece }) (past k f b)

-- opens a branch of the first statement
abbrev pub into : Branch → (Block → Option Opened) → Block → Option Opened
into Main f (next (For i lo hi b) rest) =
    option_map (λ o. record { around = InLoop i lo hi o.around rest; piece = o.piece }) (f b)
into Main f (next (If c a b) rest) =
    option_map (λ o. record { around = InThen c o.around b rest; piece = o.piece }) (f a)
into Else f (next (If c a b) rest) =
    option_map (λ o. record { around = InElse c a o.around rest; piece = o.piece }) (f b)
into branch f b = None

-- so many statements from that path on; the branch of the first step is the caller's to look at
abbrev pub opened_in : ℕ → Path → Block → Option Opened
opened_in count [] b = None
opened_in count (s ∷ []) b =
    past s.index
    (λ c. option_map (λ p. record { around = Here p.1; piece = p.0 }) (parted count c)) b
opened_in count (s ∷ t ∷ path) b = past s.index (into t.branch (opened_in count (t ∷ path))) b

-- a procedure has its body alone
abbrev pub from_body : {A : Type 0} → Path → Option A → Option A
from_body [] found = None
from_body (s ∷ path) found = elim s.branch [ Main ↦ found | Else ↦ None ]

-- so many statements of a procedure's body from that path on, with what is round them; None where
-- they are not there
abbrev pub opened : ℕ → Path → Block → Option Opened
opened count path body = from_body path (opened_in count path body)

-- the body with those statements replaced
abbrev pub replaced : ℕ → Path → Block → Block → Option Block
replaced count path body with = option_map (λ o. fill o.around with) (opened count path body)

abbrev pub first_of : Block → Option Statement
first_of end = None
first_of (next a b) = Some a

-- the statement at a path
abbrev pub statement_at : Path → Block → Option Statement
statement_at path body = option_and_then (λ o. first_of o.piece) (opened 1 path body)
