-- The text lines of statements: those of a procedure stand in preorder.
use Rattle.std.specs.Prelude.{ℕ, zero, suc, ◌+◌, List, [], ◌∷◌, ◌++◌, Option, Some}
use Rattle.std.specs.Prelude.{None, option_map, slice_index_or}
use Rattle.std.specs.List.{position_or_len}
use Rattle.exo_tree.specs.Tree.{Statement, Assign, Reduce, Config, Pass, If, For, Alloc, View}
use Rattle.exo_tree.specs.Tree.{Call, Block, end, next, Procedure}
use Rattle.exo_tree.specs.Nodes.{nodes, nodes_in}
use Rattle.exo_tree.specs.Places.{Branch, Main, Else, Path, path_below}
use Rattle.exo_tree.specs.Branches.{branch_of}
use Rattle.exo_tree.specs.declared.lines.ProcLines.{ProcLines}
use Rattle.bounds_check.specs.Paths.{same_path}

-- the paths of the statements of a block, the first of which has that number, in preorder
abbrev mutual
  pub block_paths : Path → Branch → ℕ → Block → List Path
  block_paths outer branch n end = []
  block_paths outer branch n (next a b) =
      path_below outer branch n ∷ inner_paths (path_below outer branch n) a
      ++ block_paths outer branch (suc n) b

  pub inner_paths : Path → Statement → List Path
  inner_paths path (Assign x is e) = []
  inner_paths path (Reduce x is e) = []
  inner_paths path (Config f a) = []
  inner_paths path Pass = []
  inner_paths path (If c a b) = block_paths path Main 0 a ++ block_paths path Else 0 b
  inner_paths path (For i lo hi b) = block_paths path Main 0 b
  inner_paths path (Alloc x cell dims memory) = []
  inner_paths path (View w x coords) = []
  inner_paths path (Call k args) = []

-- how many statements stand before the one at a path
abbrev pub number_of : Procedure → Path → ℕ
number_of p path = position_or_len (same_path path) (block_paths [] Main 0 p.body)

-- the line of the statement at a path; that of the `def` for the empty path
abbrev pub line_of : Procedure → ProcLines → Path → ℕ
line_of p lines [] = lines.def
line_of p lines (s ∷ path) = slice_index_or lines.statements (number_of p (s ∷ path)) 0

-- the line of a place of a procedure of the unit
abbrev pub line_in : Option Procedure → Option ProcLines → Path → ℕ
line_in (Some p) (Some lines) path = line_of p lines path
line_in p lines path = 0

-- ---- the same by going down a path

-- what is known of the statement behind the first so many, with how many statements stand before that
abbrev pub past : (Statement → Option ℕ) → Block → ℕ → Option ℕ
past f end k = None
past f (next a b) zero = f a
past f (next a b) (suc k) = option_map (λ n. nodes a + n) (past f b k)

-- the statements inside a statement that stand before those of a branch
abbrev pub before : Branch → Statement → ℕ
before Main a = 0
before Else (If c a b) = nodes_in a
before Else a = 0

-- where the rest of a path leads from a statement: to itself, or inside it
abbrev pub inside : Path → Statement → Option ℕ
inside [] a = Some 0
inside (s ∷ rest) a =
    option_map (λ n. 1 + n) (elim (branch_of s.branch a) [
      | None ↦ None
      | Some b ↦ option_map (λ n. before s.branch a + n) (past (inside rest) b s.index)
    ])

-- how many statements of a block stand before the one at a path into it, if there is one
abbrev pub place_in : Path → Block → Option ℕ
place_in [] b = None
place_in (s ∷ rest) b = past (inside rest) b s.index

-- of a procedure's body: the first step goes into it by its main branch
abbrev pub place_of : Path → Block → Option ℕ
place_of [] b = None
place_of (s ∷ rest) b = elim s.branch [ Main ↦ place_in (s ∷ rest) b | Else ↦ None ]
