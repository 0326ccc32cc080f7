-- Entries on the way to a statement, a step at a time.
use Rattle.std.proofs.Common.{◌≡◌, ℕ, ◌+◌, List, [], ◌∷◌, ◌++◌, take, drop, append_assoc, length, Option, Some, None, ap, ◌∙◌, arith}
use Rattle.std.specs.Prelude.{slice_get, IfSome}
use Rattle.exo_tree.specs.Tree.{Statement, Block, block, statements}
use Rattle.exo_tree.specs.Places.{Branch, Step, Path}
use Rattle.exo_tree.specs.Branches.{branch_of, with_branch}
use Rattle.exo_tree.proofs.Trees.{statements_of_block}
use Rattle.tree_edits.specs.Entries.{beside, of_inner, of_statement, entries_in}

pub count_of_block : (ss : List Statement) → length (statements (block ss)) ≡ length ss
count_of_block ss = ap length (statements_of_block ss)

-- at the last step
pub last_step : (s : Step) (path rest : Path) (ss : List Statement) → path ≡ s ∷ rest → slice_get rest 0 ≡ None → entries_in path ss ≡ length ss
last_step s path [] ss e f = ap (λ p. entries_in p ss) e
last_step s path (t ∷ rest) ss e f = cc

-- at a step before it
pub more_steps : (s t : Step) (path rest : Path) (ss : List Statement) → path ≡ s ∷ rest → slice_get rest 0 ≡ Some t
    → entries_in path ss ≡ length ss + of_statement (entries_in rest) t.branch (slice_get ss s.index)
more_steps s t path [] ss e f = cc
more_steps s t path (u ∷ rest) ss e f =
    let same : u ≡ t = cc in
    ap (λ p. entries_in p ss) e ∙ ap (λ (w : Step). length ss + of_statement (entries_in (u ∷ rest)) w.branch (slice_get ss s.index)) same

-- where a statement stands there
pub at_statement : (s t : Step) (path rest : Path) (ss : List Statement) (a : Statement) → path ≡ s ∷ rest → slice_get rest 0 ≡ Some t → slice_get ss s.index ≡ Some a
    → entries_in path ss ≡ length ss + beside t.branch a + of_inner (entries_in rest) (branch_of t.branch a)
at_statement s t path rest ss a e f g =
    omega (arith, more_steps s t path rest ss e f, ap (of_statement (entries_in rest) t.branch) g)

-- where it has that block
pub at_block : (s t : Step) (path rest : Path) (ss cs : List Statement) (a : Statement) → path ≡ s ∷ rest → slice_get rest 0 ≡ Some t → slice_get ss s.index ≡ Some a → branch_of t.branch a ≡ Some (block cs)
    → entries_in path ss ≡ length ss + beside t.branch a + entries_in rest cs
at_block s t path rest ss cs a e f g h =
    omega (arith, at_statement s t path rest ss a e f g, ap (of_inner (entries_in rest)) h, ap (entries_in rest) (statements_of_block cs))

-- a block with one other statement, as it is put together
pub one_there : (ss one all : List Statement) (k : ℕ) (which : Branch) (c : Block) (a b made : Statement) → slice_get ss k ≡ Some a → slice_get ss k ≡ Some b
    → made ≡ with_branch which c a → one ≡ made ∷ [] → all ≡ take k ss ++ one ++ drop (k + 1) ss → all ≡ take k ss ++ with_branch which c b ∷ drop (k + 1) ss
one_there ss one all k which c a b made e f m o h =
    let same : a ≡ b = cc in
    let is : one ≡ with_branch which c b ∷ [] = o ∙ ap (λ t. t ∷ []) (m ∙ ap (with_branch which c) same) in
    h ∙ ap (λ ts. take k ss ++ ts ++ drop (k + 1) ss) is ∙ append_assoc (take k ss) (with_branch which c b ∷ []) (drop (k + 1) ss)

-- what is said of each that is there
pub some_there : {A : Type 0} (x : Option A) (a : A) (P : Type 0) → x ≡ Some a → IfSome x (λ _. P) → P
some_there None a P e h = cc
some_there (Some b) a P e h = h
