-- Going down a path counts what stands before it.
use Rattle.std.proofs.Common.{◌≡◌, ℕ, zero, suc, ◌+◌, ◌<◌, Bool, true, false, ◌&&◌, [], ◌∷◌, ◌++◌, length, Option, Some, None, refl, sym, ap, ◌∙◌, arith, append_assoc, append-nil}
use Rattle.std.specs.Prelude.{◌==◌, option_map}
use Rattle.std.specs.List.{position_or_len}
use Rattle.exo_tree.specs.Tree.{Statement, Assign, Reduce, Config, Pass, If, For, Alloc, View, Call, Block, end, next}
use Rattle.exo_tree.specs.Nodes.{nodes, nodes_in}
use Rattle.exo_tree.specs.Places.{Branch, Main, Else, Step, Path, path_below}
use Rattle.exo_tree.specs.Branches.{branch_of}
use Rattle.bounds_check.specs.Paths.{same_branch, same_path}
use Rattle.unit_check.specs.Preorder.{block_paths, inner_paths, past, before, inside, place_of}
use Rattle.unit_check.proofs.Found.{found, or_all, position_found, not_first, is_first, stay, skip, further, at_once, begins, not_same, begins_under, same_under, absent, absent_inner, how_many, how_many_inside}

abbrev step : Branch → ℕ → Step
step branch i = record { branch = branch; index = i }

-- another step is no beginning
other_index : (outer rest : Path) (branch : Branch) (i k : ℕ) → (i == k) ≡ false → begins (outer ++ step branch i ∷ rest) (path_below outer branch k) ≡ false
other_index outer rest branch i k h =
    begins_under outer (step branch i ∷ rest) (step branch k ∷ [])
    ∙ by_branch branch (ap (λ (x : Bool). true && x && true) h)
  where
    by_branch : (b : Branch) → (true && (i == k) && true) ≡ false → (same_branch b b && (i == k) && true) ≡ false
    by_branch Main e = e
    by_branch Else e = e

not_equal : (i k : ℕ) → i < k → (i == k) ≡ false
not_equal i k h = grind arith

not_equal_above : (i k : ℕ) → k < i → (i == k) ≡ false
not_equal_above i k h = grind arith

same_at : (path : Path) → same_path (path ++ []) path ≡ true
same_at path = ap (λ (p : Path). same_path (path ++ []) p) (sym (append-nil path)) ∙ same_under path [] []

longer_differs : (path : Path) (s : Step) (rest : Path) → same_path (path ++ s ∷ rest) path ≡ false
longer_differs path s rest = ap (λ (p : Path). same_path (path ++ s ∷ rest) p) (sym (append-nil path)) ∙ same_under path (s ∷ rest) []

-- a path along the statements of a block, where it is known what is found of its rest
module _ (f : Statement → Option ℕ) (rest : Path) (known : (path : Path) (a : Statement) → found (same_path (path ++ rest)) (path ∷ inner_paths path a) ≡ f a) where
  along : (outer : Path) (branch : Branch) (n k i : ℕ) (b : Block) → n + k ≡ i → found (same_path (outer ++ step branch i ∷ rest)) (block_paths outer branch n b) ≡ past f b k
  along outer branch n k i end e = refl
  along outer branch n zero i (next a b) e =
      let here : i ≡ n = omega arith in
      let same : path_below outer branch n ++ rest ≡ outer ++ step branch i ∷ rest =
      append_assoc outer (step branch n ∷ []) rest ∙ ap (λ (m : ℕ). outer ++ step branch m ∷ rest) (sym here) in
      stay (same_path (outer ++ step branch i ∷ rest)) (path_below outer branch n ∷ inner_paths (path_below outer branch n) a) (block_paths outer branch (suc n) b)
      (absent (outer ++ step branch i ∷ rest) outer branch (suc n) b (λ k l. other_index outer rest branch i k (not_equal i k (omega arith))))
      ∙ ap (λ (p : Path). found (same_path p) (path_below outer branch n ∷ inner_paths (path_below outer branch n) a)) (sym same)
      ∙ known (path_below outer branch n) a
  along outer branch n (suc k) i (next a b) e =
      let other : begins (outer ++ step branch i ∷ rest) (path_below outer branch n) ≡ false = other_index outer rest branch i n (not_equal_above i n (omega arith)) in
      not_first (same_path (outer ++ step branch i ∷ rest)) (path_below outer branch n) (inner_paths (path_below outer branch n) a ++ block_paths outer branch (suc n) b) (not_same (outer ++ step branch i ∷ rest) (path_below outer branch n) other)
      ∙ ap (option_map suc) (skip (same_path (outer ++ step branch i ∷ rest)) (inner_paths (path_below outer branch n) a) (block_paths outer branch (suc n) b) (absent_inner (outer ++ step branch i ∷ rest) (path_below outer branch n) a other))
      ∙ further (length (inner_paths (path_below outer branch n) a)) (found (same_path (outer ++ step branch i ∷ rest)) (block_paths outer branch (suc n) b))
      ∙ ap (λ (m : ℕ). option_map (λ (x : ℕ). m + x) (found (same_path (outer ++ step branch i ∷ rest)) (block_paths outer branch (suc n) b))) (how_many_inside (path_below outer branch n) a)
      ∙ ap (option_map (λ (x : ℕ). nodes a + x)) (along outer branch (suc n) k i b (omega arith))

one_added : (o : Option ℕ) → option_map suc o ≡ option_map (λ (n : ℕ). 1 + n) o
one_added None = refl
one_added (Some n) = ap Some (omega arith)

-- the other branch has no such path
other_branch : (outer rest : Path) (i k : ℕ) → begins (outer ++ step Main i ∷ rest) (path_below outer Else k) ≡ false
other_branch outer rest i k = begins_under outer (step Main i ∷ rest) (step Else k ∷ [])

main_branch : (outer rest : Path) (i k : ℕ) → begins (outer ++ step Else i ∷ rest) (path_below outer Main k) ≡ false
main_branch outer rest i k = begins_under outer (step Else i ∷ rest) (step Main k ∷ [])

abbrev among : (rest : Path) → Branch → ℕ → Statement → Option ℕ
among rest branch i a = elim (branch_of branch a) [ None ↦ None | Some b ↦ option_map (λ (n : ℕ). before branch a + n) (past (inside rest) b i) ]

-- what is found inside a statement, by what is found of the rest in a block
module _ (rest : Path) (known : (path : Path) (a : Statement) → found (same_path (path ++ rest)) (path ∷ inner_paths path a) ≡ inside rest a) where
  within : (path : Path) (branch : Branch) (i : ℕ) (a : Statement) → found (same_path (path ++ step branch i ∷ rest)) (inner_paths path a) ≡ among rest branch i a
  within path Main i (If c a b) =
      stay (same_path (path ++ step Main i ∷ rest)) (block_paths path Main 0 a) (block_paths path Else 0 b) (absent (path ++ step Main i ∷ rest) path Else 0 b (λ k l. other_branch path rest i k))
      ∙ along (inside rest) rest known path Main 0 i i a (omega arith)
      ∙ at_once (past (inside rest) a i)
  within path Else i (If c a b) =
      skip (same_path (path ++ step Else i ∷ rest)) (block_paths path Main 0 a) (block_paths path Else 0 b) (absent (path ++ step Else i ∷ rest) path Main 0 a (λ k l. main_branch path rest i k))
      ∙ ap (λ (m : ℕ). option_map (λ (x : ℕ). m + x) (found (same_path (path ++ step Else i ∷ rest)) (block_paths path Else 0 b))) (how_many path Main 0 a)
      ∙ ap (option_map (λ (x : ℕ). nodes_in a + x)) (along (inside rest) rest known path Else 0 i i b (omega arith))
  within path Main i (For x lo hi b) = along (inside rest) rest known path Main 0 i i b (omega arith) ∙ at_once (past (inside rest) b i)
  within path Else i (For x lo hi b) = absent (path ++ step Else i ∷ rest) path Main 0 b (λ k l. main_branch path rest i k)
  within path Main i (Assign x is e) = refl
  within path Main i (Reduce x is e) = refl
  within path Main i (Config f a) = refl
  within path Main i Pass = refl
  within path Main i (Alloc x cell dims memory) = refl
  within path Main i (View w x coords) = refl
  within path Main i (Call k args) = refl
  within path Else i (Assign x is e) = refl
  within path Else i (Reduce x is e) = refl
  within path Else i (Config f a) = refl
  within path Else i Pass = refl
  within path Else i (Alloc x cell dims memory) = refl
  within path Else i (View w x coords) = refl
  within path Else i (Call k args) = refl

found_inside : (rest path : Path) (a : Statement) → found (same_path (path ++ rest)) (path ∷ inner_paths path a) ≡ inside rest a
found_inside [] path a = is_first (same_path (path ++ [])) path (inner_paths path a) (same_at path)
found_inside (s ∷ rest) path a =
    not_first (same_path (path ++ s ∷ rest)) path (inner_paths path a) (longer_differs path s rest)
    ∙ ap (option_map suc) (within rest (λ p b. found_inside rest p b) path s.branch s.index a)
    ∙ one_added (among rest s.branch s.index a)

-- ---- the paths of a procedure's body

by_first : (branch : Branch) (i : ℕ) (rest : Path) (b : Block) → found (same_path (step branch i ∷ rest)) (block_paths [] Main 0 b) ≡ place_of (step branch i ∷ rest) b
by_first Main i rest b = along (inside rest) rest (found_inside rest) [] Main 0 i i b (omega arith)
by_first Else i rest b = absent (step Else i ∷ rest) [] Main 0 b (λ k l. refl)

found_in_body : (path : Path) (b : Block) → found (same_path path) (block_paths [] Main 0 b) ≡ place_of path b
found_in_body [] b = absent [] [] Main 0 b (λ k l. refl)
found_in_body (s ∷ rest) b = by_first s.branch s.index rest b

pub number_is : (path : Path) (b : Block) → position_or_len (same_path path) (block_paths [] Main 0 b) ≡ or_all (place_of path b) (nodes_in b)
number_is path b =
    position_found (same_path path) (block_paths [] Main 0 b)
    ∙ ap (λ (o : Option ℕ). or_all o (length (block_paths [] Main 0 b))) (found_in_body path b)
    ∙ ap (or_all (place_of path b)) (how_many [] Main 0 b)
