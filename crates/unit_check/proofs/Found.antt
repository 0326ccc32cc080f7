-- Where the first path of a list is that is the same as another.
use Rattle.std.proofs.Common.{◌≡◌, ℕ, suc, ◌+◌, ◌≤◌, Bool, true, false, cond, not, ◌&&◌, List, [], ◌∷◌, ◌++◌, length, Option, Some, None, refl, sym, ap, ◌∙◌, arith, length-append, eq-eqb}
use Rattle.std.specs.Prelude.{if◌then◌else◌, ◌==◌, option_map}
use Rattle.std.specs.List.{position_or_len}
use Rattle.exo_tree.specs.Tree.{Statement, Assign, Reduce, Config, Pass, If, For, Alloc, View, Call, Block, end, next}
use Rattle.exo_tree.specs.Nodes.{nodes, nodes_in}
use Rattle.exo_tree.specs.Places.{Branch, Main, Else, Step, Path, path_below}
use Rattle.bounds_check.specs.Paths.{same_branch, same_path}
use Rattle.unit_check.specs.Preorder.{block_paths, inner_paths}

-- ---- the first that passes a test

abbrev pub found : (Path → Bool) → List Path → Option ℕ
found p [] = None
found p (x ∷ xs) = if p x then Some 0 else option_map suc (found p xs)

abbrev pub or_all : Option ℕ → ℕ → ℕ
or_all None n = n
or_all (Some k) n = k

one_further : (o : Option ℕ) (n : ℕ) → or_all (option_map suc o) (suc n) ≡ suc (or_all o n)
one_further None n = refl
one_further (Some k) n = refl

position_by : (b : Bool) (o : Option ℕ) (m n : ℕ) → m ≡ or_all o n → cond (not b) (1 + m) 0 ≡ or_all (if b then Some 0 else option_map suc o) (suc n)
position_by true o m n e = refl
position_by false o m n e = (let f : 1 + m ≡ suc (or_all o n) = omega (arith, e) in f) ∙ sym (one_further o n)

pub position_found : (p : Path → Bool) (xs : List Path) → position_or_len p xs ≡ or_all (found p xs) (length xs)
position_found p [] = refl
position_found p (x ∷ xs) = position_by (p x) (found p xs) (position_or_len p xs) (length xs) (position_found p xs)

pub not_first : (p : Path → Bool) (x : Path) (xs : List Path) → p x ≡ false → found p (x ∷ xs) ≡ option_map suc (found p xs)
not_first p x xs h = ap (λ (b : Bool). if b then Some 0 else option_map suc (found p xs)) h

pub is_first : (p : Path → Bool) (x : Path) (xs : List Path) → p x ≡ true → found p (x ∷ xs) ≡ Some 0
is_first p x xs h = ap (λ (b : Bool). if b then Some 0 else option_map suc (found p xs)) h

pub stay : (p : Path → Bool) (xs ys : List Path) → found p ys ≡ None → found p (xs ++ ys) ≡ found p xs
stay p [] ys h = h
stay p (x ∷ xs) ys h = ap (λ (o : Option ℕ). if p x then Some 0 else option_map suc o) (stay p xs ys h)

none_later : (b : Bool) (o : Option ℕ) → (if b then Some 0 else option_map suc o) ≡ None → (b ≡ false) × (o ≡ None)
none_later true o h = (cc, cc)
none_later false None h = (refl, refl)
none_later false (Some k) h = (cc, cc)

pub further : (n : ℕ) (o : Option ℕ) → option_map suc (option_map (λ (m : ℕ). n + m) o) ≡ option_map (λ (m : ℕ). suc n + m) o
further n None = refl
further n (Some m) = ap Some (omega arith)

pub at_once : (o : Option ℕ) → o ≡ option_map (λ (m : ℕ). 0 + m) o
at_once None = refl
at_once (Some m) = ap Some (omega arith)

pub skip : (p : Path → Bool) (xs ys : List Path) → found p xs ≡ None → found p (xs ++ ys) ≡ option_map (λ (m : ℕ). length xs + m) (found p ys)
skip p [] ys h = at_once (found p ys)
skip p (x ∷ xs) ys h =
    let parts = none_later (p x) (found p xs) h in
    not_first p x (xs ++ ys) parts.0 ∙ ap (option_map suc) (skip p xs ys parts.1) ∙ further (length xs) (found p ys)

-- ---- prefixes of paths

abbrev pub begins : Path → Path → Bool
begins q [] = true
begins [] (t ∷ p) = false
begins (s ∷ q) (t ∷ p) = same_branch s.branch t.branch && (s.index == t.index) && begins q p

both : (x y b c : Bool) → (b ≡ false → c ≡ false) → (x && y && b) ≡ false → (x && y && c) ≡ false
both true true b c f h = f h
both true false b c f h = refl
both false true b c f h = refl
both false false b c f h = refl

pub not_same : (q p : Path) → begins q p ≡ false → same_path q p ≡ false
not_same q [] h = cc
not_same [] (t ∷ p) h = refl
not_same (s ∷ q) (t ∷ p) h = both (same_branch s.branch t.branch) (s.index == t.index) (begins q p) (same_path q p) (not_same q p) h

pub longer : (q p more : Path) → begins q p ≡ false → begins q (p ++ more) ≡ false
longer q [] more h = cc
longer [] (t ∷ p) more h = refl
longer (s ∷ q) (t ∷ p) more h = both (same_branch s.branch t.branch) (s.index == t.index) (begins q p) (begins q (p ++ more)) (longer q p more) h

same_itself : (b : Branch) → same_branch b b ≡ true
same_itself Main = refl
same_itself Else = refl

stripped : (s : Step) (b : Bool) → (same_branch s.branch s.branch && (s.index == s.index) && b) ≡ b
stripped s b = ap (λ (x : Bool). x && (s.index == s.index) && b) (same_itself s.branch) ∙ ap (λ (x : Bool). true && x && b) (eq-eqb s.index s.index refl)

pub begins_under : (outer q p : Path) → begins (outer ++ q) (outer ++ p) ≡ begins q p
begins_under [] q p = refl
begins_under (s ∷ outer) q p = stripped s (begins (outer ++ q) (outer ++ p)) ∙ begins_under outer q p

pub same_under : (outer q p : Path) → same_path (outer ++ q) (outer ++ p) ≡ same_path q p
same_under [] q p = refl
same_under (s ∷ outer) q p = stripped s (same_path (outer ++ q) (outer ++ p)) ∙ same_under outer q p

-- ---- the paths of a block and of what is inside a statement

mutual
  pub absent : (q outer : Path) (branch : Branch) (n : ℕ) (b : Block) → ((k : ℕ) → n ≤ k → begins q (path_below outer branch k) ≡ false) → found (same_path q) (block_paths outer branch n b) ≡ None
  absent q outer branch n end h = refl
  absent q outer branch n (next a b) h =
      not_first (same_path q) (path_below outer branch n) (inner_paths (path_below outer branch n) a ++ block_paths outer branch (suc n) b) (not_same q (path_below outer branch n) (h n (omega arith)))
      ∙ ap (option_map suc)
      (stay (same_path q) (inner_paths (path_below outer branch n) a) (block_paths outer branch (suc n) b) (absent q outer branch (suc n) b (λ k l. h k (omega arith)))
      ∙ absent_inner q (path_below outer branch n) a (h n (omega arith)))

  pub absent_inner : (q path : Path) (a : Statement) → begins q path ≡ false → found (same_path q) (inner_paths path a) ≡ None
  absent_inner q path (Assign x is e) h = refl
  absent_inner q path (Reduce x is e) h = refl
  absent_inner q path (Config f a) h = refl
  absent_inner q path Pass h = refl
  absent_inner q path (If c a b) h =
      stay (same_path q) (block_paths path Main 0 a) (block_paths path Else 0 b) (absent q path Else 0 b (λ k l. longer q path _ h))
      ∙ absent q path Main 0 a (λ k l. longer q path _ h)
  absent_inner q path (For i lo hi b) h = absent q path Main 0 b (λ k l. longer q path _ h)
  absent_inner q path (Alloc x cell dims memory) h = refl
  absent_inner q path (View w x coords) h = refl
  absent_inner q path (Call k args) h = refl

-- as many as there are statements
mutual
  pub how_many : (outer : Path) (branch : Branch) (n : ℕ) (b : Block) → length (block_paths outer branch n b) ≡ nodes_in b
  how_many outer branch n end = refl
  how_many outer branch n (next a b) =
      omega (arith, length-append (inner_paths (path_below outer branch n) a) (block_paths outer branch (suc n) b), how_many outer branch (suc n) b, how_many_inside (path_below outer branch n) a)

  pub how_many_inside : (path : Path) (a : Statement) → suc (length (inner_paths path a)) ≡ nodes a
  how_many_inside path (Assign x is e) = refl
  how_many_inside path (Reduce x is e) = refl
  how_many_inside path (Config f a) = refl
  how_many_inside path Pass = refl
  how_many_inside path (If c a b) =
      omega (arith, length-append (block_paths path Main 0 a) (block_paths path Else 0 b), how_many path Main 0 a, how_many path Else 0 b)
  how_many_inside path (For i lo hi b) = omega (arith, how_many path Main 0 b)
  how_many_inside path (Alloc x cell dims memory) = refl
  how_many_inside path (View w x coords) = refl
  how_many_inside path (Call k args) = refl
