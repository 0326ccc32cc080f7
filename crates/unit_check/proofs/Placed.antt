-- How many statements stand before a place, by what the code has found of its path.
use Rattle.std.proofs.Common.{◌≡◌, ℕ, zero, suc, ◌+◌, ◌<◌, ◌-◌, ◌^◌, min, List, [], ◌∷◌, length, take, Option, Some, None, refl, ap, ◌∙◌, arith}
use Rattle.std.specs.Prelude.{option_map, option_and_then, slice_get, slice_index_or}
use Rattle.exo_tree.specs.Tree.{Statement, Block, block, Procedure}
use Rattle.exo_tree.specs.Nodes.{capped, nodes, nodes_of}
use Rattle.exo_tree.specs.Places.{Step, Path}
use Rattle.exo_tree.specs.Branches.{branch_of}
use Rattle.exo_tree.specs.declared.lines.ProcLines.{ProcLines}
use Rattle.unit_check.specs.Preorder.{past, before, inside, place_in, number_of, line_of}
use Rattle.unit_check.proofs.Found.{or_all, at_once}

added : (m n : ℕ) (o : Option ℕ) → option_map (λ (x : ℕ). m + x) (option_map (λ (x : ℕ). n + x) o) ≡ option_map (λ (x : ℕ). m + n + x) o
added m n None = refl
added m n (Some x) = ap Some (omega arith)

abbrev behind : ℕ → (Statement → Option ℕ) → Option Statement → Option ℕ
behind n f None = None
behind n f (Some a) = option_map (λ (x : ℕ). n + x) (f a)

behind_more : (m n : ℕ) (f : Statement → Option ℕ) (o : Option Statement) → option_map (λ (x : ℕ). m + x) (behind n f o) ≡ behind (m + n) f o
behind_more m n f None = refl
behind_more m n f (Some a) = added m n (f a)

past_is : (f : Statement → Option ℕ) (ss : List Statement) (k : ℕ) → past f (block ss) k ≡ behind (nodes_of (take k ss)) f (slice_get ss k)
past_is f [] k = refl
past_is f (a ∷ ss) zero = at_once (f a)
past_is f (a ∷ ss) (suc k) = ap (option_map (λ (x : ℕ). nodes a + x)) (past_is f ss k) ∙ behind_more (nodes a) (nodes_of (take k ss)) f (slice_get ss k)

-- there is no such statement in the block
pub stops : (s : Step) (path : Path) (ss : List Statement) → slice_get ss s.index ≡ None → option_map capped (place_in (s ∷ path) (block ss)) ≡ None
stops s path ss e = ap (option_map capped) (past_is (inside path) ss s.index ∙ ap (behind (nodes_of (take s.index ss)) (inside path)) e)

-- it is the one
pub last : (s : Step) (path : Path) (ss : List Statement) (a : Statement) → slice_get path 0 ≡ None → slice_get ss s.index ≡ Some a
    → option_map capped (place_in (s ∷ path) (block ss)) ≡ Some (capped (nodes_of (take s.index ss)))
last s [] ss a h e =
    ap (option_map capped) (past_is (inside []) ss s.index ∙ ap (behind (nodes_of (take s.index ss)) (inside [])) e)
    ∙ ap (λ (n : ℕ). Some (capped n)) (let z : nodes_of (take s.index ss) + 0 ≡ nodes_of (take s.index ss) = omega arith in z)
last s (t ∷ path) ss a h e = cc

-- it is inside one
abbrev deeper : ℕ → ℕ → Option ℕ → Option ℕ
deeper n m o = option_map (λ (x : ℕ). n + x) (option_map (λ (x : ℕ). 1 + x) (option_map (λ (x : ℕ). m + x) o))

below : (s t : Step) (path : Path) (ss : List Statement) (a : Statement) (x : Option Block) → slice_get path 0 ≡ Some t → slice_get ss s.index ≡ Some a → branch_of t.branch a ≡ x
    → place_in (s ∷ path) (block ss) ≡ deeper (nodes_of (take s.index ss)) (before t.branch a) (option_and_then (place_in path) x)
below s t [] ss a x h e f = cc
below s t (u ∷ path) ss a x h e f =
    let same : u ≡ t = cc in
    past_is (inside (u ∷ path)) ss s.index
    ∙ ap (behind (nodes_of (take s.index ss)) (inside (u ∷ path))) e
    ∙ by_branch (branch_of u.branch a) (past (inside path))
    ∙ ap (λ (v : Step). deeper (nodes_of (take s.index ss)) (before v.branch a) (option_and_then (place_in (u ∷ path)) (branch_of v.branch a))) same
    ∙ ap (λ (o : Option Block). deeper (nodes_of (take s.index ss)) (before t.branch a) (option_and_then (place_in (u ∷ path)) o)) f
  where
    by_branch : (o : Option Block) (g : Block → ℕ → Option ℕ)
        → option_map (λ (y : ℕ). nodes_of (take s.index ss) + y) (option_map (λ (n : ℕ). 1 + n) (elim o [ None ↦ None | Some b ↦ option_map (λ (n : ℕ). before u.branch a + n) (g b u.index) ]))
        ≡ deeper (nodes_of (take s.index ss)) (before u.branch a) (option_and_then (λ b. g b u.index) o)
    by_branch None g = refl
    by_branch (Some b) g = refl

capped_none : (o : Option ℕ) → option_map capped o ≡ None → o ≡ None
capped_none None h = refl
capped_none (Some n) h = cc

pub next_none : (s t : Step) (path : Path) (ss : List Statement) (a : Statement) (x : Option Block) → slice_get path 0 ≡ Some t → slice_get ss s.index ≡ Some a → branch_of t.branch a ≡ x
    → option_map capped (option_and_then (place_in path) x) ≡ None → option_map capped (place_in (s ∷ path) (block ss)) ≡ None
next_none s t path ss a x h e f none =
    ap (option_map capped) (below s t path ss a x h e f ∙ ap (deeper (nodes_of (take s.index ss)) (before t.branch a)) (capped_none (option_and_then (place_in path) x) none))

sums : (n m outside skipped own inner all k : ℕ) (o : Option ℕ) → option_map capped o ≡ Some inner → outside ≡ capped n → own ≡ capped m → skipped ≡ min (outside + own) (2 ^ 64 - 1)
    → k ≡ min (skipped + inner) (2 ^ 64 - 1) → all ≡ min (k + 1) (2 ^ 64 - 1) → option_map capped (deeper n m o) ≡ Some all
sums n m outside skipped own inner all k None h p q r u v = cc
sums n m outside skipped own inner all k (Some i) h p q r u v =
    let same : capped i ≡ inner = cc in
    ap Some (let z : min (n + (1 + (m + i))) (2 ^ 64 - 1) ≡ all = omega arith in z)

pub next_some : (s t : Step) (path : Path) (ss : List Statement) (a : Statement) (c : Block) (outside skipped own inner all k : ℕ) → slice_get path 0 ≡ Some t → slice_get ss s.index ≡ Some a
    → branch_of t.branch a ≡ Some c → option_map capped (place_in path c) ≡ Some inner → outside ≡ capped (nodes_of (take s.index ss)) → own ≡ capped (before t.branch a)
    → skipped ≡ min (outside + own) (2 ^ 64 - 1) → k ≡ min (skipped + inner) (2 ^ 64 - 1) → all ≡ min (k + 1) (2 ^ 64 - 1) → option_map capped (place_in (s ∷ path) (block ss)) ≡ Some all
next_some s t path ss a c outside skipped own inner all k h e f is p q r u v =
    ap (option_map capped) (below s t path ss a (Some c) h e f)
    ∙ sums (nodes_of (take s.index ss)) (before t.branch a) outside skipped own inner all k (place_in path c) is p q r u v

-- ---- of the whole body

pub number_some : (o : Option ℕ) (n all : ℕ) → Some n ≡ option_map capped o → n ≡ capped (or_all o all)
number_some None n all h = cc
number_some (Some k) n all h = cc

pub number_none : (o : Option ℕ) (n all : ℕ) → None ≡ option_map capped o → n ≡ capped all → n ≡ capped (or_all o all)
number_none None n all h e = e
number_none (Some k) n all h e = cc

pub line_where : (p : Procedure) (lines : ProcLines) (path : Path) (r : ℕ) → 0 < length path → r ≡ slice_index_or lines.statements (number_of p path) 0 → r ≡ line_of p lines path
line_where p lines [] r h e = absurd (omega arith)
line_where p lines (s ∷ path) r h e = e
