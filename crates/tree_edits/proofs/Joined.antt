-- Blocks that are put together of parts of others, and what that costs.
use Rattle.std.proofs.Common.{◌≡◌, ℕ, ◌+◌, ◌-◌, ◌<◌, ◌≤◌, List, [], ◌++◌, length, take, drop, refl, sym, ap, ◌∙◌, arith}
use Rattle.std.proofs.Common.{take_all, length-drop}
use Rattle.std.specs.Prelude.{slice_range}
use Rattle.exo_tree.specs.Tree.{Statement, If, For, Block, block, Condition, Control, Binder}
use Rattle.exo_tree.specs.Places.{Branch, Main, Else}
use Rattle.exo_tree.specs.Branches.{with_branch}
use Rattle.tree_edits.specs.Entries.{beside}
use Rattle.tree_edits.proofs.Costs.{count_of_block}

front : {A : Type 0} (xs none : List A) (n : ℕ) → none ≡ [] → none ++ slice_range xs 0 n ≡ take n xs
front {A} xs none n empty =
    ap (λ (l : List A). l ++ slice_range xs 0 n) empty ∙ ap (λ (k : ℕ). take k xs) (let e : n - 0 ≡ n = omega arith in
    e)

whole : {A : Type 0} (xs : List A) (n : ℕ) → n ≡ length xs → slice_range xs 0 n ≡ xs
whole {A} xs n is = take_all (n - 0) xs (omega (arith, is))

back : {A : Type 0} (xs : List A) (from n : ℕ) → n ≡ length xs → slice_range xs from n ≡ drop from xs
back {A} xs from n is = take_all (n - from) (drop from xs) (omega (arith, is, length-drop from xs))

-- a front, another list and what stands behind a place
pub joined : {A : Type 0} (xs with none first second all : List A) (index from n : ℕ) → none ≡ [] →
    first ≡ none ++ slice_range xs 0 index → second ≡ first ++ with → all ≡ second ++ slice_range xs from n →
    n ≡ length xs → all ≡ (take index xs ++ with) ++ drop from xs
joined {A} xs with none first second all index from n empty one two three is =
    three ∙ ap (λ (l : List A). l ++ slice_range xs from n)
    (two ∙ ap (λ (l : List A). l ++ with) (one ∙ front xs none index empty))
    ∙ ap (λ (l : List A). (take index xs ++ with) ++ l) (back xs from n is)

pub put_whole : {A : Type 0} (with first second : List A) (n : ℕ) → second ≡ first ++ slice_range with 0 n →
    n ≡ length with → second ≡ first ++ with
put_whole {A} with first second n put is = put ∙ ap (λ (l : List A). first ++ l) (whole with n is)

pub inside : (index count len one two : ℕ) → index ≤ one → count ≤ two - index → one ≡ len → two ≡ len →
    index + count ≤ len
inside index count len one two low high e f = omega arith

pub spliced_exact : (old made1 made2 made3 index count len w n m : ℕ) → index + count ≤ len →
    made1 ≡ old + (index - 0) → made2 ≡ made1 + (m - 0) → made3 ≡ made2 + (n - (index + count)) → n ≡ len → m ≡ w →
    made3 + count ≡ old + len + w
spliced_exact old made1 made2 made3 index count len w n m within one two three e f = omega arith

pub spliced_cost : (old made3 count len w : ℕ) → made3 + count ≡ old + len + w → made3 ≤ old + len + w
spliced_cost old made3 count len w exact = omega arith

pub one_exact : (old made1 made2 made3 index len n : ℕ) → index < len →
    made1 ≡ old + (index - 0) → made2 ≡ made1 + 1 → made3 ≡ made2 + (n - (index + 1)) → n ≡ len → made3 ≡ old + len
one_exact old made1 made2 made3 index len n within one two three e = omega arith

pub one_cost : (old made3 len : ℕ) → made3 ≡ old + len → made3 ≤ old + len
one_cost old made3 len exact = omega arith

-- branches

pub if_main : (c : Condition) (a b w : Block) (s : Statement) (which : Branch) → s ≡ If c a b → which ≡ Main →
    If c w b ≡ with_branch which w s
if_main c a b w s which is here = rw (is, here) refl

pub if_else : (c : Condition) (a b w : Block) (s : Statement) (which : Branch) → s ≡ If c a b → which ≡ Else →
    If c a w ≡ with_branch which w s
if_else c a b w s which is here = rw (is, here) refl

pub for_main : (i : Binder) (lo hi : Control) (b w : Block) (s : Statement) (which : Branch) → s ≡ For i lo hi b →
    which ≡ Main → For i lo hi w ≡ with_branch which w s
for_main i lo hi b w s which is here = rw (is, here) refl

pub cost_main : (c : Condition) (a : Block) (ss : List Statement) (s : Statement) (which : Branch) (new old : ℕ) →
    s ≡ If c a (block ss) → which ≡ Main → new ≡ old + length ss → new ≡ old + beside which s
cost_main c a ss s which new old is here cost = rw (is, here) (cost ∙ ap (λ (n : ℕ). old + n) (sym (count_of_block ss)))

pub cost_else : (c : Condition) (b : Block) (ss : List Statement) (s : Statement) (which : Branch) (new old : ℕ) →
    s ≡ If c (block ss) b → which ≡ Else → new ≡ old + length ss → new ≡ old + beside which s
cost_else c b ss s which new old is here cost = rw (is, here) (cost ∙ ap (λ (n : ℕ). old + n) (sym (count_of_block ss)))

pub cost_for : (i : Binder) (lo hi : Control) (b : Block) (s : Statement) (which : Branch) (old : ℕ) → s ≡ For i lo hi
    b →
    which ≡ Main → old ≡ old + beside which s
cost_for i lo hi b s which old is here = rw (is, here) (omega arith)

-- costs on a way: of the block of a step, beside the way, and further on

pub nothing_made : (old entries w : ℕ) → old ≤ old + entries + w
nothing_made old entries w = omega arith

pub made_further : (old made1 len aside inner entries w : ℕ) → entries ≡ len + aside + inner → made1 ≤ old + inner + w →
    made1 ≤ old + entries + w
made_further old made1 len aside inner entries w all further = omega arith

pub made_aside : (old made1 made2 len aside inner entries w : ℕ) → entries ≡ len + aside + inner →
    made1 ≤ old + inner + w → made2 ≡ made1 + aside → made2 ≤ old + entries + w
made_aside old made1 made2 len aside inner entries w all further beside_it = omega arith

pub made_here : (old made1 made2 made3 len aside inner entries w : ℕ) → entries ≡ len + aside + inner →
    made1 ≤ old + inner + w → made2 ≡ made1 + aside → made3 ≤ made2 + len → made3 ≤ old + entries + w
made_here old made1 made2 made3 len aside inner entries w all further beside_it here = omega arith

pub made_exact : (old made1 made2 made3 count len aside inner entries w : ℕ) → entries ≡ len + aside + inner →
    made1 + count ≡ old + inner + w → made2 ≡ made1 + aside → made3 ≡ made2 + len → made3 + count ≡ old + entries + w
made_exact old made1 made2 made3 count len aside inner entries w all further beside_it here = omega arith
