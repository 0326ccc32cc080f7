-- A list of statements as a block, and back; parts of mapped lists.
use Rattle.std.proofs.Common.{◌≡◌, ℕ, zero, suc, ◌+◌, ◌-◌, ◌<◌, ◌≤◌, List, [], ◌∷◌, length, take, drop, map, slice_range, get_or, refl, ap, sym, ◌∙◌, add-one, drop-cons, arith, subst}
use Rattle.std.proofs.lemmas.List.{length-map, take_all, take-map, drop-map}
use Rattle.exo_tree.specs.Tree.{Statement, Block, end, next, block, statements}
use Rattle.exo_tree.specs.Nodes.{nodes, nodes_of}

pub statements_of_block : (ss : List Statement) → statements (block ss) ≡ ss
statements_of_block [] = refl
statements_of_block (s ∷ ss) = ap (λ ts. s ∷ ts) (statements_of_block ss)

pub block_of_statements : (b : Block) → block (statements b) ≡ b
block_of_statements end = refl
block_of_statements (next a b) = ap (next a) (block_of_statements b)

-- a part of a mapped list, all of it
pub range_of_map : {X Y : Type 0} (f : X → Y) (xs : List X) (from to n : ℕ) → length (slice_range xs from to) ≤ n → map f (take n (slice_range xs from to)) ≡ slice_range (map f xs) from to
range_of_map f xs from to n h =
    ap (map f) (take_all n (slice_range xs from to) h) ∙ sym (take-map f (to - from) (drop from xs)) ∙ ap (take (to - from)) (sym (drop-map f from xs))

-- a mapped list from an index on
pub drop_of_map : {X Y : Type 0} (f : X → Y) (xs : List X) (k : ℕ) (d : X) → k < length xs → drop k (map f xs) ≡ f (get_or xs k d) ∷ drop (k + 1) (map f xs)
drop_of_map f xs k d h = drop-map f k xs ∙ ap (map f) (drop-cons xs k d h) ∙ ap (λ ys. f (get_or xs k d) ∷ ys) (sym (drop-map f (suc k) xs)) ∙ ap (λ n. f (get_or xs k d) ∷ drop n (map f xs)) (sym (add-one k))

-- a statement of a block has no more statements than the block
pub nodes_of_part : (ss rest : List Statement) (k : ℕ) (s : Statement) → drop k ss ≡ s ∷ rest → nodes s ≤ nodes_of ss
nodes_of_part [] rest zero s h = cc
nodes_of_part [] rest (suc k) s h = cc
nodes_of_part (t ∷ ss) rest zero s h = let e : t ≡ s = cc in omega (arith, ap nodes e)
nodes_of_part (t ∷ ss) rest (suc k) s h = omega (arith, nodes_of_part ss rest k s h)

-- the same where a read gave the item
pub drop_at_read : {X Y : Type 0} (f : X → Y) (xs : List X) (ys : List Y) (k : ℕ) (x : X) → map f xs ≡ ys → x ≡ get_or xs k x → k < length ys → drop k ys ≡ f x ∷ drop (k + 1) ys
drop_at_read f xs ys k x e r h =
    let within : k < length xs = omega (arith, ap length e, length-map xs f) in
    subst (λ zs. drop k zs ≡ f x ∷ drop (k + 1) zs) e (drop_of_map f xs k x within ∙ ap (λ y. f y ∷ drop (k + 1) (map f xs)) (sym r))

-- all of a list
pub whole_range : (ss : List Statement) (n : ℕ) → n ≡ length ss → slice_range ss 0 (0 + n) ≡ ss
whole_range ss n h = take_all (0 + n - 0) ss (omega arith)
