-- Lists of statements as blocks.
use Rattle.std.proofs.Common.{◌≡◌, ◌==◌, false, codes, refl, true≢false, ◌++◌, ℕ, zero, suc, ◌+◌, ◌<◌, ◌≤◌, List, [], ◌∷◌, length, drop, map, get_or, ap, sym, ◌∙◌, add-one, drop-cons, arith, subst}
use Rattle.std.proofs.lemmas.List.{length-map, drop-map}
use Rattle.c_tree.specs.CTree.{CStatement, cblock}
use Rattle.c_tree.specs.CText.{or_else}
use Rattle.c_tree.specs.Sizes.{nodes, nodes_of}
use Rattle.text_show.specs.Layout.{line}

-- a mapped list from an index on
pub drop_of_map : {X Y : Type 0} (f : X → Y) (xs : List X) (k : ℕ) (d : X) → k < length xs → drop k (map f xs) ≡ f (get_or xs k d) ∷ drop (k + 1) (map f xs)
drop_of_map f xs k d h = drop-map f k xs ∙ ap (map f) (drop-cons xs k d h) ∙ ap (λ ys. f (get_or xs k d) ∷ ys) (sym (drop-map f (suc k) xs)) ∙ ap (λ n. f (get_or xs k d) ∷ drop n (map f xs)) (sym (add-one k))

-- the same where a read gave the item
pub drop_at_read : {X Y : Type 0} (f : X → Y) (xs : List X) (ys : List Y) (k : ℕ) (x : X) → map f xs ≡ ys → x ≡ get_or xs k x → k < length ys → drop k ys ≡ f x ∷ drop (k + 1) ys
drop_at_read f xs ys k x e r h =
    let within : k < length xs = omega (arith, ap length e, length-map xs f) in
    subst (λ zs. drop k zs ≡ f x ∷ drop (k + 1) zs) e (drop_of_map f xs k x within ∙ ap (λ y. f y ∷ drop (k + 1) (map f xs)) (sym r))

-- a statement of a block has no more statements than the block
pub nodes_of_part : (ss rest : List CStatement) (k : ℕ) (s : CStatement) → drop k ss ≡ s ∷ rest → nodes s ≤ nodes_of ss
nodes_of_part [] rest zero s h = cc
nodes_of_part [] rest (suc k) s h = cc
nodes_of_part (t ∷ ss) rest zero s h = let e : t ≡ s = cc in omega (arith, ap nodes e)
nodes_of_part (t ∷ ss) rest (suc k) s h = omega (arith, nodes_of_part ss rest k s h)

-- the text of a second branch that is there
pub or_else_full : (indent t : List ℕ) (b : List CStatement) → (length b == 0) ≡ false → or_else indent (cblock b) t ≡ line indent (codes "} else {") ++ t ++ line indent (codes "}")
or_else_full indent t [] h = absurd (true≢false h)
or_else_full indent t (a ∷ rest) h = refl
