-- What stands from a place on, and from the place before.
use Rattle.std.proofs.Common.{◌≡◌, ◌∙◌, ℕ, suc, ◌-◌, ◌<◌, ◌≤◌, List, [], ◌∷◌, length, drop, drop-cons, get_or, refl, sym, arith}
use Rattle.c_tree.specs.Names.Words.{Name}

-- from the end on there is nothing
pub none_behind : (xs : List Name) → drop (length xs) xs ≡ []
none_behind [] = refl
none_behind (x ∷ xs) = none_behind xs

-- the last element not yet seen stands before those that were
pub one_more : (xs : List Name) (k : ℕ) (x : Name) → 0 < k → k ≤ length xs → x ≡ get_or xs (k - 1) x → drop (k - 1) xs ≡ x ∷ drop k xs
one_more xs k x some within read =
    let next : suc (k - 1) ≡ k = omega (arith, some) in
    drop-cons xs (k - 1) x (omega (arith, some, within)) ∙ (λ i. sym read i ∷ drop (next i) xs)
