-- Counts of binders.
use Rattle.std.proofs.Common.{◌≡◌, ◌+◌, ◌++◌, ℕ, zero, suc, List, [], ◌∷◌, length, drop, take, ap, arith}
use Rattle.std.proofs.lemmas.List.{length-append}
use Rattle.exo_tree.specs.Tree.{Statement, Block, block}
use Rattle.exo_tree.specs.Renaming.{binders, binders_below}

-- one statement more
pub one_more : (ss : List Statement) (k : ℕ) (a : Statement) (rest : List Statement) → drop k ss ≡ a ∷ rest
    → length (binders (block (take (suc k) ss))) ≡ length (binders (block (take k ss))) + length (binders_below a)
one_more [] zero a rest e = cc
one_more [] (suc k) a rest e = cc
one_more (b ∷ ss) zero a rest e =
    let same : b ≡ a = cc in
    let both = length-append (binders_below b) [] in
    omega (arith, both, ap (λ x. length (binders_below x)) same)
one_more (b ∷ ss) (suc k) a rest e =
    let shorter = length-append (binders_below b) (binders (block (take k ss))) in
    let longer = length-append (binders_below b) (binders (block (take (suc k) ss))) in
    omega (arith, shorter, longer, one_more ss k a rest e)

pub binders_of_two : (a b : Block) → length (binders a ++ binders b) ≡ length (binders a) + length (binders b)
binders_of_two a b = length-append (binders a) (binders b)
