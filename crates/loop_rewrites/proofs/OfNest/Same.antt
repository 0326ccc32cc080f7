-- Blocks that are the same.
use Rattle.std.proofs.Common.{◌≡◌, ◌≢◌, ℕ, zero, suc, Bool, true, false, ◌&&◌, List, [], ◌∷◌}
use Rattle.std.proofs.Common.{length, drop, refl, sym, ap, ap₂, ◌∙◌, arith}
use Rattle.exo_tree.specs.Tree.{Statement, block}
use Rattle.loop_laws.specs.SameTrees.{same_statement, same_block}

and_false : (t : Bool) → t && false ≡ false
and_false true = refl
and_false false = refl

pub other_length : (xs ys : List Statement) → length xs ≢ length ys
    → false ≡ same_block (block xs) (block ys)
other_length [] [] h = absurd (h refl)
other_length [] (y ∷ ys) h = refl
other_length (x ∷ xs) [] h = refl
other_length (x ∷ xs) (y ∷ ys) h =
    sym (ap (λ t. same_statement x y && t)
    (sym (other_length xs ys (λ e. h (omega (arith, e)))))
    ∙ and_false (same_statement x y))

none_left : (k : ℕ) (xs : List Statement) → length xs ≡ k → drop k xs ≡ []
none_left zero [] h = refl
none_left zero (x ∷ xs) h = absurd (omega (arith, h))
none_left (suc k) [] h = refl
none_left (suc k) (x ∷ xs) h = none_left k xs (omega (arith, h))

pub all_same : (k : ℕ) (xs ys : List Statement) → length xs ≡ k → length ys ≡ k
    → true ≡ same_block (block (drop k xs)) (block (drop k ys))
all_same k xs ys h l =
    sym (ap₂ (λ p q. same_block (block p) (block q)) (none_left k xs h) (none_left k ys l))
