-- The parts of a block.
use Rattle.std.proofs.Common.{◌≡◌, ◌≢◌, ◌≤◌, ◌<◌, ◌+◌, ◌-◌, ℕ, zero, suc, true, false, List, [], ◌∷◌}
use Rattle.std.proofs.Common.{length, take, drop, Some, None, option_map, refl, ap, ap₂, sym, ◌∙◌, arith}
use Rattle.std.specs.Prelude.{slice_range}
use Rattle.std.proofs.lemmas.List.{take_rest}
use Rattle.exo_tree.specs.Tree.{Statement, Block, next, block}
use Rattle.exo_tree.specs.Places.{parted}
use Rattle.exo_meaning.specs.Units.{is_empty}

pub parted_list : (n : ℕ) (ss : List Statement) → n ≤ length ss
    → parted n (block ss) ≡ Some (block (take n ss), block (drop n ss))
parted_list zero ss h = refl
parted_list (suc n) [] h = absurd (omega (arith, h))
parted_list (suc n) (a ∷ ss) h =
    ap (option_map (λ (p : Block × Block). (next a p.0, p.1))) (parted_list n ss (omega (arith, h)))

pub parted_none : (n : ℕ) (ss : List Statement) → length ss < n → None ≡ parted n (block ss)
parted_none zero ss h = absurd (omega (arith, h))
parted_none (suc n) [] h = refl
parted_none (suc n) (a ∷ ss) h =
    ap (option_map (λ (p : Block × Block). (next a p.0, p.1))) (parted_none n ss (omega (arith, h)))

-- the pieces up to a number and from it on
pub parted_pieces : (n : ℕ) (ss first second : List Statement) → n ≤ length ss
    → first ≡ slice_range ss 0 (0 + n)
    → second ≡ slice_range ss n (n + (length ss - n))
    → Some (block first, block second) ≡ parted n (block ss)
parted_pieces n ss first second h f s =
    let up_to : (0 + n) - 0 ≡ n = omega arith in
    let from : (n + (length ss - n)) - n ≡ length ss - n = omega arith in
    let first_is : first ≡ take n ss = f ∙ ap (λ k. take k ss) up_to in
    let second_is : second ≡ drop n ss =
    s ∙ ap (λ k. take k (drop n ss)) from ∙ take_rest ss n in
    ap₂ (λ x y. Some (block x, block y)) first_is second_is ∙ sym (parted_list n ss h)

pub is_none : (ss : List Statement) → length ss ≡ 0 → is_empty (block ss) ≡ true
is_none [] h = refl
is_none (a ∷ ss) h = absurd (omega (arith, h))

pub is_some : (ss : List Statement) → length ss ≢ 0 → is_empty (block ss) ≡ false
is_some [] h = absurd (h refl)
is_some (a ∷ ss) h = refl
