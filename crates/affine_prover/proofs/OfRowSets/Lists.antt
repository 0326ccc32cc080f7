-- One more step of the loops over lists of coefficients.
use Rattle.std.proofs.Common.{ℕ, zero, suc, ◌+◌, ◌<◌, ◌≡◌, true, false, cond, ◌&&◌, List, [], ◌∷◌, ◌++◌, map, length, take, drop, set, get_or, ℤ, pos, unsigned_abs, Some, None, arith, ap, sym, ◌∙◌, refl, add-one}
use Rattle.std.proofs.lemmas.Nat.Gcd.{dvd_antisymm}
use Rattle.std.proofs.lemmas.List.Folds.{fold_stuck}
use Rattle.std.proofs.lemmas.List.Sums.{fold_more}
use Rattle.affine_prover.specs.RowSets.Rows.{gcd, gcd_of, weighed, weighed_lists, is_narrow_weighed}
use Rattle.affine_prover.specs.RowSets.Rows.{are_narrow_weighed}
use Rattle.affine_forms.specs.Bounds.{is_narrow}
use Rattle.affine_prover.specs.RowSets.Shapes.{AreNarrow}
use Rattle.affine_prover.proofs.OfRowSets.Divisors.{gcd-is}
use Rattle.std.proofs.Math.Nat.{one-dvd}
use Rattle.std.proofs.Math.Bool.{and-false}
use Rattle.affine_prover.proofs.OfRowSets.Everywhere.{both}
use Rattle.affine_prover.proofs.OfRowSets.Narrow.{some-kept, none-kept, narrow_from}
use Rattle.std.proofs.Common.{◌≤◌}
use Rattle.std.proofs.lemmas.List.{take_all, drop_more, take_more_set, map_more, drop-set-lt}

pub gcd-one : (a : ℕ) → gcd a 1 ≡ 1
gcd-one a = dvd_antisymm (gcd-is a 1).1 (one-dvd (gcd a 1))

pub gcd_of-more : (cs : List ℤ) (i g : ℕ) → i < length cs → g ≡ gcd_of (take i cs) →
    gcd (unsigned_abs (get_or cs i (pos 0))) g ≡ gcd_of (take (i + 1) cs)
gcd_of-more cs i g l e = ap (gcd (unsigned_abs (get_or cs i (pos 0)))) e ∙ sym (fold_more (λ g c. gcd (unsigned_abs c) g) 0 cs i (pos 0) l)

pub gcd_of-stuck : (cs : List ℤ) (i : ℕ) → i < length cs → gcd (unsigned_abs (get_or cs i (pos 0))) (gcd_of (take i cs)) ≡ 1 → 1 ≡ gcd_of cs
gcd_of-stuck cs i l e = fold_stuck (λ g c. gcd (unsigned_abs c) g) 1 (λ c. gcd-one (unsigned_abs c)) 0 cs i (pos 0) l e

pub weighed_lists-more : (f : ℤ) (xs : List ℤ) (g : ℤ) (ys : List ℤ) (i : ℕ) → i < length xs → i < length ys → weighed_lists f (take (suc i) xs) g (take (suc i) ys) ≡ weighed_lists f (take i xs) g (take i ys) ++ weighed f (get_or xs i (pos 0)) g (get_or ys i (pos 0)) ∷ []
weighed_lists-more f [] g ys i l m = absurd (omega arith)
weighed_lists-more f (x ∷ xs) g [] i l m = absurd (omega arith)
weighed_lists-more f (x ∷ xs) g (y ∷ ys) zero l m = refl
weighed_lists-more f (x ∷ xs) g (y ∷ ys) (suc i) l m = ap (λ zs. weighed f x g y ∷ zs) (weighed_lists-more f xs g ys i (omega arith) (omega arith))

pub are_narrow-more : (f : ℤ) (xs : List ℤ) (g : ℤ) (ys : List ℤ) (i : ℕ) → i < length xs → i < length ys → are_narrow_weighed f (take i xs) g (take i ys) ≡ true → is_narrow_weighed f (get_or xs i (pos 0)) g (get_or ys i (pos 0)) ≡ true → are_narrow_weighed f (take (suc i) xs) g (take (suc i) ys) ≡ true
are_narrow-more f [] g ys i l m h k = absurd (omega arith)
are_narrow-more f (x ∷ xs) g [] i l m h k = absurd (omega arith)
are_narrow-more f (x ∷ xs) g (y ∷ ys) zero l m h k = ap (λ t. t && true) k
are_narrow-more f (x ∷ xs) g (y ∷ ys) (suc i) l m h k =
    let parts = both (is_narrow_weighed f x g y) (are_narrow_weighed f (take i xs) g (take i ys)) h in
    ap (λ t. t && are_narrow_weighed f (take (suc i) xs) g (take (suc i) ys)) parts.0 ∙ are_narrow-more f xs g ys i (omega arith) (omega arith) parts.1 k

pub are_narrow-fails : (f : ℤ) (xs : List ℤ) (g : ℤ) (ys : List ℤ) (i : ℕ) → i < length xs → i < length ys → is_narrow_weighed f (get_or xs i (pos 0)) g (get_or ys i (pos 0)) ≡ false → are_narrow_weighed f xs g ys ≡ false
are_narrow-fails f [] g ys i l m k = absurd (omega arith)
are_narrow-fails f (x ∷ xs) g [] i l m k = absurd (omega arith)
are_narrow-fails f (x ∷ xs) g (y ∷ ys) zero l m k = ap (λ t. t && are_narrow_weighed f xs g ys) k
are_narrow-fails f (x ∷ xs) g (y ∷ ys) (suc i) l m k = ap (λ t. is_narrow_weighed f x g y && t) (are_narrow-fails f xs g ys i (omega arith) (omega arith) k) ∙ and-false (is_narrow_weighed f x g y)

-- ---- the steps of the loop that weighs two lists
pub none-weighed : (f : ℤ) (xs : List ℤ) (g : ℤ) (ys : List ℤ) (i : ℕ) → i < length xs → length xs ≡ length ys → None ≡ cond (is_narrow_weighed f (get_or xs i (pos 0)) g (get_or ys i (pos 0))) (Some (weighed f (get_or xs i (pos 0)) g (get_or ys i (pos 0)))) None → None ≡ cond (are_narrow_weighed f xs g ys) (Some (weighed_lists f xs g ys)) None
none-weighed f xs g ys i l e h =
    let wide = none-kept (is_narrow_weighed f (get_or xs i (pos 0)) g (get_or ys i (pos 0))) (weighed f (get_or xs i (pos 0)) g (get_or ys i (pos 0))) h in
    sym (ap (λ t. cond t (Some (weighed_lists f xs g ys)) None) (are_narrow-fails f xs g ys i l (omega arith) wide))

pub some-weighed : (f : ℤ) (xs : List ℤ) (g : ℤ) (ys : List ℤ) (i : ℕ) (z : ℤ) (out next : List ℤ) → i < length xs → length xs ≡ length ys → Some z ≡ cond (is_narrow_weighed f (get_or xs i (pos 0)) g (get_or ys i (pos 0))) (Some (weighed f (get_or xs i (pos 0)) g (get_or ys i (pos 0)))) None → out ≡ weighed_lists f (take i xs) g (take i ys) → are_narrow_weighed f (take i xs) g (take i ys) ≡ true → next ≡ out ++ z ∷ [] → (next ≡ weighed_lists f (take (i + 1) xs) g (take (i + 1) ys)) × (are_narrow_weighed f (take (i + 1) xs) g (take (i + 1) ys) ≡ true)
some-weighed f xs g ys i z out next l e h made narrow pushed =
    let is = some-kept (is_narrow_weighed f (get_or xs i (pos 0)) g (get_or ys i (pos 0))) (weighed f (get_or xs i (pos 0)) g (get_or ys i (pos 0))) z h in
    let more = weighed_lists-more f xs g ys i l (omega arith) in
    let fits = are_narrow-more f xs g ys i l (omega arith) narrow is.0 in
    rw add-one (pushed ∙ ap (λ zs. zs ++ z ∷ []) made ∙ ap (λ y. weighed_lists f (take i xs) g (take i ys) ++ y ∷ []) is.1 ∙ sym more, fits)

pub all-weighed : (f : ℤ) (xs : List ℤ) (g : ℤ) (ys : List ℤ) (i : ℕ) (out : List ℤ) → length xs ≤ i → length xs ≡ length ys → out ≡ weighed_lists f (take i xs) g (take i ys) → are_narrow_weighed f (take i xs) g (take i ys) ≡ true → Some out ≡ cond (are_narrow_weighed f xs g ys) (Some (weighed_lists f xs g ys)) None
all-weighed f xs g ys i out l e made narrow =
    let whole = take_all i xs l in
    let other = take_all i ys (omega arith) in
    let n : are_narrow_weighed f xs g ys ≡ true = ap (λ zs. are_narrow_weighed f zs g ys) (sym whole) ∙ ap (λ zs. are_narrow_weighed f (take i xs) g zs) (sym other) ∙ narrow in
    let m : out ≡ weighed_lists f xs g ys = made ∙ ap (λ zs. weighed_lists f zs g (take i ys)) whole ∙ ap (λ zs. weighed_lists f xs g zs) other in
    ap Some m ∙ sym (ap (λ t. cond t (Some (weighed_lists f xs g ys)) None) n)

-- the number at a place that is still as it was
pub left-at : (xs old : List ℤ) (i : ℕ) → i < length xs → length xs ≡ length old → drop i xs ≡ drop i old → (get_or xs i (pos 0) ≡ get_or old i (pos 0)) × (drop (i + 1) xs ≡ drop (i + 1) old)
left-at xs old i l e left =
    let here = drop_more xs i (pos 0) l in
    let there = drop_more old i (pos 0) (omega arith) in
    let split : (get_or xs i (pos 0) ∷ drop (i + 1) xs) ≡ (get_or old i (pos 0) ∷ drop (i + 1) old) = sym here ∙ left ∙ there in
    let same : get_or xs i (pos 0) ≡ get_or old i (pos 0) = cc in
    let rest : drop (i + 1) xs ≡ drop (i + 1) old = cc in
    (same, rest)

-- ---- the steps of the loop that adds to a list in place
pub added-more : (g z : ℤ) (xs old ys : List ℤ) (i : ℕ) → i < length xs → length xs ≡ length old → length xs ≡ length ys → take i xs ≡ weighed_lists (pos 1) (take i old) g (take i ys) → drop i xs ≡ drop i old → are_narrow_weighed (pos 1) (take i old) g (take i ys) ≡ true → Some z ≡ cond (is_narrow_weighed (pos 1) (get_or xs i (pos 0)) g (get_or ys i (pos 0))) (Some (weighed (pos 1) (get_or xs i (pos 0)) g (get_or ys i (pos 0)))) None → ((take (i + 1) (set xs i z) ≡ weighed_lists (pos 1) (take (i + 1) old) g (take (i + 1) ys)) × (are_narrow_weighed (pos 1) (take (i + 1) old) g (take (i + 1) ys) ≡ true)) × (drop (i + 1) (set xs i z) ≡ drop (i + 1) old)
added-more g z xs old ys i l e o done left narrow is =
    let at = left-at xs old i l e left in
    let y = get_or ys i (pos 0) in
    let from : Some z ≡ cond (is_narrow_weighed (pos 1) (get_or old i (pos 0)) g y) (Some (weighed (pos 1) (get_or old i (pos 0)) g y)) None = is ∙ ap (λ x. cond (is_narrow_weighed (pos 1) x g y) (Some (weighed (pos 1) x g y)) None) at.0 in (
      some-weighed (pos 1) old g ys i z (take i xs) (take (i + 1) (set xs i z)) (omega arith) (omega arith) from done narrow (take_more_set xs i z l),
      drop-set-lt (i + 1) xs i z (omega arith) ∙ at.1,
    )

pub added-fails : (g : ℤ) (xs old ys : List ℤ) (i : ℕ) → i < length xs → length xs ≡ length old → length xs ≡ length ys → drop i xs ≡ drop i old → None ≡ cond (is_narrow_weighed (pos 1) (get_or xs i (pos 0)) g (get_or ys i (pos 0))) (Some (weighed (pos 1) (get_or xs i (pos 0)) g (get_or ys i (pos 0)))) None → false ≡ are_narrow_weighed (pos 1) old g ys
added-fails g xs old ys i l e o left is =
    let at = left-at xs old i l e left in
    let y = get_or ys i (pos 0) in
    let wide = none-kept (is_narrow_weighed (pos 1) (get_or xs i (pos 0)) g y) (weighed (pos 1) (get_or xs i (pos 0)) g y) is in
    sym (are_narrow-fails (pos 1) old g ys i (omega arith) (omega arith) (ap (λ x. is_narrow_weighed (pos 1) x g y) (sym at.0) ∙ wide))

narrow-number : (zs : List ℤ) (i : ℕ) → i < length zs → AreNarrow zs → is_narrow (get_or zs i (pos 0)) ≡ true
narrow-number [] i l h = absurd (omega arith)
narrow-number (z ∷ zs) zero l h = narrow_from z h.0
narrow-number (z ∷ zs) (suc i) l h = narrow-number zs i (omega arith) h.1

pub left-narrow : (xs old : List ℤ) (i : ℕ) → i < length xs → length xs ≡ length old → drop i xs ≡ drop i old → AreNarrow old → is_narrow (get_or xs i (pos 0)) ≡ true
left-narrow xs old i l e left h = ap is_narrow (left-at xs old i l e left).0 ∙ narrow-number old i (omega arith) h

-- one more number that a function has been put to in place
pub mapped-more : (f : ℤ → ℤ) (z : ℤ) (cs old : List ℤ) (i : ℕ) → i < length cs → length cs ≡ length old → take i cs ≡ map f (take i old) → drop i cs ≡ drop i old → z ≡ f (get_or cs i (pos 0)) → (take (i + 1) (set cs i z) ≡ map f (take (i + 1) old)) × (drop (i + 1) (set cs i z) ≡ drop (i + 1) old)
mapped-more f z cs old i l e done left is =
    let at = left-at cs old i l e left in (
      take_more_set cs i z l ∙ ap (λ zs. zs ++ z ∷ []) done ∙ ap (λ y. map f (take i old) ++ y ∷ []) (is ∙ ap f at.0) ∙ sym (map_more f old i (pos 0) (omega arith)),
      drop-set-lt (i + 1) cs i z (omega arith) ∙ at.1,
    )
