-- Numbers of cases, counted up to 65.
use Rattle.std.proofs.Common.{◌≡◌, ℕ, zero, suc, ◌*◌, ◌≤◌, min, nat_le, Bool, true, false, List, [], ◌∷◌, ◌++◌, length, arith, refl, sym, ap, ap₂, ◌∙◌}
use Rattle.std.proofs.lemmas.Bool.Decides.{nat_tests}
use Rattle.affine_forms.specs.Formulas.{Formula, cases, cases_of_all}
use Rattle.affine_systems.proofs.Products.{cases_last, length_product}

small : (x : ℕ) → nat_le x 64 ≡ true → min x 65 ≡ x
small x h = grind (arith, nat_tests)

big : (x : ℕ) → nat_le x 64 ≡ false → 65 ≤ x
big x h = grind (arith, nat_tests)

capped : (x : ℕ) → 65 ≤ x → min x 65 ≡ 65
capped x h = omega (arith, h)

large : (n z : ℕ) → 65 ≤ z → min (suc n * z) 65 ≡ 65
large n z h = capped (suc n * z) (omega (arith, h))

by_large : (x y : ℕ) → 65 ≤ y → min (x * 65) 65 ≡ min (x * y) 65
by_large zero y h = let a : 0 * 65 ≡ 0 = omega arith in let b : 0 * y ≡ 0 = omega arith in ap (λ n. min n 65) (a ∙ sym b)
by_large (suc x) y h = large x 65 (omega arith) ∙ sym (large x y h)

pub min_times : (x y : ℕ) → min (min x 65 * min y 65) 65 ≡ min (x * y) 65
min_times x y = go (nat_le x 64) refl (nat_le y 64) refl
  where
    swapped : (a b : ℕ) → a * b ≡ b * a
    swapped a b = omega arith

    go : (s : Bool) → nat_le x 64 ≡ s → (t : Bool) → nat_le y 64 ≡ t → min (min x 65 * min y 65) 65 ≡ min (x * y) 65
    go true e true f = ap₂ (λ a b. min (a * b) 65) (small x e) (small y f)
    go true e false f = ap₂ (λ a b. min (a * b) 65) (small x e) (capped y (big y f)) ∙ by_large x y (big y f)
    go false e true f = ap₂ (λ a b. min (a * b) 65) (capped x (big x e)) (small y f) ∙ ap (λ n. min n 65) (swapped 65 y) ∙ by_large y x (big x e) ∙ ap (λ n. min n 65) (swapped y x)
    go false e false f = ap₂ (λ a b. min (a * b) 65) (capped x (big x e)) (capped y (big y f)) ∙ by_large 65 y (big y f) ∙ ap (λ n. min n 65) (swapped 65 y) ∙ by_large y x (big x e) ∙ ap (λ n. min n 65) (swapped y x)

-- one more formula
pub count_next : (fs : List Formula) (f : Formula) (c d : ℕ) → c ≡ min (length (cases_of_all fs)) 65 → d ≡ min (length (cases f)) 65 → min (c * d) 65 ≡ min (length (cases_of_all (fs ++ f ∷ []))) 65
count_next fs f c d h i =
    ap₂ (λ s t. min (s * t) 65) h i
    ∙ min_times (length (cases_of_all fs)) (length (cases f))
    ∙ ap (λ k. min k 65) (sym (ap length (cases_last fs f) ∙ length_product (cases_of_all fs) (cases f)))
