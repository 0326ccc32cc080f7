-- Steps that stop at a number that is too wide.
use Rattle.std.proofs.Common.{◌≤◌, ◌^◌, unsigned_abs, arith, Bool, true, false, cond, ◌&&◌, ◌≡◌, Option, Some, None, ℤ, ◌+ℤ◌, ◌*ℤ◌, ap, sym, ◌∙◌, refl}
use Rattle.std.proofs.lemmas.Bool.Decides.{nat_tests}
use Rattle.std.proofs.lemmas.Int.{ints, unsigned_abs-mul}
use Rattle.std.proofs.Math.Nat.{mul-le-mul_left}
use Rattle.affine_forms.specs.Bounds.{is_narrow}
use Rattle.affine_prover.specs.RowSets.Rows.{weighed, is_narrow_weighed}

-- what a test gave if it gave something
pub some-kept : {X : Type 0} (b : Bool) (x y : X) → Some y ≡ cond b (Some x) None → (b ≡ true) × (y ≡ x)
some-kept true x y e = (refl, cc)
some-kept false x y e = absurd cc

pub none-kept : {X : Type 0} (b : Bool) (x : X) → None ≡ cond b (Some x) None → b ≡ false
none-kept true x e = absurd cc
none-kept false x e = refl

pub weighed_steps : (f x g y left right : ℤ) (r : Option ℤ) → Some left ≡ cond (is_narrow (f *ℤ x)) (Some (f *ℤ x)) None → Some right ≡ cond (is_narrow (g *ℤ y)) (Some (g *ℤ y)) None → r ≡ cond (is_narrow (left +ℤ right)) (Some (left +ℤ right)) None → r ≡ cond (is_narrow_weighed f x g y) (Some (weighed f x g y)) None
weighed_steps f x g y left right r p q s =
    let a = some-kept (is_narrow (f *ℤ x)) (f *ℤ x) left p in
    let b = some-kept (is_narrow (g *ℤ y)) (g *ℤ y) right q in
    s ∙ ap (λ z. cond (is_narrow z) (Some z) None) (ap (λ z. z +ℤ right) a.1 ∙ ap (λ z. f *ℤ x +ℤ z) b.1) ∙ sym (ap (λ t. cond (t && (is_narrow (g *ℤ y) && is_narrow (weighed f x g y))) (Some (weighed f x g y)) None) a.0 ∙ ap (λ t. cond (t && is_narrow (weighed f x g y)) (Some (weighed f x g y)) None) b.0)

-- ---- small numbers, whose products and sums are narrow
pub product-small : (a b : ℤ) → unsigned_abs a ≤ 2 ^ 49 → unsigned_abs b ≤ 2 ^ 49 → unsigned_abs (a *ℤ b) ≤ 2 ^ 98
product-small a b h k = omega (arith, unsigned_abs-mul a b, mul-le-mul_left (unsigned_abs a) k, h)

pub sum-small : (a b : ℤ) → unsigned_abs a ≤ 2 ^ 98 → unsigned_abs b ≤ 2 ^ 98 → unsigned_abs (a +ℤ b) ≤ 2 ^ 99
sum-small a b h k = omega (arith, ints)

pub narrow_from : (z : ℤ) → unsigned_abs z ≤ 2 ^ 100 → is_narrow z ≡ true
narrow_from z h = grind (arith, nat_tests)

pub weighed-small : (f x g y : ℤ) → unsigned_abs f ≤ 2 ^ 49 → unsigned_abs x ≤ 2 ^ 49 → unsigned_abs g ≤ 2 ^ 49 → unsigned_abs y ≤ 2 ^ 49 → Some (weighed f x g y) ≡ cond (is_narrow_weighed f x g y) (Some (weighed f x g y)) None
weighed-small f x g y h k m n =
    let p = product-small f x h k in
    let q = product-small g y m n in
    let a = narrow_from (f *ℤ x) (omega (arith, p)) in
    let b = narrow_from (g *ℤ y) (omega (arith, q)) in
    let c = narrow_from (f *ℤ x +ℤ g *ℤ y) (omega (arith, sum-small (f *ℤ x) (g *ℤ y) p q)) in
    sym (ap (λ t. cond (t && (is_narrow (g *ℤ y) && is_narrow (weighed f x g y))) (Some (weighed f x g y)) None) a ∙ ap (λ t. cond (t && is_narrow (weighed f x g y)) (Some (weighed f x g y)) None) b ∙ ap (λ t. cond t (Some (weighed f x g y)) None) c)
