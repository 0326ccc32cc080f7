-- The values of sums under the steps of the elimination.
use Rattle.std.proofs.Common.{ℕ, zero, suc, ◌≡◌, List, [], ◌∷◌, length, get_or, ℤ, pos, ◌+ℤ◌, ◌*ℤ◌, arith, refl}
use Rattle.std.specs.List.{remove}
use Rattle.std.proofs.lemmas.Int.{ints}
use Rattle.std.proofs.Math.IntN.{*ℤ-zero}
use Rattle.affine_forms.specs.Affine.{Affine, dot, value}
use Rattle.affine_prover.specs.RowSets.Rows.{weighed_lists, combined, without, coefficient}
use Rattle.affine_forms.proofs.Integers.{add-times, times-add, times_assoc}

-- the value of a list of weighed sums
pub dot-weighed_lists : (f : ℤ) (xs : List ℤ) (g : ℤ) (ys ps : List ℤ) → length xs ≡ length ys → dot (weighed_lists f xs g ys) ps ≡ f *ℤ dot xs ps +ℤ g *ℤ dot ys ps
dot-weighed_lists f [] g [] ps e = omega (arith, ints)
dot-weighed_lists f [] g (y ∷ ys) ps e = absurd (omega arith)
dot-weighed_lists f (x ∷ xs) g [] ps e = absurd (omega arith)
dot-weighed_lists f (x ∷ xs) g (y ∷ ys) [] e = omega (arith, ints)
dot-weighed_lists f (x ∷ xs) g (y ∷ ys) (p ∷ ps) e =
    let rest = dot-weighed_lists f xs g ys ps (omega arith) in
    omega (arith, ints, rest, add-times (f *ℤ x) (g *ℤ y) p, times_assoc f x p, times_assoc g y p, times-add f (x *ℤ p) (dot xs ps), times-add g (y *ℤ p) (dot ys ps))

pub value-combined : (f : ℤ) (a : Affine) (g : ℤ) (b : Affine) (ps : List ℤ) → length a.coefficients ≡ length b.coefficients → value (combined f a g b) ps ≡ f *ℤ value a ps +ℤ g *ℤ value b ps
value-combined f a g b ps e =
    let rest = dot-weighed_lists f a.coefficients g b.coefficients ps e in
    omega (arith, ints, rest, times-add f a.constant (dot a.coefficients ps), times-add g b.constant (dot b.coefficients ps))

dot-nil : (cs : List ℤ) → dot cs [] ≡ pos 0
dot-nil [] = refl
dot-nil (c ∷ cs) = refl

nil_right : (c : ℤ) (cs : List ℤ) → pos 0 ≡ c *ℤ pos 0 +ℤ dot cs []
nil_right c cs = omega (arith, ints, *ℤ-zero c, dot-nil cs)

-- a variable taken out of both lists takes its own product with it
pub dot-remove : (cs ps : List ℤ) (v : ℕ) → dot cs ps ≡ get_or cs v (pos 0) *ℤ get_or ps v (pos 0) +ℤ dot (remove cs v) (remove ps v)
dot-remove [] ps zero = omega (arith, ints)
dot-remove [] ps (suc v) = omega (arith, ints)
dot-remove (c ∷ cs) [] zero = nil_right c cs
dot-remove (c ∷ cs) [] (suc v) = omega (arith, ints, *ℤ-zero (get_or cs v (pos 0)))
dot-remove (c ∷ cs) (p ∷ ps) zero = refl
dot-remove (c ∷ cs) (p ∷ ps) (suc v) =
    let rest = dot-remove cs ps v in
    omega (arith, ints, rest)

pub value-without : (v : ℕ) (a : Affine) (ps : List ℤ) → value a ps ≡ coefficient a v *ℤ get_or ps v (pos 0) +ℤ value (without v a) (remove ps v)
value-without v a ps = omega (arith, ints, dot-remove a.coefficients ps v)
