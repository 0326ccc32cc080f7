use Rattle.std.proofs.Common.{ℕ, ◌/◌, ◌^◌, ◌<◌, ◌≡◌, cond, ℤ, pos, unsigned_abs, Some, None, arith, ap, sym, ◌∙◌, to_z}
use Rattle.std.proofs.Common.{of_z}
use Rattle.std.specs.Int.{w128}
use Rattle.std.proofs.lemmas.Int.{ints, to_z-of_z, fits_signed_from_abs}
use Rattle.std.proofs.Math.Nat.{div-le_self}
use Rattle.affine_forms.specs.Affine.{Affine}
use Rattle.affine_prover.specs.RowSets.Shapes.{IsNarrow}
use Rattle.affine_prover.specs.RowSets.Rows.{gcd, coefficient, without, combined, combination}
use Rattle.affine_prover.specs.RowSets.Rows.{is_narrow_combined, is_narrow_combination}
use Rattle.affine_prover.specs.RowSets.Rows.{lower_factor, upper_factor}
use Rattle.affine_prover.proofs.OfRowSets.Narrow.{some-kept, none-kept}
use Rattle.affine_prover.proofs.OfRowSets.RowFacts.{combined-width}
use Rattle.affine_prover.proofs.row_sets.combine.combination.Goals as goal

pub quotient-of_lower-requires : goal.quotient-of_lower-requires
quotient-of_lower-requires c =
    c.gcd-g.ensures.positive (omega (arith, ints, c.unsigned_abs-a.ensures.value, c.coefficient.ensures.value, c.requires.lower))

pub quotient-of_upper-requires : goal.quotient-of_upper-requires
quotient-of_upper-requires c =
    c.gcd-g.ensures.positive (omega (arith, ints, c.unsigned_abs-a.ensures.value, c.coefficient.ensures.value, c.requires.lower))

pub remove-requires : goal.remove-requires
remove-requires c =
    omega (arith, combined-width (to_z w128 c.quotient-of_lower.result) c.args.p.now (to_z w128 c.quotient-of_upper.result) c.args.q.now c.in-Some.row c.requires.wide (sym c.in-Some.is ∙ c.in_ok-row.ensures))

small : (n : ℕ) → n < 2 ^ 127 → to_z w128 n ≡ pos n
small n h = omega (arith, ints)

-- the factors that were computed
factors :
    (v : ℕ) (p q : Affine) (x y : ℤ) (a b g l u : ℕ) → x ≡ coefficient p v → IsNarrow x → y ≡ coefficient q v
    → IsNarrow y → a ≡ unsigned_abs (to_z w128 (of_z w128 x)) → b ≡ unsigned_abs (to_z w128 (of_z w128 y)) → g ≡ gcd a b
    → l ≡ b / g → u ≡ a / g → (to_z w128 l ≡ lower_factor v p q) × (to_z w128 u ≡ upper_factor v p q)
factors v p q x y a b g l u ex nx ey ny ea eb eg el eu =
    let fx = fits_signed_from_abs w128 x (omega (arith, nx)) in
    let fy = fits_signed_from_abs w128 y (omega (arith, ny)) in
    let ma : a ≡ unsigned_abs x = simp to_z-of_z at ea in
    let mb : b ≡ unsigned_abs y = simp to_z-of_z at eb in
    let ga = ma ∙ ap unsigned_abs ex in
    let gb = mb ∙ ap unsigned_abs ey in
    let m = unsigned_abs (coefficient p v) in (
      small l (omega (arith, el, div-le_self b g))
          ∙ ap pos (el ∙ ap (λ z. b / z) eg ∙ ap (λ z. b / gcd z b) ga ∙ ap (λ z. z / gcd m z) gb),
      small u (omega (arith, eu, div-le_self a g))
          ∙ ap pos (eu ∙ ap (λ z. a / z) eg ∙ ap (λ z. z / gcd z b) ga ∙ ap (λ z. m / gcd m z) gb),
    )

some_combination :
    (v : ℕ) (p q r s : Affine) (f g : ℤ) → (f ≡ lower_factor v p q) × (g ≡ upper_factor v p q)
    → Some r ≡ cond (is_narrow_combined f p g q) (Some (combined f p g q)) None → s ≡ without v r
    → Some s ≡ cond (is_narrow_combination v p q) (Some (combination v p q)) None
some_combination v p q r s f g e h is =
    let one = some-kept (is_narrow_combined f p g q) (combined f p g q) r h in
    ap Some (is ∙ ap (without v) one.1)
    ∙ sym (ap (λ t. cond t (Some (without v (combined f p g q))) None) one.0)
    ∙ ap (λ x. cond (is_narrow_combined x p g q) (Some (without v (combined x p g q))) None) e.0
    ∙ ap (λ y. cond (is_narrow_combined (lower_factor v p q) p y q)
    (Some (without v (combined (lower_factor v p q) p y q))) None) e.1

no_combination :
    (v : ℕ) (p q : Affine) (f g : ℤ) → (f ≡ lower_factor v p q) × (g ≡ upper_factor v p q)
    → None ≡ cond (is_narrow_combined f p g q) (Some (combined f p g q)) None
    → None ≡ cond (is_narrow_combination v p q) (Some (combination v p q)) None
no_combination v p q f g e h =
    let wide = none-kept (is_narrow_combined f p g q) (combined f p g q) h in
    sym (ap (λ t. cond t (Some (without v (combined f p g q))) None) wide)
    ∙ ap (λ x. cond (is_narrow_combined x p g q) (Some (without v (combined x p g q))) None) e.0
    ∙ ap (λ y. cond (is_narrow_combined (lower_factor v p q) p y q)
    (Some (without v (combined (lower_factor v p q) p y q))) None) e.1

pub returns-in-Some : goal.returns-in-Some
returns-in-Some c =
    let both = factors c.args.v c.args.p.now c.args.q.now c.coefficient.result c.coefficient-2.result
    c.unsigned_abs-a.result c.unsigned_abs-b.result c.gcd-g.result c.quotient-of_lower.result c.quotient-of_upper.result
    c.coefficient.ensures.value c.coefficient.ensures.narrow c.coefficient-2.ensures.value
    c.coefficient-2.ensures.narrow c.unsigned_abs-a.ensures.value c.unsigned_abs-b.ensures.value c.gcd-g.ensures.value
    c.quotient-of_lower.ensures c.quotient-of_upper.ensures in
    some_combination c.args.v c.args.p.now c.args.q.now c.in-Some.row c.remove.new.self
    (to_z w128 c.quotient-of_lower.result) (to_z w128 c.quotient-of_upper.result) both
    (sym c.in-Some.is ∙ c.in_ok-row.ensures) c.remove.ensures

pub returns-in-None : goal.returns-in-None
returns-in-None c =
    let both = factors c.args.v c.args.p.now c.args.q.now c.coefficient.result c.coefficient-2.result
    c.unsigned_abs-a.result c.unsigned_abs-b.result c.gcd-g.result c.quotient-of_lower.result c.quotient-of_upper.result
    c.coefficient.ensures.value c.coefficient.ensures.narrow c.coefficient-2.ensures.value
    c.coefficient-2.ensures.narrow c.unsigned_abs-a.ensures.value c.unsigned_abs-b.ensures.value c.gcd-g.ensures.value
    c.quotient-of_lower.ensures c.quotient-of_upper.ensures in
    no_combination c.args.v c.args.p.now c.args.q.now (to_z w128 c.quotient-of_lower.result)
    (to_z w128 c.quotient-of_upper.result) both (sym c.in-None.is ∙ c.in_ok-row.ensures)

pub combined-requires : goal.combined-requires
combined-requires c = c.requires.wide
