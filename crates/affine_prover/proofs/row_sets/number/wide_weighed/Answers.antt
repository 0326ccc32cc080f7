use Rattle.std.proofs.Common.{◌≡◌, cond, ◌&&◌, ℤ, ◌*ℤ◌, Some, None, rules, ap, sym, ◌∙◌}
use Rattle.std.proofs.lemmas.Int.{to_z-of_z}
use Rattle.std.specs.Int.{w128}
use Rattle.std.specs.Int.RustNames.{FitsSigned}
use Rattle.std.proofs.Math.Bool.{and-false}
use Rattle.affine_forms.specs.Bounds.{is_narrow}
use Rattle.affine_prover.specs.RowSets.Rows.{weighed, is_narrow_weighed}
use Rattle.affine_prover.proofs.OfRowSets.Narrow.{none-kept, weighed_steps}
use Rattle.affine_prover.proofs.row_sets.number.wide_weighed.Goals as goal

pub returns : goal.returns
returns c =
    let ff = c.ranges.f in
    let fx = c.ranges.x in
    let fg = c.ranges.g in
    let fy = c.ranges.y in
    let fl : FitsSigned w128 c.in_ok-left.left = search rules in
    let fr : FitsSigned w128 c.in_ok-right.right = search rules in
    weighed_steps c.args.f c.args.x c.args.g c.args.y c.in_ok-left.left c.in_ok-right.right c.sum.result (simp to_z-of_z at c.in_ok-left.ensures) (simp to_z-of_z at c.in_ok-right.ensures) (simp to_z-of_z at c.sum.ensures)

left-fails :
    (f x g y : ℤ) → None ≡ cond (is_narrow (f *ℤ x)) (Some (f *ℤ x)) None
    → None ≡ cond (is_narrow_weighed f x g y) (Some (weighed f x g y)) None
left-fails f x g y h =
    let wide = none-kept (is_narrow (f *ℤ x)) (f *ℤ x) h in
    sym (ap (λ t. cond (t && (is_narrow (g *ℤ y) && is_narrow (weighed f x g y))) (Some (weighed f x g y)) None) wide)

right-fails :
    (f x g y : ℤ) → None ≡ cond (is_narrow (g *ℤ y)) (Some (g *ℤ y)) None
    → None ≡ cond (is_narrow_weighed f x g y) (Some (weighed f x g y)) None
right-fails f x g y h =
    let wide = none-kept (is_narrow (g *ℤ y)) (g *ℤ y) h in
    sym (ap (λ t. cond (is_narrow (f *ℤ x) && (t && is_narrow (weighed f x g y))) (Some (weighed f x g y)) None) wide
    ∙ ap (λ t. cond t (Some (weighed f x g y)) None) (and-false (is_narrow (f *ℤ x))))

pub returns-in_err-left : goal.returns-in_err-left
returns-in_err-left c =
    let ff = c.ranges.f in
    let fx = c.ranges.x in
    c.from_residual.ensures ∙ left-fails c.args.f c.args.x c.args.g c.args.y (simp to_z-of_z at c.in_err-left.ensures)

pub returns-in_err-right : goal.returns-in_err-right
returns-in_err-right c =
    let fg = c.ranges.g in
    let fy = c.ranges.y in
    c.from_residual-in_err-right.ensures ∙ right-fails c.args.f c.args.x c.args.g c.args.y
    (simp to_z-of_z at c.in_err-right.ensures)
