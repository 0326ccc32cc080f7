use Rattle.std.proofs.Common.{ℕ, ◌<◌, ◌≡◌, Some, None, cond, ◌&&◌, ap, sym, subst, ◌∙◌, arith, refl, ℤ, pos, take, drop}
use Rattle.std.proofs.Common.{◌++◌, length}
use Rattle.std.proofs.lemmas.Int.{to_z-of_z, fits_signed_from_abs}
use Rattle.std.proofs.lemmas.List.{with_items_is}
use Rattle.std.specs.Int.{w128}
use Rattle.std.specs.Int.RustNames.{FitsSigned}
use Rattle.std.specs.List.{remove}
use Rattle.affine_forms.specs.Affine.{Affine}
use Rattle.affine_prover.specs.RowSets.Shapes.{IsNarrow, AreNarrow}
use Rattle.affine_prover.specs.RowSets.Rows.{combined, is_narrow_combined, without, weighed_lists}
use Rattle.affine_prover.specs.RowSets.Rows.{weighed, is_narrow_weighed, are_narrow_weighed}
use Rattle.affine_prover.proofs.OfRowSets.Narrow.{none-kept}
use Rattle.affine_prover.proofs.OfRowSets.RowFacts.{affine_same, kept-list, failed-list}
use Rattle.affine_prover.proofs.OfRowSets.RowFacts.{removed-made, removed-none}
use Rattle.affine_prover.proofs.row_sets.row.DenseRow.substituted.Goals as goal

pub returns-then-not-add_times : goal.returns-then-not-add_times
returns-then-not-add_times c =
    let a : Affine = record { constant = c.self.inside.constant; coefficients = c.self.inside.coefficients.items } in
    let b : Affine = record { constant = c.e.inside.constant; coefficients = c.e.inside.coefficients.items } in
    let f = c.solving_factor-factor.result in
    let v = c.args.v in
    let ff : FitsSigned w128 c.solving_factor-factor.result = record { sfits = c.solving_factor-factor.type_inv } in
    let fa : FitsSigned w128 c.self.inside.constant = fits_signed_from_abs w128 c.self.inside.constant (omega (arith, c.self.invariant.0)) in
    let fb : FitsSigned w128 c.e.inside.constant = fits_signed_from_abs w128 c.e.inside.constant (omega (arith, c.e.invariant.0)) in
    let test = simp (to_z-of_z, c.deref_mut.ensures.value, c.deref.ensures.value) at c.add_times.ensures.narrow in
    let wide = failed-list c.add_times.result (are_narrow_weighed (pos 1) a.coefficients f b.coefficients) (weighed_lists (pos 1) a.coefficients f b.coefficients) test c.if-not-add_times.true in
    removed-none (pos 1) a f b v c.in_ok-constant.constant (simp to_z-of_z at c.in_ok-constant.ensures) wide
    ∙ ap (λ r. cond (is_narrow_combined (pos 1) r f b) (Some (without v (combined (pos 1) r f b))) None) c.self.view_is
    ∙ ap (λ r. cond (is_narrow_combined (pos 1) c.args.self f r) (Some (without v (combined (pos 1) c.args.self f r))) None) c.e.view_is
    ∙ ap (λ g. cond (is_narrow_combined (pos 1) c.args.self g c.args.e.now) (Some (without v (combined (pos 1) c.args.self g c.args.e.now))) None) c.solving_factor-factor.ensures

-- both parts were made
made : (c : goal.After-remove-gone) → (IsNarrow c.in_ok-constant.constant × AreNarrow c.remove-gone.new.self.items) × (Some (record { constant = c.in_ok-constant.constant; coefficients = c.remove-gone.new.self.items }) ≡ cond (is_narrow_combined (pos 1) (record { constant = c.self.inside.constant; coefficients = c.self.inside.coefficients.items }) c.solving_factor-factor.result (record { constant = c.e.inside.constant; coefficients = c.e.inside.coefficients.items })) (Some (without c.args.v (combined (pos 1) (record { constant = c.self.inside.constant; coefficients = c.self.inside.coefficients.items }) c.solving_factor-factor.result (record { constant = c.e.inside.constant; coefficients = c.e.inside.coefficients.items })))) None)
made c =
    let a : Affine = record { constant = c.self.inside.constant; coefficients = c.self.inside.coefficients.items } in
    let b : Affine = record { constant = c.e.inside.constant; coefficients = c.e.inside.coefficients.items } in
    let f = c.solving_factor-factor.result in
    let v = c.args.v in
    let ff : FitsSigned w128 c.solving_factor-factor.result = record { sfits = c.solving_factor-factor.type_inv } in
    let fa : FitsSigned w128 c.self.inside.constant = fits_signed_from_abs w128 c.self.inside.constant (omega (arith, c.self.invariant.0)) in
    let fb : FitsSigned w128 c.e.inside.constant = fits_signed_from_abs w128 c.e.inside.constant (omega (arith, c.e.invariant.0)) in
    let test = simp (to_z-of_z, c.deref_mut.ensures.value, c.deref.ensures.value) at c.add_times.ensures.narrow in
    let sum = simp (to_z-of_z, c.deref_mut.ensures.value, c.deref.ensures.value) at c.add_times.ensures.sum in
    let list = kept-list c.add_times.result (are_narrow_weighed (pos 1) a.coefficients f b.coefficients) c.add_times.new.xs (weighed_lists (pos 1) a.coefficients f b.coefficients) test c.if-not-add_times.false (sum c.if-not-add_times.false) in
    let kept = c.add_times.auto.xs in
    let items : take c.self.inside.coefficients.len (c.add_times.new.xs ++ drop (length c.add_times.new.xs) c.self.inside.coefficients.items) ≡ c.add_times.new.xs = with_items_is c.self.inside.coefficients c.add_times.new.xs (omega arith) in
    removed-made (pos 1) a f b v c.in_ok-constant.constant c.add_times.new.xs c.remove-gone.new.self.items (simp to_z-of_z at c.in_ok-constant.ensures) list (c.remove-gone.ensures.items ∙ ap (λ zs. remove zs v) items)

pub invariant_of-result : goal.invariant_of-result
invariant_of-result c =
    let fk : FitsSigned w128 c.in_ok-constant.constant = fits_signed_from_abs w128 c.in_ok-constant.constant
    (omega (arith, (made c).0.0)) in
    simp to_z-of_z (made c).0

pub returns : goal.returns
returns c =
    let b : Affine = record { constant = c.e.inside.constant; coefficients = c.e.inside.coefficients.items } in
    let f = c.solving_factor-factor.result in
    let v = c.args.v in
    let fk : FitsSigned w128 c.in_ok-constant.constant = fits_signed_from_abs w128 c.in_ok-constant.constant
    (omega (arith, (made c).0.0)) in
    ap Some (affine_same (to_z-of_z w128 c.in_ok-constant.constant fk) refl) ∙ (made c).1
    ∙ ap (λ r. cond (is_narrow_combined (pos 1) r f b) (Some (without v (combined (pos 1) r f b))) None) c.self.view_is
    ∙ ap (λ r. cond (is_narrow_combined (pos 1) c.args.self f r) (Some (without v (combined (pos 1) c.args.self f r))) None) c.e.view_is
    ∙ ap (λ g. cond (is_narrow_combined (pos 1) c.args.self g c.args.e.now) (Some (without v (combined (pos 1) c.args.self g c.args.e.now))) None) c.solving_factor-factor.ensures

-- the constants were too wide
constant-fails :
    (f : ℤ) (a : Affine) (g : ℤ) (b : Affine) (v : ℕ)
    → None ≡ cond (is_narrow_weighed f a.constant g b.constant) (Some (weighed f a.constant g b.constant)) None
    → None ≡ cond (is_narrow_combined f a g b) (Some (without v (combined f a g b))) None
constant-fails f a g b v h =
    let wide = none-kept (is_narrow_weighed f a.constant g b.constant) (weighed f a.constant g b.constant) h in
    sym (ap (λ t. cond (t && are_narrow_weighed f a.coefficients g b.coefficients) (Some (without v (combined f a g b)))
    None) wide)

pub returns-in_err-constant : goal.returns-in_err-constant
returns-in_err-constant c =
    let a : Affine = record { constant = c.self.inside.constant; coefficients = c.self.inside.coefficients.items } in
    let b : Affine = record { constant = c.e.inside.constant; coefficients = c.e.inside.coefficients.items } in
    let f = c.solving_factor-factor.result in
    let v = c.args.v in
    let ff : FitsSigned w128 c.solving_factor-factor.result = record { sfits = c.solving_factor-factor.type_inv } in
    let fa : FitsSigned w128 c.self.inside.constant = fits_signed_from_abs w128 c.self.inside.constant (omega (arith, c.self.invariant.0)) in
    let fb : FitsSigned w128 c.e.inside.constant = fits_signed_from_abs w128 c.e.inside.constant (omega (arith, c.e.invariant.0)) in
    c.from_residual.ensures
    ∙ constant-fails (pos 1) a f b v (simp to_z-of_z at c.in_err-constant.ensures)
    ∙ ap (λ r. cond (is_narrow_combined (pos 1) r f b) (Some (without v (combined (pos 1) r f b))) None) c.self.view_is
    ∙ ap (λ r. cond (is_narrow_combined (pos 1) c.args.self f r) (Some (without v (combined (pos 1) c.args.self f r))) None) c.e.view_is
    ∙ ap (λ g. cond (is_narrow_combined (pos 1) c.args.self g c.args.e.now) (Some (without v (combined (pos 1) c.args.self g c.args.e.now))) None) c.solving_factor-factor.ensures

pub remove-gone-requires : goal.remove-gone-requires
remove-gone-requires c =
    let width = ap (λ (r : Affine). length r.coefficients) c.self.view_is ∙ c.requires.wide in
    subst (λ n. c.args.v < n) (sym (c.self.inside.coefficients.ok.0 ∙ width)) c.requires.below

pub add_times-requires-clause-same : goal.add_times-requires-clause-same
add_times-requires-clause-same c =
    ap length c.deref_mut.ensures.value
    ∙ ap (λ (r : Affine). length r.coefficients) c.self.view_is
    ∙ c.requires.wide
    ∙ sym (ap (λ (r : Affine). length r.coefficients) c.e.view_is)
    ∙ sym (ap length c.deref.ensures.value)

pub add_times-requires-clause-narrow : goal.add_times-requires-clause-narrow
add_times-requires-clause-narrow c = subst AreNarrow (sym c.deref_mut.ensures.value) c.self.invariant.1
