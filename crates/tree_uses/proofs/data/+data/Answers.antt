use Rattle.std.proofs.Common.{◌&&◌, Bool, refl, sym, ap, ap₂, ◌∙◌, ◌+◌, ◌*◌, ◌<◌, arith}
use Rattle.exo_tree.specs.PlainDatum.{datum}
use Rattle.exo_tree.specs.Tree as tree
use Rattle.exo_tree.specs.declared.data.DataExpr.{DataExpr}
use Rattle.exo_tree.proofs.data.DataExpr.TheLaws.{the_size}
use Rattle.tree_uses.specs.Uses.{Uses, used_datum, datum_fits}
use Rattle.tree_uses.proofs.Nodes.{of_four, node_made, one_made, one_fits, two_made, two_fit}
use Rattle.tree_uses.proofs.Nodes.{handed_on, handed_wide, first_handed_on, second_handed_on}
use Rattle.tree_uses.proofs.Nodes.{both_made, no_memory}
use Rattle.tree_uses.proofs.data.+data.Goals as goal

abbrev used : Uses → DataExpr → tree.Datum
used to e = used_datum to (datum e)

abbrev fits : Uses → DataExpr → Bool
fits to e = datum_fits to (datum e)

pub used_datum-returns-in-Lit-clause-fits : goal.used_datum-returns-in-Lit-clause-fits
used_datum-returns-in-Lit-clause-fits g t c =
    ap (fits (g.U.Uses.uses c.args.uses.now)) c.in-Lit.is

pub used_datum-returns-in_ok-indices-in-Read : goal.used_datum-returns-in_ok-indices-in-Read
used_datum-returns-in_ok-indices-in-Read g t c =
    let to = g.U.Uses.uses c.args.uses.now in
    let at = c.in_ok-indices-in-Read.ensures in
    node_made (used to) (fits to) c.in-Read.is (ap₂ tree.Read c.name.ensures at.value) at.fits

pub used_datum-returns-in_err-indices-in-Read : goal.used_datum-returns-in_err-indices-in-Read
used_datum-returns-in_err-indices-in-Read g t c =
    let error = c.in_err-indices-in-Read in
    handed_on c.from_residual.result error.field-0.0 _ c.from_residual.ensures.1 error.ensures.fits
    (sym (ap (fits (g.U.Uses.uses c.args.uses.now)) c.in-Read.is))

pub used_datum-returns-in_ok-boxed-in-Neg : goal.used_datum-returns-in_ok-boxed-in-Neg
used_datum-returns-in_ok-boxed-in-Neg g t c =
    let to = g.U.Uses.uses c.args.uses.now in
    one_made (used to) (fits to) c.in-Neg.is c.deref.ensures
    tree.Negated refl refl c.in_ok-boxed-in-Neg.ensures

pub used_datum-returns-in_err-boxed-in-Neg : goal.used_datum-returns-in_err-boxed-in-Neg
used_datum-returns-in_err-boxed-in-Neg g t c =
    let to = g.U.Uses.uses c.args.uses.now in
    let told = c.from_residual-in_err-boxed-in-Neg in
    let error = c.in_err-boxed-in-Neg in
    handed_on told.result error.field-0.0 _ told.ensures.1 error.ensures.fits
    (one_fits (used to) (fits to) c.in-Neg.is c.deref.ensures refl)

pub used_datum-returns-in_ok-boxed-in-Relu : goal.used_datum-returns-in_ok-boxed-in-Relu
used_datum-returns-in_ok-boxed-in-Relu g t c =
    let to = g.U.Uses.uses c.args.uses.now in
    one_made (used to) (fits to) c.in-Relu.is c.deref-in-Relu.ensures
    tree.Relu refl refl c.in_ok-boxed-in-Relu.ensures

pub used_datum-returns-in_err-boxed-in-Relu : goal.used_datum-returns-in_err-boxed-in-Relu
used_datum-returns-in_err-boxed-in-Relu g t c =
    let to = g.U.Uses.uses c.args.uses.now in
    let told = c.from_residual-in_err-boxed-in-Relu in
    let error = c.in_err-boxed-in-Relu in
    handed_on told.result error.field-0.0 _ told.ensures.1 error.ensures.fits
    (one_fits (used to) (fits to) c.in-Relu.is c.deref-in-Relu.ensures refl)

pub used_datum-returns-in_ok-left-in-Add : goal.used_datum-returns-in_ok-left-in-Add
used_datum-returns-in_ok-left-in-Add g t c =
    let to = g.U.Uses.uses c.args.uses.now in
    two_made (used to) (fits to) c.in-Add.is c.deref-in-Add.ensures c.deref-in-Add-2.ensures
    tree.Plus refl refl c.in_ok-left-in-Add.ensures

pub used_datum-returns-in_err-left-in-Add : goal.used_datum-returns-in_err-left-in-Add
used_datum-returns-in_err-left-in-Add g t c =
    let to = g.U.Uses.uses c.args.uses.now in
    let told = c.from_residual-in_err-left-in-Add in
    let error = c.in_err-left-in-Add in
    handed_on told.result error.field-0.0 _ told.ensures.1 error.ensures.fits
    (two_fit (used to) (fits to) c.in-Add.is c.deref-in-Add.ensures c.deref-in-Add-2.ensures refl)

pub used_datum-returns-in_ok-left-in-Sub : goal.used_datum-returns-in_ok-left-in-Sub
used_datum-returns-in_ok-left-in-Sub g t c =
    let to = g.U.Uses.uses c.args.uses.now in
    two_made (used to) (fits to) c.in-Sub.is c.deref-in-Sub.ensures c.deref-in-Sub-2.ensures
    tree.Minus refl refl c.in_ok-left-in-Sub.ensures

pub used_datum-returns-in_err-left-in-Sub : goal.used_datum-returns-in_err-left-in-Sub
used_datum-returns-in_err-left-in-Sub g t c =
    let to = g.U.Uses.uses c.args.uses.now in
    let told = c.from_residual-in_err-left-in-Sub in
    let error = c.in_err-left-in-Sub in
    handed_on told.result error.field-0.0 _ told.ensures.1 error.ensures.fits
    (two_fit (used to) (fits to) c.in-Sub.is c.deref-in-Sub.ensures c.deref-in-Sub-2.ensures refl)

pub used_datum-returns-in_ok-left-in-Mul : goal.used_datum-returns-in_ok-left-in-Mul
used_datum-returns-in_ok-left-in-Mul g t c =
    let to = g.U.Uses.uses c.args.uses.now in
    two_made (used to) (fits to) c.in-Mul.is c.deref-in-Mul.ensures c.deref-in-Mul-2.ensures
    tree.Times refl refl c.in_ok-left-in-Mul.ensures

pub used_datum-returns-in_err-left-in-Mul : goal.used_datum-returns-in_err-left-in-Mul
used_datum-returns-in_err-left-in-Mul g t c =
    let to = g.U.Uses.uses c.args.uses.now in
    let told = c.from_residual-in_err-left-in-Mul in
    let error = c.in_err-left-in-Mul in
    handed_on told.result error.field-0.0 _ told.ensures.1 error.ensures.fits
    (two_fit (used to) (fits to) c.in-Mul.is c.deref-in-Mul.ensures c.deref-in-Mul-2.ensures refl)

pub used_datum-returns-in_ok-y-in-Select : goal.used_datum-returns-in_ok-y-in-Select
used_datum-returns-in_ok-y-in-Select g t c =
    let to = g.U.Uses.uses c.args.uses.now in
    let pair = c.in_ok-x-in-Select.ensures in
    let other = c.in_ok-y-in-Select.ensures in
    record {
      value = of_four (used to) (used to) tree.Select c.in-Select.is c.deref-in-Select.ensures
          c.deref-in-Select-2.ensures c.deref-in-Select-3.ensures c.deref-in-Select-4.ensures refl
          pair.first pair.second other.first other.second;
      fits = sym (of_four (fits to) (fits to) (λ p q r s. (p && q) && (r && s)) c.in-Select.is
          c.deref-in-Select.ensures c.deref-in-Select-2.ensures c.deref-in-Select-3.ensures
          c.deref-in-Select-4.ensures refl refl refl refl refl)
          ∙ ap₂ (λ (p q : Bool). p && q) pair.fits other.fits;
    }

pub used_datum-returns-in_err-y-in-Select : goal.used_datum-returns-in_err-y-in-Select
used_datum-returns-in_err-y-in-Select g t c =
    let to = g.U.Uses.uses c.args.uses.now in
    let told = c.from_residual-in_err-y-in-Select in
    let error = c.in_err-y-in-Select in
    handed_wide told.result error.field-0.0 _ told.ensures.1 error.ensures.fits
    (λ h. sym (of_four (fits to) (fits to) (λ p q r s. (p && q) && (r && s)) c.in-Select.is
    c.deref-in-Select.ensures c.deref-in-Select-2.ensures c.deref-in-Select-3.ensures
    c.deref-in-Select-4.ensures refl refl refl refl refl)
    ∙ ap₂ (λ (p q : Bool). p && q) c.in_ok-x-in-Select.ensures.fits h)

pub used_datum-returns-in_err-x-in-Select : goal.used_datum-returns-in_err-x-in-Select
used_datum-returns-in_err-x-in-Select g t c =
    let to = g.U.Uses.uses c.args.uses.now in
    let told = c.from_residual-in_err-x-in-Select in
    let error = c.in_err-x-in-Select in
    let rest = fits to c.in-Select.y.value && fits to c.in-Select.z.value in
    handed_wide told.result error.field-0.0 _ told.ensures.1 error.ensures.fits
    (λ h. ap (fits to) c.in-Select.is ∙ ap (λ (b : Bool). b && rest)
    (ap₂ (λ (p q : Bool). p && q) (sym (ap (fits to) c.deref-in-Select.ensures))
    (sym (ap (fits to) c.deref-in-Select-2.ensures)) ∙ h))

pub boxed-returns : goal.boxed-returns
boxed-returns g t c =
    let made = c.in_ok-used_datum.ensures in
    record { value = ap datum c.in_ok-made.ensures ∙ made.value; fits = made.fits }

pub boxed-returns-in_err-used_datum : goal.boxed-returns-in_err-used_datum
boxed-returns-in_err-used_datum g t c =
    let error = c.in_err-used_datum in
    let told = c.from_residual in
    handed_on told.result error.field-0.0 _ told.ensures.1 error.ensures.fits refl

pub boxed-returns-in_err-made : goal.boxed-returns-in_err-made
boxed-returns-in_err-made g t c =
    no_memory c.from_residual-in_err-made.result _ _ c.from_residual-in_err-made.ensures.1

pub boxed_with-returns : goal.boxed_with-returns
boxed_with-returns g t c =
    both_made c.in_ok-first.ensures c.in_ok-boxed.ensures

pub boxed_with-returns-in_err-first : goal.boxed_with-returns-in_err-first
boxed_with-returns-in_err-first g t c =
    first_handed_on c.from_residual.result c.in_err-first.field-0.0 _ _ _ _
    c.from_residual.ensures.1 c.in_err-first.ensures.fits

pub boxed_with-returns-in_err-boxed : goal.boxed_with-returns-in_err-boxed
boxed_with-returns-in_err-boxed g t c =
    let told = c.from_residual-in_err-boxed in
    second_handed_on told.result c.in_err-boxed.field-0.0 _ _ _ _
    told.ensures.1 c.in_err-boxed.ensures.fits

pub boxed-used_datum-requires : goal.boxed-used_datum-requires
boxed-used_datum-requires g t c =
    let less : 3 * the_size c.args.e.now < t = omega (arith, c.decreases) in
    λ κs h. (less, h)

pub boxed_with-boxed-requires : goal.boxed_with-boxed-requires
boxed_with-boxed-requires g t c =
    let less : 3 * the_size c.args.e.now + 1 < t = omega (arith, c.decreases) in
    λ κs h. (less, h)

pub boxed_with-boxed-requires-2 : goal.boxed_with-boxed-requires-2
boxed_with-boxed-requires-2 g t c =
    let less : 3 * the_size c.args.g.now + 1 < t = omega (arith, c.decreases) in
    λ κs h. (less, h)
