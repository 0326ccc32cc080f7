use Rattle.std.proofs.Common.{Bool, refl, sym, ap, ◌∙◌, ◌+◌, ◌*◌, ◌<◌, arith}
use Rattle.exo_tree.specs.PlainControl.{condition}
use Rattle.exo_tree.specs.Tree as tree
use Rattle.exo_tree.specs.declared.control.Cond.{Cond}
use Rattle.exo_tree.proofs.control.Cond.TheLaws.{the_size}
use Rattle.tree_uses.specs.Uses.{Uses, used_condition, condition_fits}
use Rattle.tree_uses.proofs.Nodes.{node_made, pair_made, two_made, two_fit, handed_on}
use Rattle.tree_uses.proofs.Nodes.{first_handed_on, second_handed_on, both_made, no_memory}
use Rattle.tree_uses.proofs.conditions.+condition.Goals as goal

abbrev used : Uses → Cond → tree.Condition
used to c = used_condition to (condition c)

abbrev fits : Uses → Cond → Bool
fits to c = condition_fits to (condition c)

pub used_condition-returns-in-True : goal.used_condition-returns-in-True
used_condition-returns-in-True g t c =
    let to = g.U.Uses.uses c.args.uses.now in
    node_made (used to) (fits to) c.in-True.is refl refl

pub used_condition-returns-in-False : goal.used_condition-returns-in-False
used_condition-returns-in-False g t c =
    let to = g.U.Uses.uses c.args.uses.now in
    node_made (used to) (fits to) c.in-False.is refl refl

pub used_condition-returns-in-Field : goal.used_condition-returns-in-Field
used_condition-returns-in-Field g t c =
    let to = g.U.Uses.uses c.args.uses.now in
    node_made (used to) (fits to) c.in-Field.is refl refl

pub used_condition-returns-in_ok-flag-in-Var : goal.used_condition-returns-in_ok-flag-in-Var
used_condition-returns-in_ok-flag-in-Var g t c =
    let to = g.U.Uses.uses c.args.uses.now in
    node_made (used to) (fits to) c.in-Var.is c.in_ok-flag-in-Var.ensures refl

pub used_condition-returns-in_err-flag-in-Var : goal.used_condition-returns-in_err-flag-in-Var
used_condition-returns-in_err-flag-in-Var g t c =
    no_memory c.from_residual.result _ _ c.from_residual.ensures.1

pub used_condition-returns-in_ok-left-in-Lt : goal.used_condition-returns-in_ok-left-in-Lt
used_condition-returns-in_ok-left-in-Lt g t c =
    let to = g.U.Uses.uses c.args.uses.now in
    pair_made (used to) (fits to) c.in-Lt.is tree.Lt refl c.in_ok-left-in-Lt.ensures

pub used_condition-returns-in_err-left-in-Lt : goal.used_condition-returns-in_err-left-in-Lt
used_condition-returns-in_err-left-in-Lt g t c =
    let told = c.from_residual-in_err-left-in-Lt in
    let error = c.in_err-left-in-Lt in
    handed_on told.result error.field-0.0 _ told.ensures.1 error.ensures.fits
    (sym (ap (fits (g.U.Uses.uses c.args.uses.now)) c.in-Lt.is))

pub used_condition-returns-in_ok-left-in-Le : goal.used_condition-returns-in_ok-left-in-Le
used_condition-returns-in_ok-left-in-Le g t c =
    let to = g.U.Uses.uses c.args.uses.now in
    pair_made (used to) (fits to) c.in-Le.is tree.Le refl c.in_ok-left-in-Le.ensures

pub used_condition-returns-in_err-left-in-Le : goal.used_condition-returns-in_err-left-in-Le
used_condition-returns-in_err-left-in-Le g t c =
    let told = c.from_residual-in_err-left-in-Le in
    let error = c.in_err-left-in-Le in
    handed_on told.result error.field-0.0 _ told.ensures.1 error.ensures.fits
    (sym (ap (fits (g.U.Uses.uses c.args.uses.now)) c.in-Le.is))

pub used_condition-returns-in_ok-left-in-Gt : goal.used_condition-returns-in_ok-left-in-Gt
used_condition-returns-in_ok-left-in-Gt g t c =
    let to = g.U.Uses.uses c.args.uses.now in
    pair_made (used to) (fits to) c.in-Gt.is tree.Gt refl c.in_ok-left-in-Gt.ensures

pub used_condition-returns-in_err-left-in-Gt : goal.used_condition-returns-in_err-left-in-Gt
used_condition-returns-in_err-left-in-Gt g t c =
    let told = c.from_residual-in_err-left-in-Gt in
    let error = c.in_err-left-in-Gt in
    handed_on told.result error.field-0.0 _ told.ensures.1 error.ensures.fits
    (sym (ap (fits (g.U.Uses.uses c.args.uses.now)) c.in-Gt.is))

pub used_condition-returns-in_ok-left-in-Ge : goal.used_condition-returns-in_ok-left-in-Ge
used_condition-returns-in_ok-left-in-Ge g t c =
    let to = g.U.Uses.uses c.args.uses.now in
    pair_made (used to) (fits to) c.in-Ge.is tree.Ge refl c.in_ok-left-in-Ge.ensures

pub used_condition-returns-in_err-left-in-Ge : goal.used_condition-returns-in_err-left-in-Ge
used_condition-returns-in_err-left-in-Ge g t c =
    let told = c.from_residual-in_err-left-in-Ge in
    let error = c.in_err-left-in-Ge in
    handed_on told.result error.field-0.0 _ told.ensures.1 error.ensures.fits
    (sym (ap (fits (g.U.Uses.uses c.args.uses.now)) c.in-Ge.is))

pub used_condition-returns-in_ok-left-in-Eq : goal.used_condition-returns-in_ok-left-in-Eq
used_condition-returns-in_ok-left-in-Eq g t c =
    let to = g.U.Uses.uses c.args.uses.now in
    pair_made (used to) (fits to) c.in-Eq.is tree.Eq refl c.in_ok-left-in-Eq.ensures

pub used_condition-returns-in_err-left-in-Eq : goal.used_condition-returns-in_err-left-in-Eq
used_condition-returns-in_err-left-in-Eq g t c =
    let told = c.from_residual-in_err-left-in-Eq in
    let error = c.in_err-left-in-Eq in
    handed_on told.result error.field-0.0 _ told.ensures.1 error.ensures.fits
    (sym (ap (fits (g.U.Uses.uses c.args.uses.now)) c.in-Eq.is))

pub used_condition-returns-in_ok-left-in-And : goal.used_condition-returns-in_ok-left-in-And
used_condition-returns-in_ok-left-in-And g t c =
    let to = g.U.Uses.uses c.args.uses.now in
    two_made (used to) (fits to) c.in-And.is c.deref.ensures c.deref-in-And.ensures
    tree.And refl refl c.in_ok-left-in-And.ensures

pub used_condition-returns-in_err-left-in-And : goal.used_condition-returns-in_err-left-in-And
used_condition-returns-in_err-left-in-And g t c =
    let to = g.U.Uses.uses c.args.uses.now in
    let told = c.from_residual-in_err-left-in-And in
    let error = c.in_err-left-in-And in
    handed_on told.result error.field-0.0 _ told.ensures.1 error.ensures.fits
    (two_fit (used to) (fits to) c.in-And.is c.deref.ensures c.deref-in-And.ensures refl)

pub used_condition-returns-in_ok-left-in-Or : goal.used_condition-returns-in_ok-left-in-Or
used_condition-returns-in_ok-left-in-Or g t c =
    let to = g.U.Uses.uses c.args.uses.now in
    two_made (used to) (fits to) c.in-Or.is c.deref-in-Or.ensures c.deref-in-Or-2.ensures
    tree.Or refl refl c.in_ok-left-in-Or.ensures

pub used_condition-returns-in_err-left-in-Or : goal.used_condition-returns-in_err-left-in-Or
used_condition-returns-in_err-left-in-Or g t c =
    let to = g.U.Uses.uses c.args.uses.now in
    let told = c.from_residual-in_err-left-in-Or in
    let error = c.in_err-left-in-Or in
    handed_on told.result error.field-0.0 _ told.ensures.1 error.ensures.fits
    (two_fit (used to) (fits to) c.in-Or.is c.deref-in-Or.ensures c.deref-in-Or-2.ensures refl)

pub boxed-returns : goal.boxed-returns
boxed-returns g t c =
    let made = c.in_ok-used_condition.ensures in
    record { value = ap condition c.in_ok-made.ensures ∙ made.value; fits = made.fits }

pub boxed-returns-in_err-used_condition : goal.boxed-returns-in_err-used_condition
boxed-returns-in_err-used_condition g t c =
    let error = c.in_err-used_condition in
    let told = c.from_residual in
    handed_on told.result error.field-0.0 _ told.ensures.1 error.ensures.fits refl

pub boxed-returns-in_err-made : goal.boxed-returns-in_err-made
boxed-returns-in_err-made g t c =
    no_memory c.from_residual-in_err-made.result _ _ c.from_residual-in_err-made.ensures.1

pub boxed_with-returns : goal.boxed_with-returns
boxed_with-returns g t c =
    both_made c.in_ok-first.ensures c.in_ok-boxed.ensures

pub boxed_with-returns-in_err-first : goal.boxed_with-returns-in_err-first
boxed_with-returns-in_err-first g t c =
    first_handed_on c.from_residual.result c.in_err-first.field-0.0 _ _ _ _
    c.from_residual.ensures.1 c.in_err-first.ensures.fits

pub boxed_with-returns-in_err-boxed : goal.boxed_with-returns-in_err-boxed
boxed_with-returns-in_err-boxed g t c =
    let told = c.from_residual-in_err-boxed in
    second_handed_on told.result c.in_err-boxed.field-0.0 _ _ _ _
    told.ensures.1 c.in_err-boxed.ensures.fits

pub boxed-used_condition-requires : goal.boxed-used_condition-requires
boxed-used_condition-requires g t c =
    let less : 3 * the_size c.args.c.now < t = omega (arith, c.decreases) in
    λ κs h. (less, h)

pub boxed_with-boxed-requires : goal.boxed_with-boxed-requires
boxed_with-boxed-requires g t c =
    let less : 3 * the_size c.args.c.now + 1 < t = omega (arith, c.decreases) in
    λ κs h. (less, h)

pub boxed_with-boxed-requires-2 : goal.boxed_with-boxed-requires-2
boxed_with-boxed-requires-2 g t c =
    let less : 3 * the_size c.args.d.now + 1 < t = omega (arith, c.decreases) in
    λ κs h. (less, h)
