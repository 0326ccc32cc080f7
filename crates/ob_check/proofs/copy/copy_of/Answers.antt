use Rattle.std.proofs.Common.{◌≡◌, map, true, sym, ap, ◌∙◌, subst}
use Rattle.affine_forms.specs.Bounds.{are_below}
use Rattle.ob_check.specs.Rows.{row_numbers}
use Rattle.ob_check.proofs.Rows.{same_variables, same_plain}
use Rattle.ob_check.proofs.copy.copy_of.Goals as goal

pub new-requires-clause-equations_within : goal.new-requires-clause-equations_within
new-requires-clause-equations_within c =
    let s = c.args.s.now in
    let same : map row_numbers c.in_ok-equations.equations.items ≡ map row_numbers s.equations.items = c.in_ok-equations.ensures ∙ ap (map row_numbers) c.deref.ensures.value in
    subst (λ vs. are_below s.vars vs ≡ true) (sym (same_variables c.in_ok-equations.equations.items s.equations.items same)) s.equations_within

pub new-requires-clause-rows_within : goal.new-requires-clause-rows_within
new-requires-clause-rows_within c =
    let s = c.args.s.now in
    let same : map row_numbers c.in_ok-rows.rows.items ≡ map row_numbers s.rows.items = c.in_ok-rows.ensures ∙ ap (map row_numbers) c.deref-2.ensures.value in
    subst (λ vs. are_below s.vars vs ≡ true) (sym (same_variables c.in_ok-rows.rows.items s.rows.items same)) s.rows_within

pub returns : goal.returns
returns c =
    let s = c.args.s.now in
    same_plain c.new.result s c.new.ensures.vars
    (ap (λ v. map row_numbers v.items) c.new.ensures.equations ∙ c.in_ok-equations.ensures ∙ ap (map row_numbers) c.deref.ensures.value)
    (ap (λ v. map row_numbers v.items) c.new.ensures.rows ∙ c.in_ok-rows.ensures ∙ ap (map row_numbers) c.deref-2.ensures.value)
