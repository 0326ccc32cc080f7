use Rattle.std.proofs.Common.{◌≤◌, ap, ◌∙◌, subst, sym, arith}
use Rattle.affine_systems.proofs.Terms.{lengths, equations_few, rows_few, system_counted}
use Rattle.affine_systems.proofs.list.system_terms.Goals as goal

pub row_terms-requires : goal.row_terms-requires
row_terms-requires c = subst (λ n. n ≤ 32768) (sym (ap lengths c.deref.ensures.value)) (equations_few c.args.s.now)

pub row_terms-requires-2 : goal.row_terms-requires-2
row_terms-requires-2 c = subst (λ n. n ≤ 32768) (sym (ap lengths c.deref-2.ensures.value)) (rows_few c.args.s.now)

pub overflow_add-result : goal.overflow_add-result
overflow_add-result c =
    let e = c.row_terms.ensures ∙ ap lengths c.deref.ensures.value in
    let r = c.row_terms-2.ensures ∙ ap lengths c.deref-2.ensures.value in
    omega (arith, e, r, equations_few c.args.s.now, rows_few c.args.s.now)

pub returns : goal.returns
returns c = system_counted c.args.s.now c.row_terms.result c.row_terms-2.result (c.row_terms.ensures ∙ ap lengths c.deref.ensures.value) (c.row_terms-2.ensures ∙ ap lengths c.deref-2.ensures.value)
