use Rattle.std.proofs.Common.{[], ap, sym, ◌∙◌, map, arith}
use Rattle.text_expressions.specs.Views.{tree_of}
use Rattle.rules_names.specs.ExpressionRules.{width, closed_width}
use Rattle.exo_tree.specs.PlainBinder.{cell_type}
use Rattle.rules_names.specs.Faults.{charged}
use Rattle.rules_names.specs.Names.{named_in, sort_of}
use Rattle.exo_types.specs.ArgumentRules.{cell_takes, part_faults, tensor_faults}
use Rattle.exo_types.proofs.Exprs.{listed, is_access, is_parens, width_access, width_parens}
use Rattle.exo_types.proofs.argument.+test_tensor.Goals as goal

pub test_cell-requires : goal.test_cell-requires
test_cell-requires t c =
    let w = ap width (is_access _ _ _ c.in-Access.is) ∙ width_access _ _ in let v = ap (λ l. closed_width (map tree_of l)) c.deref.ensures.value in omega arith

pub test_tensor-requires : goal.test_tensor-requires
test_tensor-requires t c =
    let w = ap width (is_parens _ _ c.in-Parens.is) ∙ width_parens _ in let v = ap (λ e. width (tree_of e)) c.deref-in-Parens.ensures in (omega arith, omega arith)

pub returns-in-Access : goal.returns-in-Access
returns-in-Access t c =
    let scope = c.args.names.now.scope.now in
    let fields = c.args.names.now.fields.now in
    let cell = cell_type c.args.cell in
    let x = c.in-Access.x in
    let s = c.sort-sort-in-Access.ensures ∙ ap (λ y. sort_of (named_in scope y)) c.as_str-in-Access.ensures in
    let fits = sym (c.takes_cell-fits.ensures ∙ ap (cell_takes cell c.args.rank) s) in
    c.test_cell.ensures (cell_takes cell c.args.rank) [] fits c.none.ensures
    ∙ ap (λ is. charged (part_faults fields (cell_takes cell c.args.rank) scope c.args.n x (map tree_of is) [])) c.deref.ensures.value
    ∙ ap (λ es. charged (part_faults fields (cell_takes cell c.args.rank) scope c.args.n x es [])) (sym (listed (map tree_of c.in-Access.indices.items)))
    ∙ ap (λ e. charged (tensor_faults fields scope cell c.args.rank c.args.n e)) (sym (is_access _ _ _ c.in-Access.is))
