use Rattle.std.proofs.Common.{◌==◌, ap, sym, ◌∙◌, map, arith}
use Rattle.text_expressions.specs.Views.{tree_of}
use Rattle.rules_names.specs.ExpressionRules.{width, closed_width}
use Rattle.exo_tree.specs.PlainBinder.{cell_type}
use Rattle.exo_meaning.specs.Units.{has_cell}
use Rattle.rules_names.specs.Faults.{charged, unless}
use Rattle.rules_names.specs.Names.{named_in, sort_of}
use Rattle.rules_names.specs.declared.error.TypeKind.TheVariants.{RankMismatch}
use Rattle.exo_types.specs.ArgumentRules.{part_faults, strided_faults}
use Rattle.exo_types.proofs.Exprs.{listed, is_access, is_parens, width_access, width_parens}
use Rattle.exo_types.proofs.argument.+test_strided.Goals as goal

pub test_cell-requires : goal.test_cell-requires
test_cell-requires t c =
    let w = ap width (is_access _ _ _ c.in-Access.is) ∙ width_access _ _ in let v = ap (λ l. closed_width (map tree_of l)) c.deref.ensures.value in omega arith

pub test_strided-requires : goal.test_strided-requires
test_strided-requires t c =
    let w = ap width (is_parens _ _ c.in-Parens.is) ∙ width_parens _ in let v = ap (λ e. width (tree_of e)) c.deref-in-Parens.ensures in (omega arith, omega arith)

pub returns-in-Access : goal.returns-in-Access
returns-in-Access t c =
    let scope = c.args.names.now.scope.now in
    let fields = c.args.names.now.fields.now in
    let cell = cell_type c.args.cell in
    let x = c.in-Access.x in
    let s = c.sort-sort-in-Access.ensures ∙ ap (λ y. sort_of (named_in scope y)) c.as_str-in-Access.ensures in
    let fits = sym (c.has_cell-in-Access.ensures ∙ ap (has_cell cell) s) in
    let more = unless (c.args.rank == 0) RankMismatch c.args.first in
    c.test_cell.ensures (has_cell cell) more fits c.unless-spans.ensures
    ∙ ap (λ is. charged (part_faults fields (has_cell cell) scope c.args.n x (map tree_of is) more)) c.deref.ensures.value
    ∙ ap (λ es. charged (part_faults fields (has_cell cell) scope c.args.n x es more)) (sym (listed (map tree_of c.in-Access.indices.items)))
    ∙ ap (λ e. charged (strided_faults fields scope cell c.args.rank c.args.first c.args.n e)) (sym (is_access _ _ _ c.in-Access.is))
