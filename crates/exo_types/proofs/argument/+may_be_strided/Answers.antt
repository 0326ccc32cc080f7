use Rattle.std.proofs.Common.{ap, sym, ◌∙◌}
use Rattle.exo_tree.specs.PlainBinder.{cell_type}
use Rattle.exo_meaning.specs.Units.{has_cell}
use Rattle.rules_names.specs.Names.{named_in, sort_of}
use Rattle.rules_names.specs.ExpressionRules.{suits}
use Rattle.exo_types.specs.ArgumentRules.{may_be_strided}
use Rattle.exo_types.proofs.Exprs.{is_access, is_name}
use Rattle.exo_types.proofs.argument.+may_be_strided.Goals as goal

pub returns-in-Name : goal.returns-in-Name
returns-in-Name t c =
    let scope = c.args.names.now.scope.now in
    let takes = has_cell (cell_type c.args.cell) in
    let s = c.sort-sort.ensures ∙ ap (λ y. sort_of (named_in scope y)) c.as_str.ensures in
    c.suits.ensures takes (sym c.has_cell.ensures) ∙ ap (suits takes) s ∙ ap (may_be_strided scope (cell_type c.args.cell)) (sym (is_name _ _ c.in-Name.is))

pub returns-in-Access : goal.returns-in-Access
returns-in-Access t c =
    let scope = c.args.names.now.scope.now in
    let takes = has_cell (cell_type c.args.cell) in
    let s = c.sort-sort-in-Access.ensures ∙ ap (λ y. sort_of (named_in scope y)) c.as_str-in-Access.ensures in
    c.suits-in-Access.ensures takes (sym c.has_cell-in-Access.ensures) ∙ ap (suits takes) s ∙ ap (may_be_strided scope (cell_type c.args.cell)) (sym (is_access _ _ _ c.in-Access.is))
