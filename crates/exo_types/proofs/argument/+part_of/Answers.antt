use Rattle.std.proofs.Common.{ap, sym, ◌∙◌, map}
use Rattle.exo_tree.specs.Tree.{Window}
use Rattle.text_expressions.specs.Views.{tree_of}
use Rattle.rules_names.specs.Names.{id_in}
use Rattle.rules_names.specs.WindowRules.{coordinates_of}
use Rattle.exo_types.specs.ArgumentRules.{points, part_of}
use Rattle.exo_types.proofs.Exprs.{listed, is_access}
use Rattle.exo_types.proofs.argument.+part_of.Goals as goal

pub returns-in_ok-points_of-in-Access : goal.returns-in_ok-points_of-in-Access
returns-in_ok-points_of-in-Access t c =
    let scope = c.args.names.now.scope.now in
    let fields = c.args.names.now.fields.now in
    let id = c.id_in-in-Access.ensures ∙ ap (id_in scope) c.as_str-in-Access.ensures in
    let cs =
    c.in_ok-points_of-in-Access.ensures
    ∙ ap (λ is. coordinates_of fields scope (points (map tree_of is))) c.deref.ensures.value
    ∙ ap (λ es. coordinates_of fields scope (points es)) (sym (listed (map tree_of c.in-Access.indices.items)))
    in
    (λ i. Window (id i) (cs i)) ∙ ap (part_of fields scope) (sym (is_access _ _ _ c.in-Access.is))
