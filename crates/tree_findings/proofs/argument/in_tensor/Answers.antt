use Rattle.std.proofs.Common.{◌≡◌, ◌==◌, ◌&&◌, not, nat_lt, length, ap, sym, subst, ◌∙◌}
use Rattle.exo_tree.specs.PlainArgument.{argument}
use Rattle.exo_tree.specs.PlainBinder.{cell_type}
use Rattle.exo_meaning.specs.Units.{has_cell, sort_in, spans}
use Rattle.tree_findings.specs.Classes.{both, rule, limit, use_of}
use Rattle.tree_findings.specs.Findings.{findings_of_window, findings_of_tensor}
use Rattle.tree_findings.specs.Seen.{kinds_seen, scope_seen}
use Rattle.tree_findings.specs.Sizes.{deepest_coord}
use Rattle.tree_findings.proofs.argument.in_tensor.Goals as goal

pub returns-in-Window : goal.returns-in-Window
returns-in-Window c =
    let kinds = kinds_seen c.args.names.now in
    let scope = scope_seen c.args.names.now in
    let cell = cell_type c.args.cell in
    let rank = c.args.rank in
    let x = c.in-Window.x.0 in
    let coords = c.as_slice-coords.ensures in
    let part = c.in_part.ensures
    ∙ ap (λ cs. both (use_of (has_cell cell) (sort_in scope x))
    (findings_of_window kinds scope x cs)) coords in
    let is_cell = c.is_cell.ensures ∙ ap (λ cs. (rank == 0) && ((spans cs == 0) && not (length cs == 0))) coords in
    let alone = c.rule-alone.ensures ∙ ap rule is_cell in
    let deepest = c.deepest_coord.ensures ∙ ap deepest_coord coords in
    let shallow = c.limit-shallow.ensures ∙ ap (λ n. limit (nat_lt n 64)) deepest in
    let rest = c.and.ensures ∙ (λ i. both (alone i) (shallow i)) in
    subst (λ a. c.and-in-Window.result ≡ findings_of_tensor kinds scope cell rank (argument a))
    (sym c.in-Window.is) (c.and-in-Window.ensures ∙ (λ i. both (part i) (rest i)))
