use Rattle.std.proofs.Common.{◌≡◌, ◌==◌, ap, sym, subst, ◌∙◌}
use Rattle.exo_tree.specs.PlainArgument.{argument}
use Rattle.exo_tree.specs.PlainBinder.{cell_type}
use Rattle.exo_meaning.specs.Units.{has_cell, sort_in, spans}
use Rattle.tree_findings.specs.Classes.{both, rule, use_of}
use Rattle.tree_findings.specs.Findings.{findings_of_window, findings_of_strided}
use Rattle.tree_findings.specs.Seen.{kinds_seen, scope_seen}
use Rattle.tree_findings.proofs.argument.in_strided.Goals as goal

pub returns-in-Window : goal.returns-in-Window
returns-in-Window c =
    let kinds = kinds_seen c.args.names.now in
    let scope = scope_seen c.args.names.now in
    let cell = cell_type c.args.cell in
    let rank = c.args.rank in
    let x = c.in-Window.x.0 in
    let coords = c.as_slice-coords.ensures in
    let part = c.in_part.ensures
    ∙ ap (λ cs. both (use_of (has_cell cell) (sort_in scope x))
    (findings_of_window kinds scope x cs)) coords in
    let ranked = c.rule.ensures ∙ ap (λ n. rule (rank == n)) (c.spans.ensures ∙ ap spans coords) in
    subst (λ a. c.and.result ≡ findings_of_strided kinds scope cell rank (argument a))
    (sym c.in-Window.is) (c.and.ensures ∙ (λ i. both (part i) (ranked i)))
