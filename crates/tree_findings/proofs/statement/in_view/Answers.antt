use Rattle.std.proofs.Common.{ap, ◌∙◌}
use Rattle.exo_tree.specs.PlainBinder.{binding}
use Rattle.exo_meaning.specs.Units.{field_kind}
use Rattle.tree_findings.specs.Classes.{both, rule}
use Rattle.tree_findings.specs.Findings.{found_in_binder, findings_of_window}
use Rattle.tree_findings.specs.Seen.{scope_in}
use Rattle.tree_findings.proofs.statement.in_view.Goals as goal

pub returns : goal.returns
returns c =
    let there = c.names-names.ensures in
    let binder = c.binder.ensures ∙ ap (λ es. found_in_binder (scope_in es) (binding c.args.w.now)) there.entries in
    let coords = c.as_slice.ensures in
    let window = c.in_window-window.ensures ∙ (λ i. findings_of_window (field_kind (there.fields i)) (scope_in (there.entries i)) c.args.x.0 (coords i)) in
    let span = c.rule-span.ensures ∙ ap rule c.has_span.ensures in
    c.joined.ensures ∙ (λ i. both (binder i) (both (window i) (span i)))
