use Rattle.std.proofs.Common.{ap, sym, ◌∙◌, option_map}
use Rattle.std.specs.Option.{option_copied}
use Rattle.exo_tree.specs.PlainProcedure.{procedure}
use Rattle.exo_tree.specs.PlainUnit.{program}
use Rattle.exo_meaning.specs.Units.{field_kind, share_nothing_written}
use Rattle.exo_modes.specs.Aliases.{roots_in}
use Rattle.exo_modes.specs.Seen.{table_says}
use Rattle.tree_findings.specs.Classes.{both, rule}
use Rattle.tree_findings.specs.Findings.{findings_of_arguments}
use Rattle.tree_findings.specs.Seen.{scope_seen}
use Rattle.tree_findings.specs.Walked.{ground_kinds, writes_seen}
use Rattle.tree_findings.proofs.Calls.{call_none, call_some}
use Rattle.tree_findings.proofs.call.in_call.Goals as goal

pub returns-in-Some : goal.returns-in-Some
returns-in-Some c =
    let g = c.args.ground.now in
    let root = roots_in c.args.aliases.now in
    let k = c.args.callee.0 in
    let scope = scope_seen c.args.names.now in
    let p = procedure c.in-Some.p.now in
    let there = sym c.get.ensures ∙ ap (λ o. option_map procedure (option_copied o)) c.in-Some.is in
    c.in_known_call.ensures
    ∙ ap (λ fs. both (findings_of_arguments (field_kind fs) scope p.params c.args.args.now) (rule (share_nothing_written (ground_kinds g) (writes_seen g k) root p.params c.args.args.now))) c.requires.fields
    ∙ call_some (program g.unit.now) k scope root c.args.args.now (table_says g.modes.now) p c.requires.table there

pub returns-in-None : goal.returns-in-None
returns-in-None c =
    let none = sym c.get.ensures ∙ ap (λ o. option_map procedure (option_copied o)) c.in-None.is in
    c.rule.ensures ∙ call_none (program c.args.ground.now.unit.now) c.args.callee.0 (scope_seen c.args.names.now) (roots_in c.args.aliases.now) c.args.args.now none
