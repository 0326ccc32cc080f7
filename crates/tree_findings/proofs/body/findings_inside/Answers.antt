use Rattle.std.proofs.Common.{ap₂, ◌∙◌}
use Rattle.exo_tree.specs.Tree.{block}
use Rattle.exo_meaning.specs.Units.{scope_of}
use Rattle.exo_modes.specs.Aliases.{roots_in}
use Rattle.tree_findings.specs.Findings.{findings_of_block}
use Rattle.tree_findings.specs.Seen.{scope_in}
use Rattle.tree_findings.specs.Walked.{ground_kinds, ground_memories, ground_callees}
use Rattle.tree_findings.proofs.body.findings_inside.Goals as goal

pub returns : goal.returns
returns c =
    let g = c.args.ground.now in
    let found = findings_of_block (ground_kinds g) (ground_memories g) (ground_callees g) in
    let scope = c.in_ok-bind_params.ensures.scope ∙ ap₂ (λ es ps. scope_of (scope_in es) ps) c.new-walk.ensures.entries c.as_slice.ensures in
    let roots = c.in_ok-bind_params.ensures.aliases ∙ c.new-walk.ensures.aliases in
    c.in_ok-inside.ensures.found ∙ (λ i. found (scope i) (roots_in (roots i)) (block c.args.body.now))
