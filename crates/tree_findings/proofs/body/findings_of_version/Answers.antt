use Rattle.std.proofs.Common.{◌+◌, nat_lt, ◌++◌, ap, ◌∙◌}
use Rattle.std.specs.List.{list_all}
use Rattle.exo_tree.specs.Renaming.{binders}
use Rattle.exo_tree.specs.Tree.{block}
use Rattle.tree_edits.specs.Made.Ids.{param_ids}
use Rattle.tree_findings.specs.Classes.{both, limit}
use Rattle.tree_findings.proofs.body.findings_of_version.Goals as goal

pub returns : goal.returns
returns c =
    let b = block c.args.q.now.body in
    let ids = c.as_slice-2.ensures.value ∙ c.in_ok-ids.ensures
    ∙ ap (λ ps. param_ids ps ++ binders b) c.as_slice.ensures in
    let few = c.are_below-few.ensures ∙ ap (list_all (λ x. nat_lt x (c.args.base + 65536))) ids in
    let limited = c.limit.ensures ∙ ap limit few in
    c.and.ensures ∙ (λ i. both (c.in_ok-found.ensures i) (limited i))
