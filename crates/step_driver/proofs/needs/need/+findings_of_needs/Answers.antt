use Rattle.std.proofs.Common.{◌≡◌, List, ◌∷◌, ◌-◌, take, drop, length, map, ap, ap₂, ◌∙◌}
use Rattle.exo_tree.specs.PlainProcedure.{procedure}
use Rattle.exo_tree.specs.PlainUnit.{program}
use Rattle.tree_findings.specs.Classes.{both}
use Rattle.step_rules.specs.Owing.{findings_of_needs}
use Rattle.step_driver.specs.Needs.Owing.{target_in}
use Rattle.step_driver.specs.Needs.PlainNeed.{plain_need}
use Rattle.step_driver.specs.declared.needs.need.Need.{Need}
use Rattle.step_driver.proofs.OfNeeds.Rests.{first_and_rest}
use Rattle.step_driver.proofs.needs.need.+findings_of_needs.Goals as goal

pub returns : goal.returns
returns t c k =
    let needs = c.args.needs.now in
    let whole : c.n-item.result ∷ take (length needs - 1) (drop 1 needs) ≡ needs =
    first_and_rest needs c.n-item.result c.n-item.is c.in-len1-up.len_at_least in
    c.and.ensures
    ∙ ap₂ both (c.in_ok-found.ensures k) (c.in_ok-others.ensures k)
    ∙ ap (λ (ns : List Need). findings_of_needs (target_in (program c.args.unit.now, procedure c.args.p.now) k) (map plain_need ns)) whole
