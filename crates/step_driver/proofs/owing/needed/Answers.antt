use Rattle.std.proofs.Common.{◌≡◌, List, map, IfOk, ap, ◌∙◌, subst}
use Rattle.tree_findings.specs.declared.findings.Findings.{Findings}
use Rattle.step_rules.specs.Rule.{Need}
use Rattle.step_rules.specs.Owing.{findings_of_needs}
use Rattle.step_driver.specs.Needs.PlainNeed.{plain_need}
use Rattle.step_driver.specs.PlainTarget.{target}
use Rattle.step_driver.proofs.owing.needed.Goals as goal

pub returns : goal.returns
returns g c =
    let t = target c.args.on.now in
    subst (λ (ns : List Need). IfOk c.findings_of_needs.result (λ (f : Findings). f ≡ findings_of_needs t ns))
    (ap (map plain_need) c.deref.ensures.value ∙ c.in_ok-needs.ensures) (c.findings_of_needs.ensures (t.number, t.origins))
