use Rattle.std.proofs.Common.{◌≡◌, List, map, ap, ◌∙◌, subst, sym, true}
use Rattle.affine_systems.specs.Outcomes.{plain_obligation}
use Rattle.step_rules.specs.Rule.{Need}
use Rattle.step_rules.specs.Owing.{findings_of_needs, owed_needs}
use Rattle.step_driver.specs.Needs.Outcomes.{Tries}
use Rattle.step_driver.specs.Needs.PlainNeed.{plain_need}
use Rattle.step_driver.specs.PlainTarget.{target}
use Rattle.step_driver.proofs.owing.owed.Goals as goal

pub owed_needs-requires-clause-target : goal.owed_needs-requires-clause-target
owed_needs-requires-clause-target g c =
    let t = target c.args.on.now in
    ((t.number, t.origins), c.requires.target)

pub owed_needs-requires-clause-rules : goal.owed_needs-requires-clause-rules
owed_needs-requires-clause-rules g c =
    let t = target c.args.on.now in (
      (t.number, t.origins),
      subst (λ (ns : List Need). (findings_of_needs t ns).rules ≡ true)
          (sym (ap (map plain_need) c.deref.ensures.value ∙ c.in_ok-needs.ensures)) c.requires.rules,
    )

pub returns : goal.returns
returns g c =
    let t = target c.args.on.now in
    subst (λ (ns : List Need). Tries (λ v. map plain_obligation v.items) (owed_needs t ns) c.owed_needs.result)
    (ap (map plain_need) c.deref.ensures.value ∙ c.in_ok-needs.ensures)
    (c.owed_needs.ensures (t.number, t.origins))
