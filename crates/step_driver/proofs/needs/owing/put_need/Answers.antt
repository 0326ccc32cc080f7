use Rattle.std.proofs.Common.{rules, sym, ap, ◌∙◌}
use Rattle.step_rules.specs.Rule as rule
use Rattle.step_driver.specs.Needs.PlainNeed.{plain_conflict, plain_need}
use Rattle.step_driver.proofs.needs.owing.put_need.Goals as goal

pub returns-in-Says-clause-puts : goal.returns-in-Says-clause-puts
returns-in-Says-clause-puts c k = c.put_fact.ensures.puts k (plain_need c.args.need.now) (search rules)

pub returns-in-Apart-clause-puts : goal.returns-in-Apart-clause-puts
returns-in-Apart-clause-puts c k =
    c.put_apart.ensures k (plain_need c.args.need.now)
    (ap plain_need c.in-Apart.is ∙ ap (λ q. rule.Apart c.in-Apart.path (plain_conflict q)) (sym c.deref.ensures))
