use Rattle.std.proofs.Common.{ap, ◌∙◌, map}
use Rattle.affine_places.specs.Facts.{facts_keep_rules}
use Rattle.affine_places.specs.PlainFacts.{plain_entry}
use Rattle.affine_places.proofs.FactRules.{rules_at}
use Rattle.affine_places.proofs.facts.Facts.get.Goals as goal

pub returns-then-e-f-clause-rules : goal.returns-then-e-f-clause-rules
returns-then-e-f-clause-rules c = rules_at c.deref-e-items.result.now c.loop-e.e-index c.e-item.result (ap (λ es. facts_keep_rules (map plain_entry es)) c.deref-e-items.ensures.value ∙ c.self.invariant) c.loop-e-test.true c.e-item.is
