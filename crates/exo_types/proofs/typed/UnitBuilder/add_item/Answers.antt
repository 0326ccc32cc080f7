use Rattle.std.proofs.Common.{◌≡◌, MatchResult, map, ap, sym, subst, ◌∙◌}
use Rattle.exo_reader.specs.Source.{Item, memory}
use Rattle.exo_reader.specs.Views.{plain_attribute, plain_item}
use Rattle.exo_types.specs.Refusals.{Refuses}
use Rattle.exo_types.specs.UnitRules.{item_fault}
use Rattle.exo_types.specs.Standing.{IsAdded}
use Rattle.exo_types.proofs.typed.UnitBuilder.add_item.Goals as goal

pub returns-in-Memory : goal.returns-in-Memory
returns-in-Memory c = λ above s.
    let same : memory c.in-Memory.name (map plain_attribute c.deref-in-Memory.result.now) ≡ plain_item c.args.item.now = (λ i. memory c.in-Memory.name (map plain_attribute (c.deref-in-Memory.ensures.value i))) ∙ sym (ap plain_item c.in-Memory.is) in
    subst (λ (i : Item). MatchResult c.add_memory.result (λ end. IsAdded above c.args.places.now c.args.self.now c.add_memory.new.self c.args.n end i) (λ e. Refuses e (item_fault above c.args.n i))) same (c.add_memory.ensures above c.args.places.now s)
