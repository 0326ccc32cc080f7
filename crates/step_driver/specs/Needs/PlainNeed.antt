-- The plain forms of facts, conflicts and of what has to be shown.
use Rattle.std.specs.Prelude.{map}
use Rattle.exo_tree.specs.PlainBinder.{binding}
use Rattle.exo_tree.specs.PlainControl.{control, condition}
use Rattle.meaning_laws.specs.Facts as facts
use Rattle.exo_effects.specs.Orders as orders
use Rattle.effect_conflicts.specs.PlainCopies.{plain_row}
use Rattle.effect_laws.specs.Apart as apart
use Rattle.step_rules.specs.Rule as rule
use Rattle.step_driver.specs.declared.needs.fact.Fact.{Fact}
use Rattle.step_driver.specs.declared.needs.fact.Fact.TheVariants.{Holds, Fails}
use Rattle.step_driver.specs.declared.needs.conflict.Header.{Header}
use Rattle.step_driver.specs.declared.needs.conflict.Turns.{Turns}
use Rattle.step_driver.specs.declared.needs.conflict.Conflict.{Conflict}
use Rattle.step_driver.specs.declared.needs.need.Need.{Need}
use Rattle.step_driver.specs.declared.needs.need.Need.TheVariants.{Says, Apart}

abbrev pub plain_fact : Fact → facts.Fact
plain_fact (Holds c) = facts.Holds (condition c)
plain_fact (Fails c) = facts.Fails (condition c)

abbrev pub plain_header : Header → orders.Header
plain_header h = record {
  binder = binding h.binder;
  lo = control h.lower;
  hi = control h.upper;
}

abbrev pub plain_turns : Turns → apart.Turns
plain_turns k = record {
  path = k.path;
  count = k.count;
  loops = map plain_header k.loops.items;
}

abbrev pub plain_conflict : Conflict → apart.Conflict
plain_conflict k = record {
  first = plain_turns k.first;
  second = plain_turns k.second;
  order = map plain_row k.order.items;
}

abbrev pub plain_need : Need → rule.Need
plain_need (Says path fact) = rule.Says path (plain_fact fact)
plain_need (Apart path k) = rule.Apart path (plain_conflict k.value)
