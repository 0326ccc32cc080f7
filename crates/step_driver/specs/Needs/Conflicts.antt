-- What the calls on conflicts answer.
use Rattle.std.specs.Prelude.{ℕ}
use Rattle.exo_tree.specs.Tree.{Control}
use Rattle.exo_tree.specs.Places.{Path}
use Rattle.exo_tree.specs.PlainControl.{control}
use Rattle.check_facts.specs.Contexts.{context_of, context_fits}
use Rattle.exo_effects.specs.Accesses.{accesses_of}
use Rattle.exo_effects.specs.Conflicts.{Listing, conflicts_of}
use Rattle.exo_effects.specs.Orders.{Header, Order}
use Rattle.effect_conflicts.specs.declared.twin.Turn.{Turn}
use Rattle.effect_laws.specs.Apart.{Conflict}
use Rattle.step_rules.specs.Rule.{Target}

-- a loop, by the number of its variable and by its ends
pub record Loop : Type 0 where
  pub variable : ℕ
  pub lower : Control
  pub upper : Control

abbrev pub loop_of : Header → Loop
loop_of h = record { variable = h.binder.id; lower = h.lo; upper = h.hi }

abbrev pub turn_loop : Turn → Loop
turn_loop t = record {
  variable = t.variable.0;
  lower = control t.lower.now;
  upper = control t.upper.now;
}

module _ (t : Target) (k : Conflict) where
  -- what both pieces owe in the context of a place, with loops in this order
  abbrev pub listing_at : Path → Order → Path → Listing
  listing_at place order path =
      conflicts_of (context_fits t.unit t.proc place) (context_of t.unit t.proc place) order path
      (accesses_of t.unit t.proc k.first.path k.first.count)
      (accesses_of t.unit t.proc k.second.path k.second.count)
