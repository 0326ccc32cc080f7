-- The closed schedules of the operators: one renames a procedure, one divides a loop, one changes
-- orders, and one joins and multiplies loops.
use Rattle.std.specs.Prelude.{pos, codes}
use Rattle.exo_meaning.specs.Orders.{Each}
use Rattle.exo_types_laws.specs.Shown.Names.{IsName}
use Rattle.exo_types_laws.specs.Shown.Named.{AreNamed}
use Rattle.tree_edits.specs.Made.Names.{numbered}
use Rattle.exo_tree.specs.Tree.{Lit}
use Rattle.schedule_laws.specs.Operators.Instance.{unit, schedule, result}
use Rattle.schedule_laws.specs.Operators.LoopInstance as loops
use Rattle.schedule_laws.specs.Operators.OrderInstance as orders
use Rattle.schedule_laws.specs.Operators.ScopeInstance as scopes
use Rattle.schedule_laws.specs.Names.Schedules.{GivesNames}

pub record NamesInstance : Type 0 where
  pub text : AreNamed unit
  pub asked : Each GivesNames schedule
  pub versions : AreNamed result.unit
  pub loop_text : AreNamed (loops.unit_of (Lit (pos 2)))
  pub loop_asked : Each GivesNames loops.schedule
  pub loop_versions : AreNamed loops.result.unit
  pub order_text : AreNamed orders.unit
  pub order_asked : Each GivesNames orders.schedule
  pub order_versions : AreNamed orders.result.unit
  pub scope_text : AreNamed scopes.unit
  pub scope_asked : Each GivesNames scopes.schedule
  pub scope_versions : AreNamed scopes.result.unit
  -- a word of the grammar is no name; with a number behind it, as that of a copy, it is one
  pub word : IsName (codes "for") → ⊥
  pub numbered_word : IsName (numbered (codes "for") 1)
