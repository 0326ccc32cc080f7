-- What a walk knows, and what stands round a body.
use Rattle.std.specs.Prelude.{◌≡◌, ℕ, Bool, length, take, Option}
use Rattle.exo_tree.specs.PlainUnit.{program}
use Rattle.exo_tree.specs.Tree.{Kind, Statement}
use Rattle.exo_meaning.specs.Calls.{Callee}
use Rattle.exo_meaning.specs.Run.{roots_after, program_world}
use Rattle.exo_meaning.specs.Modes.{modes_at}
use Rattle.exo_meaning.specs.Units.{Scope, field_kind}
use Rattle.exo_modes.specs.Aliases.{roots_in}
use Rattle.exo_modes.specs.Marks.{modes_of, writing}
use Rattle.exo_modes.specs.Seen.{table_says}
use Rattle.tree_findings.specs.declared.call.Surroundings.{Surroundings}
use Rattle.tree_findings.specs.declared.place.PlaceScope.{PlaceScope}
use Rattle.tree_findings.specs.declared.walk.ScopeWalk.{ScopeWalk}
use Rattle.tree_findings.specs.Findings.{scope_behind}
use Rattle.tree_findings.specs.Seen.{scope_in}

-- ---- what stands round a body

abbrev pub ground_kinds : Surroundings → ℕ → Option Kind
ground_kinds g = field_kind g.unit.now.fields

abbrev pub ground_memories : Surroundings → ℕ
ground_memories g = length g.unit.now.memories

abbrev pub ground_callees : Surroundings → ℕ → Option Callee
ground_callees g = (program_world (program g.unit.now)).callees

-- the table is that of the unit
abbrev pub IsGround : Surroundings → Type 0
IsGround g = table_says g.modes.now ≡ modes_of (program g.unit.now)

-- what the procedure of that number writes
abbrev pub writes_seen : Surroundings → ℕ → ℕ → Bool
writes_seen g k = writing (modes_at (table_says g.modes.now) k)

-- ---- walks

abbrev pub walk_scope : ScopeWalk → Scope
walk_scope w = scope_in w.entries.items

abbrev pub place_scope : PlaceScope → Scope
place_scope s = walk_scope s.walk

abbrev pub walk_roots : ScopeWalk → ℕ → ℕ
walk_roots w = roots_in w.aliases.items

-- a walk has gone over a statement
pub record Walked (before after : ScopeWalk) (a : Statement) : Type 0 where
  pub scope : walk_scope after ≡ scope_behind a (walk_scope before)
  pub roots : walk_roots after ≡ roots_after a (walk_roots before)
  pub entries : take (length before.entries.items) after.entries.items ≡ before.entries.items
  pub aliases : take (length before.aliases.items) after.aliases.items ≡ before.aliases.items

-- a walk is where it was
pub record IsBack (before after : ScopeWalk) : Type 0 where
  pub entries : after.entries.items ≡ before.entries.items
  pub aliases : after.aliases.items ≡ before.aliases.items
