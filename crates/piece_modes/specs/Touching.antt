-- Whether statements of a unit touch a buffer in a mode, by the buffer of each name, calls included.
use Rattle.std.specs.Prelude.{ℕ, Bool, List}
use Rattle.exo_tree.specs.Tree.{Argument, Statement, Block, Program}
use Rattle.exo_meaning.specs.Modes.{Mode, Modes, call_has, has_mode, step_has_mode, unit_modes}
use Rattle.exo_meaning.specs.Run.{World, kinds_of, unit_world}

module _ (u : Program) where
  abbrev pub world : World
  world = unit_world (kinds_of u.fields) u.procedures

  -- what each procedure touches
  abbrev pub callee_modes : ℕ → Modes
  callee_modes = unit_modes (kinds_of u.fields) u.procedures

  abbrev pub block_touches : Mode → (ℕ → ℕ) → Block → ℕ → Bool
  block_touches m root b y = has_mode world.callees callee_modes m root b y

  abbrev pub step_touches : Mode → (ℕ → ℕ) → Statement → ℕ → Bool
  step_touches m root a y = step_has_mode world.callees callee_modes m root a y

  abbrev pub call_touches : Mode → (ℕ → ℕ) → ℕ → List Argument → ℕ → Bool
  call_touches m root k args y = call_has (world.callees k) (callee_modes k m) root y args
