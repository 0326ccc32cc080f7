-- How a block touches the buffer of a window.
use Rattle.std.specs.Prelude.{Bool}
use Rattle.exo_meaning.specs.Modes.{Mode}
use Rattle.place_laws.specs.Scope.Roots.{own_roots_at}
use Rattle.step_rules.specs.Rule.{Spot}
use Rattle.buffer_laws.specs.StageMem.{Staging}
use Rattle.alloc_laws.specs.Stage.Staging.{touches_as}

abbrev pub touched_as : Mode → Staging → Spot → Bool
touched_as m w s = touches_as w s.target s.opened m (own_roots_at s.opened.around w.root)
