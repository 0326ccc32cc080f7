-- The shape that is asked for, but for views that are used behind the block.
use Rattle.std.specs.Prelude.{◌&&◌, ◌||◌, not, Bool, length}
use Rattle.exo_tree.specs.Places.{Opened}
use Rattle.exo_meaning.specs.Units.{sort_in}
use Rattle.check_claims.specs.Extents.{extents_of}
use Rattle.step_rules.specs.Rule.{Target}
use Rattle.buffer_laws.specs.StageMem.{Staging}
use Rattle.alloc_laws.specs.Goes.Fits.{has_spans}
use Rattle.alloc_laws.specs.Stage.Staging.{has_window, is_unused, are_of_numbers, scope_round}

abbrev pub fits : Staging → Target → Opened → Bool
fits w t o =
    has_window (sort_in (scope_round t o) w.root) (length w.coords)
    && (not (has_spans w.root (extents_of t.proc w.root) w.coords o.piece)
    && (is_unused w t o || are_of_numbers (scope_round t o) w.coords))
