use Rattle.std.proofs.Common.{◌≡◌, ◌++◌, map, drop}
use Rattle.std.specs.List.{list_all}
use Rattle.exo_tree.specs.PlainControl.{coordinate}
use Rattle.exo_effects.specs.Accesses.{coord_form, coord_fits}
use Rattle.exo_effects.specs.Conflicts.{re_coord}
use Rattle.exo_effects.specs.PlainAccess.{plain_coord}
use Rattle.effect_conflicts.specs.PlainCopies.{renamed}
use Rattle.effect_conflicts.proofs.copies.copied_coords.Given as goal

abbrev pub invariant-loop-c : goal.invariant-loop-c
invariant-loop-c l = record {
  fits : list_all coord_fits (map coordinate l.coords) ≡ list_all coord_fits (map coordinate (drop l.c-index l.coords));
  made : map plain_coord l.made.items ++ map (re_coord (renamed l.twin)) (map coord_form (map coordinate (drop l.c-index l.coords))) ≡ map (re_coord (renamed l.twin)) (map coord_form (map coordinate l.coords));
}
