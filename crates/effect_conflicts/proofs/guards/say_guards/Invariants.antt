use Rattle.std.proofs.Common.{◌≡◌, ◌++◌, map, drop}
use Rattle.std.specs.List.{list_all}
use Rattle.exo_effects.specs.Accesses.{guard_of, guard_fits}
use Rattle.exo_effects.specs.PlainGuards.{all_facts}
use Rattle.exo_effects.specs.Renamed.{re_formula}
use Rattle.effect_conflicts.specs.PlainCopies.{renamed}
use Rattle.effect_conflicts.proofs.guards.say_guards.Given as goal

abbrev pub invariant-loop-guard : goal.invariant-loop-guard
invariant-loop-guard l = record {
  fits : list_all guard_fits (all_facts l.guards) ≡ list_all guard_fits (all_facts (drop l.guard-index l.guards));
  said : l.into ++ map (re_formula (renamed l.twin)) (map guard_of (all_facts (drop l.guard-index l.guards))) ≡ l.initial.into ++ map (re_formula (renamed l.twin)) (map guard_of (all_facts l.guards));
}
