use Rattle.std.proofs.Common.{◌≡◌, map, take, true}
use Rattle.std.specs.List.{list_all}
use Rattle.affine_systems.specs.Systems.{system, is_small}
use Rattle.affine_systems.specs.PlainCases.{plain_cases}
use Rattle.affine_systems.specs.Outcomes.{owed, plain_obligation}
use Rattle.affine_systems.proofs.obligation.owed_in.Given as goal

abbrev pub invariant-loop-case : goal.invariant-loop-case
invariant-loop-case l = record {
  owed : map plain_obligation l.owed.items ≡ map (owed l.what l.place) (map system (plain_cases (take l.case-index l.cases)));
  small : list_all is_small (map system (plain_cases (take l.case-index l.cases))) ≡ true;
}
