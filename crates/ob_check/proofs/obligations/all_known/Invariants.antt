use Rattle.std.proofs.Common.{◌≡◌, map, take, drop}
use Rattle.ob_check.specs.Systems.{system_found, system_known, missing_of}
use Rattle.ob_check.proofs.obligations.all_known.Given as goal

abbrev pub invariant-loop-one : goal.invariant-loop-one
invariant-loop-one l = record {
  rest : map system_known (drop l.next l.decided) ≡ missing_of (drop l.one-index l.found);
  known : map system_known l.all.items ≡ map system_found (take l.one-index l.found);
}
