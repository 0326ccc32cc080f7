-- The procedures so far have their names and origins.
use Rattle.std.proofs.Common.{◌≡◌, map, take, length}
use Rattle.exo_tree.specs.PlainProcedure.{procedure}
use Rattle.schedule_laws.specs.Versions.Versions.{of_text, unmoved, names_from}
use Rattle.config_live.specs.Origins.{origin}
use Rattle.schedule_run.specs.PlainVersions.{binding}
use Rattle.schedule_run.proofs.session.Session.start.Given as goal

abbrev pub invariant-loop-p : goal.invariant-loop-p
invariant-loop-p l = record {
  origins :
      map origin l.origins.items ≡ map (λ p. of_text) (take l.p-index (map procedure l.p-items));
  edits : l.edits.items ≡ map (λ p. unmoved) (take l.p-index (map procedure l.p-items));
  count : length l.origins.items ≡ l.p-index;
  names : map binding l.names.items ≡ names_from 0 (take l.p-index (map procedure l.p-items));
}
