-- What the arguments so far break, and what is left.
use Rattle.std.proofs.Common.{◌≡◌, ◌+◌, [], drop, map}
use Rattle.exo_reader.specs.Views.{plain_argument}
use Rattle.exo_modes.specs.Aliases.{roots_in}
use Rattle.exo_modes.specs.Seen.{row_writes}
use Rattle.exo_types.specs.ArgumentRules.{arguments_faults, spaced_width}
use Rattle.exo_types.proofs.Gone.{Gone}
use Rattle.exo_tree.specs.PlainParam.{parameter}
use Rattle.exo_types.proofs.call.test_arguments.Given as goal

abbrev pub invariant-loop-k : goal.invariant-loop-k
invariant-loop-k l = record {
  count : l.next + spaced_width (map plain_argument (drop l.k l.arguments)) ≡ l.n + spaced_width (map plain_argument l.arguments);
  gone : Gone l.charge (arguments_faults l.names.fields.now (row_writes l.callee.writes.now) l.names.scope.now (roots_in l.aliases) l.passed.items (map parameter (drop l.k l.params)) l.next (map plain_argument (drop l.k l.arguments))) (arguments_faults l.names.fields.now (row_writes l.callee.writes.now) l.names.scope.now (roots_in l.aliases) [] (map parameter l.params) l.n (map plain_argument l.arguments));
}
