use Rattle.std.proofs.Common.{drop}
use Rattle.exo_tree.specs.Tree.{block}
use Rattle.config_state.specs.Reads.{reads_field}
use Rattle.config_state.specs.FieldSets.{in_table, Marked}
use Rattle.config_state.proofs.reading.+read.Given as goal

-- what is left would add to the set what the whole adds to the set as it was
abbrev pub invariant-add_read-loop-k : goal.invariant-add_read-loop-k
invariant-add_read-loop-k l = (new : _) → Marked (λ f. reads_field (in_table l.table) f (block (drop l.k l.b))) l.set new → Marked (λ f. reads_field (in_table l.table) f (block l.b)) l.initial.set new
