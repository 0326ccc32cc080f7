use Rattle.std.proofs.Common.{drop}
use Rattle.exo_tree.specs.Tree.{block}
use Rattle.meaning_laws.specs.Fields.{writes_field}
use Rattle.config_state.specs.FieldSets.{in_table, Marked}
use Rattle.config_state.proofs.writes.+written.Given as goal

abbrev pub decreases-add_written : goal.decreases-add_written
decreases-add_written l = goal.size-add_written l

abbrev pub decreases-add_written_by : goal.decreases-add_written_by
decreases-add_written_by l = goal.size-add_written_by l

-- what is left would add to the set what the whole adds to the set as it was
abbrev pub invariant-add_written-loop-k : goal.invariant-add_written-loop-k
invariant-add_written-loop-k l = (new : _) → Marked (λ f. writes_field (in_table l.table) f (block (drop l.k l.b))) l.set new → Marked (λ f. writes_field (in_table l.table) f (block l.b)) l.initial.set new
