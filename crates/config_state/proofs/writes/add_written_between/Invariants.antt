use Rattle.std.specs.Prelude.{slice_range}
use Rattle.exo_tree.specs.Tree.{block}
use Rattle.meaning_laws.specs.Fields.{writes_field}
use Rattle.config_state.specs.FieldSets.{in_table, Marked}
use Rattle.config_state.proofs.writes.add_written_between.Given as goal

-- what is left would add to the set what all would add to the set as it was
abbrev pub invariant-loop-k : goal.invariant-loop-k
invariant-loop-k l = (new : _) → Marked (λ f. writes_field (in_table l.table) f (block (slice_range l.b l.k l.to))) l.set new → Marked (λ f. writes_field (in_table l.table) f (block (slice_range l.b l.from l.to))) l.initial.set new
