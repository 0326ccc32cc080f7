-- Whether the other statements may write the field.
use Rattle.std.proofs.Common.{◌≡◌, drop}
use Rattle.exo_tree.specs.Tree.{block}
use Rattle.meaning_laws.specs.Fields.{writes_field}
use Rattle.config_state.specs.FieldSets.{in_table}
use Rattle.check_facts.proofs.writes.+writes.Given as goal

abbrev pub decreases-writes : goal.decreases-writes
decreases-writes l = goal.size-writes l

abbrev pub decreases-statement_writes : goal.decreases-statement_writes
decreases-statement_writes l = goal.size-statement_writes l

abbrev pub invariant-writes-loop-k : goal.invariant-writes-loop-k
invariant-writes-loop-k l = writes_field (in_table l.table) l.f.0 (block (drop l.k l.b)) ≡ writes_field (in_table l.table) l.f.0 (block l.b)
