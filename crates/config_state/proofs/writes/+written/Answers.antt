use Rattle.std.proofs.Common.{◌≤◌, ℕ, length, refl, arith}
use Rattle.exo_tree.specs.Tree.{Block}
use Rattle.exo_tree.specs.PlainStatement.{statement}
use Rattle.meaning_laws.specs.Fields.{writes_field, step_writes_field}
use Rattle.config_state.specs.FieldSets.{in_table}
use Rattle.config_state.proofs.Sets.{block_marked, block_ended}
use Rattle.config_state.proofs.writes.+written.Goals as goal

pub add_written-loop-k-preserved : goal.add_written-loop-k-preserved
add_written-loop-k-preserved t c = λ new h. c.loop-k.invariant new (block_marked (λ b f. writes_field (in_table c.args.table.now) f b) (λ a f. step_writes_field (in_table c.args.table.now) f a) (λ a b f. refl) c.args.b.now _ c.loop-k.k (statement c.statement.result.now) c.loop-k.set c.add_written_by.new.set new c.statement.ensures.value c.add_written_by.ensures h)

pub add_written-returns : goal.add_written-returns
add_written-returns t c =
    let writes = λ (b : Block) (f : ℕ). writes_field (in_table c.args.table.now) f b in
    let h : length c.args.b.now ≤ c.loop-k.k = omega (arith, c.len-k-end.ensures, c.loop-k-test.false) in
    c.loop-k.invariant c.loop-k.set (block_ended writes (λ f. refl) c.args.b.now c.loop-k.k c.loop-k.set h)
