use Rattle.std.proofs.Common.{◌≤◌, ℕ, ◌||◌, length, refl, sym, ap, subst, arith}
use Rattle.exo_tree.specs.Tree.{Block, block}
use Rattle.exo_tree.specs.PlainControl.{condition}
use Rattle.exo_tree.specs.PlainStatement.{statement}
use Rattle.meaning_laws.specs.Live.{read_by_condition}
use Rattle.config_state.specs.Reads.{reads_field, step_reads_field}
use Rattle.config_state.specs.FieldSets.{in_table, Marked}
use Rattle.config_state.proofs.Sets.{block_marked, block_ended, marked_then}
use Rattle.config_state.proofs.reading.+read.Goals as goal

pub add_read-loop-k-preserved : goal.add_read-loop-k-preserved
add_read-loop-k-preserved t c = λ new h. c.loop-k.invariant new (block_marked (λ b f. reads_field (in_table c.args.table.now) f b) (λ a f. step_reads_field (in_table c.args.table.now) f a) (λ a b f. refl) c.args.b.now _ c.loop-k.k (statement c.statement.result.now) c.loop-k.set c.add_read_by.new.set new c.statement.ensures.value c.add_read_by.ensures h)

pub add_read-returns : goal.add_read-returns
add_read-returns t c =
    let reads = λ (b : Block) (f : ℕ). reads_field (in_table c.args.table.now) f b in
    let h : length c.args.b.now ≤ c.loop-k.k = omega (arith, c.len-k-end.ensures, c.loop-k-test.false) in
    c.loop-k.invariant c.loop-k.set (block_ended reads (λ f. refl) c.args.b.now c.loop-k.k c.loop-k.set h)

pub add_read_by-returns-in-If : goal.add_read_by-returns-in-If
add_read_by-returns-in-If t c =
    let reads = λ (b : Block) (f : ℕ). reads_field (in_table c.args.table.now) f b in
    let first = λ (f : ℕ). read_by_condition f (condition c.in-If.c) in
    let a = block c.in-If.a in
    let b = block c.in-If.b in
    let old = c.args.set.now in
    subst (λ s. Marked (λ f. step_reads_field (in_table c.args.table.now) f s) old c.add_read-in-If.new.set)
    (sym (ap statement c.in-If.is))
    (marked_then first (λ f. reads a f || reads b f) old c.add_condition.new.set c.add_read-in-If.new.set
    c.add_condition.ensures
    (marked_then (reads a) (reads b) c.add_condition.new.set c.add_read.new.set c.add_read-in-If.new.set
    c.add_read.ensures c.add_read-in-If.ensures))
