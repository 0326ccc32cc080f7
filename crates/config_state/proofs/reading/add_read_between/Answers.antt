use Rattle.std.proofs.Common.{refl, sym, subst}
use Rattle.exo_tree.specs.Tree.{block}
use Rattle.exo_tree.specs.PlainStatement.{statement}
use Rattle.config_state.specs.Reads.{reads_field, step_reads_field}
use Rattle.config_state.specs.FieldSets.{in_table, Marked}
use Rattle.config_state.proofs.Sets.{marked_none, range_marked, range_end}
use Rattle.config_state.proofs.reading.add_read_between.Goals as goal

pub loop-k-preserved : goal.loop-k-preserved
loop-k-preserved c = λ new h. c.loop-k.invariant new (range_marked (λ b f. reads_field (in_table c.args.table.now) f b) (λ a f. step_reads_field (in_table c.args.table.now) f a) (λ a b f. refl) c.args.b.now c.loop-k.k c.args.to (statement c.statement.result.now) c.loop-k.set c.add_read_by.new.set new c.loop-k-test.true c.statement.ensures.value c.add_read_by.ensures h)

pub returns : goal.returns
returns c = c.loop-k.invariant c.loop-k.set (subst (λ ss. Marked (λ f. reads_field (in_table c.args.table.now) f (block ss)) c.loop-k.set c.loop-k.set) (sym (range_end c.args.b.now c.loop-k.k c.args.to c.loop-k-test.false)) (marked_none c.loop-k.set))
