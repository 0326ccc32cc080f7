use Rattle.std.proofs.Common.{refl, sym, subst}
use Rattle.exo_modes.specs.Calls.Marked.{Marked}
use Rattle.exo_modes.proofs.OfCalls.Sets.{marked_then}
use Rattle.exo_tree.specs.Tree.{block}
use Rattle.exo_tree.specs.PlainStatement.{statement}
use Rattle.c_lowering.specs.Made.LoweredUnit.{in_block, in_statement}
use Rattle.c_printer.proofs.Marking.{rest_marked}
use Rattle.c_printer.proofs.fields.+marked.Goals as goal

pub mark_block-loop-k-preserved : goal.mark_block-loop-k-preserved
mark_block-loop-k-preserved t c = λ new h. c.loop-k.invariant new (rest_marked in_statement (λ f ss. in_block f (block ss)) (λ f a rest. refl) (statement c.statement.result.now) _ _ c.loop-k.marks c.mark_statement.new.marks new c.statement.ensures.value c.mark_statement.ensures h)

pub mark_statement-returns-in-If : goal.mark_statement-returns-in-If
mark_statement-returns-in-If t c = subst (λ s. Marked (λ f. in_statement f (statement s)) c.args.marks.now c.mark_block-in-If.new.marks) (sym c.in-If.is) (marked_then _ _ _ _ _ (marked_then _ _ _ _ _ c.mark_condition.ensures c.mark_block.ensures) c.mark_block-in-If.ensures)
