use Rattle.std.proofs.Common.{refl, arith}
use Rattle.exo_tree.specs.PlainControl.{condition}
use Rattle.c_lowering.specs.Made.LoweredUnit.{in_condition, in_conditions}
use Rattle.c_printer.proofs.Lists.{mapped_next}
use Rattle.c_printer.proofs.Marking.{rest_marked}
use Rattle.c_printer.proofs.fields.mark_conditions.Goals as goal

pub loop-c-preserved : goal.loop-c-preserved
loop-c-preserved c = λ new h. c.loop-c.invariant new (rest_marked in_condition in_conditions (λ f x rest. refl) (condition c.c-item.result) _ _ c.loop-c.marks c.mark_condition.new.marks new (mapped_next condition c.as_slice-c-items.result.now c.loop-c.c-index c.c-item.result (omega arith) c.c-item.is) c.mark_condition.ensures h)
