use Rattle.std.proofs.Common.{refl, arith}
use Rattle.exo_tree.specs.PlainArgument.{argument}
use Rattle.c_lowering.specs.Made.LoweredUnit.{in_argument, in_arguments}
use Rattle.c_printer.proofs.Lists.{mapped_next}
use Rattle.c_printer.proofs.Marking.{rest_marked}
use Rattle.c_printer.proofs.fields.mark_arguments.Goals as goal

pub loop-a-preserved : goal.loop-a-preserved
loop-a-preserved c = λ new h. c.loop-a.invariant new (rest_marked in_argument in_arguments (λ f x rest. refl) (argument c.a-item.result) _ _ c.loop-a.marks c.mark_argument.new.marks new (mapped_next argument c.as_slice-a-items.result.now c.loop-a.a-index c.a-item.result (omega arith) c.a-item.is) c.mark_argument.ensures h)
