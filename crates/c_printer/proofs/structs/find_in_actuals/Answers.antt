use Rattle.std.proofs.Common.{refl, arith}
use Rattle.std.specs.List.{list_any}
use Rattle.c_tree.specs.Plain.{plain_actual}
use Rattle.c_lowering.specs.Made.LoweredUnit.{in_actual}
use Rattle.c_printer.proofs.Lists.{mapped_next, none_mapped}
use Rattle.c_printer.proofs.Finding.{rest_found, nothing_left}
use Rattle.c_printer.proofs.structs.find_in_actuals.Goals as goal

pub loop-a-preserved : goal.loop-a-preserved
loop-a-preserved c = λ new h. c.loop-a.invariant new (rest_found in_actual (λ s xs. list_any (in_actual s) xs) (λ s x rest. refl) (plain_actual c.a-item.result) _ _ c.loop-a.found c.find_in_actual.new.found new (mapped_next plain_actual c.args.args.now c.loop-a.a-index c.a-item.result (omega arith) c.a-item.is) c.in_ok-find_in_actual.ensures h)

pub returns : goal.returns
returns c = c.loop-a.invariant c.loop-a.found (nothing_left (λ s xs. list_any (in_actual s) xs) (λ s. refl) _ c.loop-a.found (none_mapped plain_actual c.args.args.now c.loop-a.a-index (omega arith)))
