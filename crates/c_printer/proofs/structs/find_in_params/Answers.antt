use Rattle.std.proofs.Common.{refl, arith}
use Rattle.std.specs.List.{list_any}
use Rattle.c_tree.specs.Plain.{plain_param}
use Rattle.c_lowering.specs.Made.LoweredUnit.{in_formal}
use Rattle.c_printer.proofs.Lists.{mapped_next, none_mapped}
use Rattle.c_printer.proofs.Finding.{rest_found, nothing_left}
use Rattle.c_printer.proofs.structs.find_in_params.Goals as goal

pub loop-p-preserved : goal.loop-p-preserved
loop-p-preserved c = λ new h. c.loop-p.invariant new (rest_found in_formal (λ s xs. list_any (in_formal s) xs) (λ s x rest. refl) (plain_param c.p-item.result) _ _ c.loop-p.found c.find_in_param.new.found new (mapped_next plain_param c.args.params.now c.loop-p.p-index c.p-item.result (omega arith) c.p-item.is) c.in_ok-find_in_param.ensures h)

pub returns : goal.returns
returns c = c.loop-p.invariant c.loop-p.found (nothing_left (λ s xs. list_any (in_formal s) xs) (λ s. refl) _ c.loop-p.found (none_mapped plain_param c.args.params.now c.loop-p.p-index (omega arith)))
