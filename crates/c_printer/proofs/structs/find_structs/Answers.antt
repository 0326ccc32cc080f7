use Rattle.std.proofs.Common.{refl, map, subst, arith}
use Rattle.std.specs.List.{list_any}
use Rattle.c_tree.specs.Plain.{plain_function}
use Rattle.c_lowering.specs.Made.LoweredUnit.{names_struct}
use Rattle.c_printer.specs.Found.{Found}
use Rattle.c_printer.proofs.Lists.{mapped_next, none_mapped}
use Rattle.c_printer.proofs.Finding.{rest_found, nothing_left}
use Rattle.c_printer.proofs.structs.find_structs.Goals as goal

pub loop-f-preserved : goal.loop-f-preserved
loop-f-preserved c = λ new h. c.loop-f.invariant new (rest_found names_struct (λ s xs. list_any (names_struct s) xs) (λ s x rest. refl) (plain_function c.f-item.result) _ _ c.loop-f.found c.find_in_function.new.found new (mapped_next plain_function c.args.functions.now c.loop-f.f-index c.f-item.result (omega arith) c.f-item.is) c.in_ok-find_in_function.ensures h)

pub returns : goal.returns
returns c =
    subst (λ set. Found (λ s. list_any (names_struct s) (map plain_function c.args.functions.now)) set c.loop-f.found) c.new-found.ensures
    (c.loop-f.invariant c.loop-f.found (nothing_left (λ s xs. list_any (names_struct s) xs) (λ s. refl) _ c.loop-f.found (none_mapped plain_function c.args.functions.now c.loop-f.f-index (omega arith))))
