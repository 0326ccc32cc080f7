use Rattle.std.proofs.Common.{OnOk, refl, sym, subst, arith}
use Rattle.std.proofs.lemmas.List.{drop_all}
use Rattle.std.proofs.lemmas.Result.{on_ok_weaker}
use Rattle.c_tree.specs.CTree.{cblock}
use Rattle.c_tree.specs.Plain.{plain_statement}
use Rattle.c_lowering.specs.Made.LoweredUnit.{struct_in, struct_in_block}
use Rattle.c_printer.specs.Found.{Found}
use Rattle.c_printer.proofs.Finding.{found_then, rest_found, nothing_left}
use Rattle.c_printer.proofs.structs.+named.Goals as goal

pub find_in_block-loop-k-preserved : goal.find_in_block-loop-k-preserved
find_in_block-loop-k-preserved t c = λ new h. c.loop-k.invariant new (rest_found struct_in (λ s ss. struct_in_block s (cblock ss)) (λ s a rest. refl) (plain_statement c.statement.result.now) _ _ c.loop-k.found c.find_in_statement.new.found new c.statement.ensures.value c.in_ok-find_in_statement.ensures h)

pub find_in_block-returns : goal.find_in_block-returns
find_in_block-returns t c = c.loop-k.invariant c.loop-k.found (nothing_left (λ s ss. struct_in_block s (cblock ss)) (λ s. refl) _ c.loop-k.found (drop_all c.loop-k.k c.args.b.now (omega arith)))

pub find_in_statement-returns-in_ok-find_in_block-in-Branch : goal.find_in_statement-returns-in_ok-find_in_block-in-Branch
find_in_statement-returns-in_ok-find_in_block-in-Branch t c =
    subst (λ a. OnOk c.find_in_block-in-Branch.result (Found (λ s. struct_in s (plain_statement a)) c.args.found.now c.find_in_block-in-Branch.new.found)) (sym c.in-Branch.is)
    (on_ok_weaker c.find_in_block-in-Branch.result (found_then _ _ _ _ _ c.in_ok-find_in_block-in-Branch.ensures) c.find_in_block-in-Branch.ensures)
