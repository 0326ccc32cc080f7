use Rattle.std.proofs.Common.{map, arith}
use Rattle.std.specs.List.{filter}
use Rattle.c_tree.specs.Plain.{plain_struct}
use Rattle.c_lowering.specs.Made.LoweredUnit.{all_structs}
use Rattle.c_printer.specs.Found.{has}
use Rattle.c_printer.proofs.Ranks.{next_rank}
use Rattle.c_printer.proofs.structs.listed_structs.Goals as goal

pub loop-k-preserved : goal.loop-k-preserved
loop-k-preserved c =
    let test = has c.args.found.now in
    next_rank test c.loop-k.k (map plain_struct c.loop-k.made.items) (map plain_struct c.put_rank.new.made.items) (filter test all_structs) (omega arith) c.in_ok-put_rank.ensures c.loop-k.invariant
