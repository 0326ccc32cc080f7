use Rattle.std.proofs.Common.{◌+◌, [], ◌∷◌, map, drop, get_or, ap, arith}
use Rattle.std.proofs.lemmas.List.{drop_more}
use Rattle.exo_tree.specs.declared.number.Cell.{Cell}
use Rattle.exo_tree.specs.declared.number.Cell.TheVariants.{I8}
use Rattle.exo_tree.specs.PlainBinder.{cell_type}
use Rattle.c_tree.specs.CTree.{StructOf}
use Rattle.c_tree.specs.Plain.{plain_struct}
use Rattle.c_lowering.specs.Made.LoweredUnit.{struct_at}
use Rattle.c_printer.specs.Found.{has}
use Rattle.c_printer.proofs.Ranks.{more_kept}
use Rattle.c_printer.proofs.structs.put_rank.Goals as goal

pub loop-cell-preserved : goal.loop-cell-preserved
loop-cell-preserved c =
    let cells = c.args.cells.now in
    let k = c.loop-cell.cell-index in
    let seen : Cell → StructOf = λ cell. struct_at c.args.rank (cell_type cell) in
    more_kept (has c.args.found.now) (seen (get_or cells k I8) ∷ []) (map seen (drop (k + 1) cells)) (map seen (drop k cells))
    (map plain_struct c.loop-cell.made.items) (map plain_struct c.put_struct.new.made.items) _
    (ap (map seen) (drop_more cells k I8 (omega arith))) c.in_ok-put_struct.ensures c.loop-cell.invariant
