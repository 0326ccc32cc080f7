use Rattle.std.proofs.Common.{length, ◌∙◌}
use Rattle.std.proofs.lemmas.List.{length-map}
use Rattle.exo_tree.specs.PlainUnit.{program}
use Rattle.exo_modes.specs.Aliases.{roots_in}
use Rattle.piece_modes.specs.Strides.Seen.{passes}
use Rattle.piece_modes.specs.Strides.PlainTable.{rows}
use Rattle.piece_modes.proofs.OfStrides.Rows.{row_there, row_nowhere, row_passes}
use Rattle.piece_modes.proofs.strides.walk.call_sees.Goals as goal

pub returns-in-Some : goal.returns-in-Some
returns-in-Some c =
    let rs = c.args.above.now.rows.now in
    let root = roots_in c.args.aliases.now in
    let y = c.args.y in
    c.is_passed.ensures
    ∙ (λ i. passes (c.deref.ensures.value i) root y (c.as_slice.ensures i))
    ∙ row_there (λ v. v.items) rs c.args.k.0 c.in-Some.row.now root y c.args.args.now c.in-Some.ensures.lookup.3.0 c.in-Some.ensures.lookup.1
    ∙ row_passes (rows rs) (program c.args.above.now.unit.now) (length rs) c.requires (length-map rs (λ v. v.items)) c.args.k.0 root y c.args.args.now

pub returns-in-None : goal.returns-in-None
returns-in-None c =
    let rs = c.args.above.now.rows.now in
    let root = roots_in c.args.aliases.now in
    row_nowhere (λ v. v.items) rs c.args.k.0 root c.args.y c.args.args.now c.in-None.ensures.lookup.3
    ∙ row_passes (rows rs) (program c.args.above.now.unit.now) (length rs) c.requires (length-map rs (λ v. v.items)) c.args.k.0 root c.args.y c.args.args.now
