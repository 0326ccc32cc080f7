use Rattle.std.specs.List.{list_all}
use Rattle.exo_tree.specs.PlainControl.{coordinate}
use Rattle.match_laws.specs.Widths.{is_short}
use Rattle.tree_uses.proofs.Wide.{told_wide, item_wide}
use Rattle.tree_uses.specs.Simple.Changing.{coord_fits}
use Rattle.tree_uses.proofs.simple.simply.simpler_coords.Goals as goal

pub returns-in_err-simpler_coord-clause-fits : goal.returns-in_err-simpler_coord-clause-fits
returns-in_err-simpler_coord-clause-fits g c =
    let fits = coord_fits (is_short (g.R.Reader.reading c.args.reader.now)) in
    told_wide c.from_residual.result c.in_err-simpler_coord.field-0.0
    (fits (coordinate c.item-item.result)) (list_all fits c.args.cs.now)
    c.from_residual.ensures.1 c.in_err-simpler_coord.ensures.fits
    (item_wide fits (λ x. coordinate x) c.as_slice-item-items.result.now c.args.cs.now
    c.loop-item.item-index c.item-item.result c.as_slice-item-items.ensures c.item-item.is
    c.loop-item-test.true)
