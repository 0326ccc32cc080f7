use Rattle.std.proofs.Common.{◌≡◌, Bool, Option, map, subst, option_map, IfOk}
use Rattle.exo_tree.specs.Tree.{Argument}
use Rattle.exo_tree.specs.PlainArgument.{argument}
use Rattle.exo_tree.specs.PlainControl.{control}
use Rattle.block_matches.specs.Pairs.Held.{ids_in}
use Rattle.block_matches.specs.Pairs.PlainBuffer.{plain_buffer}
use Rattle.block_matches.specs.PlainMoving.{plain_moving}
use Rattle.block_matches.specs.PlainUse.{plain_use}
use Rattle.tree_uses.specs.Outcomes.{ComesIf}
use Rattle.block_matches.proofs.Trials.{among_from, trials_from}
use Rattle.block_matches.proofs.arguments.Windows.first_fitting.Goals as goal

pub returns-clause-value : goal.returns-clause-value
returns-clause-value g c =
    let at = g.R.Reader.reading c.args.self.now.reader.now in
    let m = plain_moving c.args.self.now.by in
    let bound = ids_in c.args.self.now.bound.now in
    let b = plain_buffer c.args.sought.now.buffer.now in
    let u = plain_use c.args.sought.now.first.now in
    let us = map plain_use c.args.sought.now.others.now in
    let whole = c.args.sought.now.whole in
    let ds = c.args.sought.now.dims.now in
    subst (λ (z : Option Argument). IfOk c.among.result (λ o. option_map argument o ≡ z))
    (among_from at m bound whole b ds u us c.new-listed.result.items
    (map control c.as_slice.result.now) c.args.sought.now.buffer.now.extents
    (map control c.args.dims.now) c.new-listed.ensures.items c.as_slice.ensures)
    c.among.ensures.value

pub returns-clause-fits : goal.returns-clause-fits
returns-clause-fits g c =
    let at = g.R.Reader.reading c.args.self.now.reader.now in
    let m = plain_moving c.args.self.now.by in
    let bound = ids_in c.args.self.now.bound.now in
    let b = plain_buffer c.args.sought.now.buffer.now in
    let u = plain_use c.args.sought.now.first.now in
    let us = map plain_use c.args.sought.now.others.now in
    let whole = c.args.sought.now.whole in
    let ds = c.args.sought.now.dims.now in
    subst (λ (z : Bool). ComesIf c.among.result z)
    (trials_from at m bound whole b ds u us c.new-listed.result.items
    (map control c.as_slice.result.now) c.args.sought.now.buffer.now.extents
    (map control c.args.dims.now) c.new-listed.ensures.items c.as_slice.ensures)
    c.among.ensures.fits
