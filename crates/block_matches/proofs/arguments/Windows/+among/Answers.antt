use Rattle.std.proofs.Common.{◌≡◌, Bool, Option, map, subst, option_map, IfOk}
use Rattle.exo_tree.specs.Tree.{Argument}
use Rattle.exo_tree.specs.PlainArgument.{argument}
use Rattle.exo_tree.specs.PlainControl.{control}
use Rattle.block_matches.specs.Pairs.Held.{ids_in}
use Rattle.block_matches.specs.Pairs.PlainBuffer.{plain_buffer}
use Rattle.block_matches.specs.PlainMoving.{plain_moving}
use Rattle.block_matches.specs.PlainUse.{plain_use}
use Rattle.block_matches.specs.Trying.{tried, trial_is_short}
use Rattle.tree_uses.specs.Outcomes.{ComesIf}
use Rattle.block_matches.proofs.Trials.{among_none, trials_none}
use Rattle.block_matches.proofs.arguments.Windows.+among.Goals as goal

pub among-returns-in-None-None-clause-value : goal.among-returns-in-None-None-clause-value
among-returns-in-None-None-clause-value g t c =
    let at = g.R.Reader.reading c.args.self.now.reader.now in
    let m = plain_moving c.args.self.now.by in
    let bound = ids_in c.args.self.now.bound.now in
    let b = plain_buffer c.args.sought.now.buffer.now in
    let u = plain_use c.args.sought.now.first.now in
    let us = map plain_use c.args.sought.now.others.now in
    let whole = c.args.sought.now.whole in
    let ds = c.args.sought.now.dims.now in
    subst (λ (z : Option Argument). IfOk c.tried.result (λ o. option_map argument o ≡ z))
    (among_none
    (tried at m bound whole b ds u us) (trial_is_short at m bound whole ds u us) control
    c.args.listed.now.items c.as_slice.result.now c.as_slice.ensures.value c.args.left.now
    c.args.wanted.now c.in-None-None.ensures.cases c.in-None-None.ensures'.cases)
    c.tried.ensures.value

pub among-returns-in-None-None-clause-fits : goal.among-returns-in-None-None-clause-fits
among-returns-in-None-None-clause-fits g t c =
    let at = g.R.Reader.reading c.args.self.now.reader.now in
    let m = plain_moving c.args.self.now.by in
    let bound = ids_in c.args.self.now.bound.now in
    let b = plain_buffer c.args.sought.now.buffer.now in
    let u = plain_use c.args.sought.now.first.now in
    let us = map plain_use c.args.sought.now.others.now in
    let whole = c.args.sought.now.whole in
    let ds = c.args.sought.now.dims.now in
    subst (λ (z : Bool). ComesIf c.tried.result z)
    (trials_none
    (tried at m bound whole b ds u us) (trial_is_short at m bound whole ds u us) control
    c.args.listed.now.items c.as_slice.result.now c.as_slice.ensures.value c.args.left.now
    c.args.wanted.now c.in-None-None.ensures.cases c.in-None-None.ensures'.cases)
    c.tried.ensures.fits
