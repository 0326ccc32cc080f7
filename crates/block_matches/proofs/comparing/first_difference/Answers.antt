use Rattle.block_matches.specs.Pairs.PlainPair.{plain_pair}
use Rattle.block_matches.specs.PlainMoving.{plain_moving}
use Rattle.block_matches.proofs.Differing.{differs_here, short_here}
use Rattle.block_matches.proofs.comparing.first_difference.Goals as goal

pub returns-then-branch-clause-value : goal.returns-then-branch-clause-value
returns-then-branch-clause-value g c =
    differs_here plain_pair (g.R.Reader.reading c.args.reader.now) (plain_moving c.args.by.now) c.args.pairs.now
    c.loop-pair.pair-index c.pair-item.result c.pair-item.is c.loop-pair-test.true c.path_of.result
    c.in_ok-differs.field-0 c.loop-pair.invariant.0 c.in_ok-differs.ensures.value c.if-branch.true c.path_of.ensures

pub returns-then-branch-clause-fits : goal.returns-then-branch-clause-fits
returns-then-branch-clause-fits g c =
    short_here plain_pair (g.R.Reader.reading c.args.reader.now) (plain_moving c.args.by.now) c.args.pairs.now
    c.loop-pair.pair-index c.pair-item.result c.pair-item.is c.loop-pair-test.true c.in_ok-differs.field-0
    c.loop-pair.invariant.1 c.in_ok-differs.ensures.fits c.in_ok-differs.ensures.value c.if-branch.true
