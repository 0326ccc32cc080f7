use Rattle.std.proofs.Common.{map}
use Rattle.block_matches.specs.Pairs.Held.{ids_in}
use Rattle.block_matches.specs.Pairs.PlainBuffer.{plain_buffer}
use Rattle.block_matches.specs.PlainMoving.{plain_moving}
use Rattle.block_matches.specs.PlainUse.{plain_use}
use Rattle.block_matches.proofs.Asked.{tried_none}
use Rattle.block_matches.proofs.arguments.Windows.tried.Goals as goal

pub returns-in-None-clause-value : goal.returns-in-None-clause-value
returns-in-None-clause-value g c =
    let at = g.R.Reader.reading c.args.self.now.reader.now in
    let m = plain_moving c.args.self.now.by in
    let bound = ids_in c.args.self.now.bound.now in
    let s = c.args.sought.now in
    tried_none at m bound s.whole (plain_buffer s.buffer.now) s.dims.now (plain_use s.first.now)
    (map plain_use s.others.now) c.args.listed.now _ c.in_ok-fitting.field-0 c.in_ok-fitting.ensures.value c.in-None.is
