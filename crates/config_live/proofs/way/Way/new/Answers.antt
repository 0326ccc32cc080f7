use Rattle.config_live.proofs.Ways.{start}
use Rattle.config_live.proofs.way.Way.new.Goals as goal

pub returns : goal.returns
returns c = start c.args.count _ c.in_ok-read.ensures c.in_ok-written.ensures c.new.ensures
