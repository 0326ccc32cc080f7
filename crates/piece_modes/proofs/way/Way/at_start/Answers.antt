use Rattle.std.proofs.Common.{map}
use Rattle.exo_tree.specs.PlainParam.{parameter}
use Rattle.piece_modes.proofs.Outside.{start_is}
use Rattle.piece_modes.proofs.way.Way.at_start.Goals as goal

pub returns : goal.returns
returns c =
    start_is (map parameter c.args.params.now) c.new-aliases.result.items c.in_ok-names.names.items
    c.new-aliases.ensures.items c.in_ok-names.ensures
