use Rattle.std.proofs.Common.{map, arith}
use Rattle.block_matches.specs.Pairs.Held.{ids_in}
use Rattle.match_laws.specs.Windows.{all_of_name}
use Rattle.block_matches.specs.PlainMoving.{plain_moving}
use Rattle.block_matches.specs.PlainUse.{plain_use}
use Rattle.block_matches.proofs.Named.{free_and}
use Rattle.block_matches.proofs.arguments.Windows.are_of_one.Goals as goal

pub returns-then-not-has : goal.returns-then-not-has
returns-then-not-has g c =
    let at = g.R.Reader.reading c.args.self.now.reader.now in
    let m = plain_moving c.args.self.now.by in
    let bound = ids_in c.args.self.now.bound.now in
    let name = c.args.first.now.name.0 in
    free_and c.has.result (bound name) c.all_of_name.result
    (all_of_name at m bound name (map plain_use c.args.others.now)) (grind arith) c.has.ensures
    (c.all_of_name.ensures at m bound)
